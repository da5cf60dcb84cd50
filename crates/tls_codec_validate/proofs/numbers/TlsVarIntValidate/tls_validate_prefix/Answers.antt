use Rattle.std.proofs.Common.{Err}
use Rattle.std.proofs.lemmas.Result.{err_from_is_err_and}
use Rattle.tls_codec_wire.specs.VarintValue.{number_of}
use Rattle.tls_codec_grammar.specs.Tree.{Number}
use Rattle.tls_codec_grammar.proofs.VarintValues.{varint_splits}
use Rattle.tls_codec_validate.proofs.Placing.{rejected_here}
use Rattle.tls_codec_validate.proofs.Validating.{rejects}
use Rattle.tls_codec_validate.proofs.numbers.TlsVarIntValidate.tls_validate_prefix.Goals as goal

pub returns-in_err-rest-clause-validates : goal.returns-in_err-rest-clause-validates
returns-in_err-rest-clause-validates c =
    let p = err_from_is_err_and c.from_residual.result c.from_residual.ensures.1 in
    let refused = rw c.in_err-rest.ensures.err.0 at c.split_varint.ensures.err in
    rw (p.1, p.2) (rejects (varint_splits number_of _ (Err _) tt refused))

pub returns-in_err-rest-clause-rejected : goal.returns-in_err-rest-clause-rejected
returns-in_err-rest-clause-rejected c =
    let p = err_from_is_err_and c.from_residual.result c.from_residual.ensures.1 in
    rw (p.1, p.2) (rejected_here c.in_err-rest.ensures.err.1 (rw c.in_err-rest.ensures.err.0 at c.split_varint.ensures.err))

pub returns-clause-validates : goal.returns-clause-validates
returns-clause-validates c =
    let found = rw c.in_ok-rest.ensures.ok at c.split_varint.ensures.ok in
    record { value = Number _; begins = record { front = found.front; whole = found.whole; spelled = found.spelled } }
