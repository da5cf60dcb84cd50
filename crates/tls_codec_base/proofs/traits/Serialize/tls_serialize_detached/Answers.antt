use Rattle.std.proofs.lemmas.Result.{err_from_is_err_and}
use Rattle.tls_codec_grammar.proofs.Appending.{empty_made, empty_refused}
use Rattle.tls_codec_base.proofs.traits.Serialize.tls_serialize_detached.Goals as goal

pub returns-in_err-tls_serialize_into-clause-makes : goal.returns-in_err-tls_serialize_into-clause-makes
returns-in_err-tls_serialize_into-clause-makes g c =
    let p = err_from_is_err_and c.from_residual.result c.from_residual.ensures.1 in
    rw (p.1, p.2) (empty_refused c.new-bytes.ensures.items c.in_err-tls_serialize_into.ensures.appends)

pub returns-clause-makes : goal.returns-clause-makes
returns-clause-makes g c = empty_made _ c.new-bytes.ensures.items c.in_ok-tls_serialize_into.ensures.appends
