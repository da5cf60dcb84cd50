use Rattle.std.proofs.Common.{rules, refl}
use Rattle.std.proofs.lemmas.List.{length-replicate}
use Rattle.std.proofs.lemmas.Result.{err_from_is_err_and}
use Rattle.tls_codec_grammar.proofs.Named.{named_leaves}
use Rattle.tls_codec_grammar.proofs.NumberRefusals.{digits_named}
use Rattle.tls_codec_grammar.proofs.digits.read_digits.Goals as goal

pub returns-clause-reads : goal.returns-clause-reads
returns-clause-reads g c =
    record {
      front = _;
      held = c.in_ok-read_exactly.ensures.filled;
      spelled = record { width = search rules; bytes = c.in_ok-read_exactly.ensures.bytes; number = refl };
    }

pub returns-in_err-read_exactly-clause-reads : goal.returns-in_err-read_exactly-clause-reads
returns-in_err-read_exactly-clause-reads g c =
    let p = err_from_is_err_and c.from_residual.result c.from_residual.ensures.1 in
    rw (p.1, p.2) (named_leaves (digits_named (length-replicate _ _) c.in_err-read_exactly.ensures.refused))

pub returns-in_err-read_exactly-clause-named : goal.returns-in_err-read_exactly-clause-named
returns-in_err-read_exactly-clause-named g c =
    let p = err_from_is_err_and c.from_residual.result c.from_residual.ensures.1 in
    rw (p.1, p.2) (digits_named (length-replicate _ _) c.in_err-read_exactly.ensures.refused)
