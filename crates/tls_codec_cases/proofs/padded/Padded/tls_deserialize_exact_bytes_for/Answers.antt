use Rattle.std.proofs.Common.{inl, inr, length, refl, rules}
use Rattle.std.proofs.lemmas.Result.{err_from_is_err_and}
use Rattle.tls_codec_grammar.specs.Tree.{Number}
use Rattle.tls_codec_grammar.specs.Grammar.{Reading}
use Rattle.tls_codec_grammar.specs.Inside.{zeros_format}
use Rattle.tls_codec_cases.proofs.UpToEnd.{inside_read, inside_refused_first, inside_refused_rest, none_zeros}
use Rattle.tls_codec_cases.proofs.padded.Padded.tls_deserialize_exact_bytes_for.Goals as goal

pub returns-in_err-content : goal.returns-in_err-content
returns-in_err-content g c =
    let p = err_from_is_err_and c.from_residual.result c.from_residual.ensures.1 in
    let content = g.T.SizeFor.format_for (g.C.Size.plain c.args.context.now) in
    record {
      reads = rw (p.1, p.2) (inside_refused_first content zeros_format c.in_err-content.ensures.splits);
      named = rw (p.1, p.2) (inl c.in_err-content.ensures.named);
    }

pub returns-then-not-are_zeros : goal.returns-then-not-are_zeros
returns-then-not-are_zeros g c =
    let context = g.C.Size.plain c.args.context.now in
    let content = g.T.SizeFor.format_for context in
    let none = none_zeros c.in_ok-content.rest.now (λ all. search rules) in
    record {
      reads = inside_refused_rest content zeros_format (g.met.T.SizeFor.lawful context) c.in_ok-content.ensures.splits (inl none);
      named = inr (refl, record { value = _; rest = _; begins = c.in_ok-content.ensures.splits; some = λ all. search rules });
    }

pub returns-clause-reads : goal.returns-clause-reads
returns-clause-reads g c =
    let content = g.T.SizeFor.format_for (g.C.Size.plain c.args.context.now) in
    let rest = c.in_ok-content.rest.now in
    let zeros : zeros_format.spells Reading rest (Number (length rest)) = (refl, search rules) in
    inside_read content zeros_format {vs = Number (length rest)} c.in_ok-content.ensures.splits zeros
