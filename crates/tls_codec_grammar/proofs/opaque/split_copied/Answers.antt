use Rattle.std.proofs.Common.{List, ℕ, inl, sym, subst}
use Rattle.std.proofs.lemmas.Result.{err_from_is_err_and}
use Rattle.tls_codec_grammar.specs.Tree.{number_trees}
use Rattle.tls_codec_grammar.specs.Format.{counted_bytes_format}
use Rattle.tls_codec_grammar.specs.Decoding.{Begins}
use Rattle.tls_codec_grammar.proofs.opaque.split_copied.Goals as goal

pub returns-in_err-copy-clause-named : goal.returns-in_err-copy-clause-named
returns-in_err-copy-clause-named g c =
    let p = err_from_is_err_and c.from_residual-in_err-copy.result c.from_residual-in_err-copy.ensures.1 in
    rw (p.1, p.2) (inl (c.in_err-copy.ensures.err, record { value = _; rest = _; begins = c.in_ok-content.ensures.splits }))

pub returns-clause-splits : goal.returns-clause-splits
returns-clause-splits g c =
    subst (λ (u : List ℕ). Begins (counted_bytes_format g.F.LengthField.field).spells c.args.whole.now (number_trees u) c.in_ok-content.rest.now) (sym c.in_ok-copy.ensures.ok) c.in_ok-content.ensures.splits
