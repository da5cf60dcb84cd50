use Rattle.std.proofs.Common.{◌≡◌, ◌++◌, ℕ, List, sym, ap, subst, ◌∙◌}
use Rattle.std.specs.Io.KnownBytes.{Appends}
use Rattle.tls_codec_grammar.specs.Tree.{Tree}
use Rattle.tls_codec_grammar.specs.Grammar.{Grammar, Reading}
use Rattle.tls_codec_grammar.specs.Shortest.{IsShortest}
use Rattle.tls_codec_grammar.specs.Lawful.{IsLawful}
use Rattle.tls_codec_base.proofs.laws.what_was_read_is_written_again.Goals as goal

-- a form that is written is the bytes that were read
same : {spells : Grammar} {announced : Tree → ℕ} → IsLawful spells announced → (form front : List ℕ) (v : Tree) → IsShortest spells form v → spells Reading front v → form ≡ front
same l form front v p q = l.alone form front v p.spelled (l.written front v q)

pub returns : goal.returns
returns g c =
    let l = g.met.T.Size.lawful.spelled in
    record {
      given = λ old new form v b p. subst (λ (u : List ℕ). g.R.Source.given old u new) (sym (same l form b.front v p b.spelled)) b.held;
      made = λ x rest v bytes b p. b.whole ∙ ap (λ (u : List ℕ). u ++ rest) (sym (same l bytes.items b.front v p b.spelled));
      appended = λ x rest old new v n b p. p.held ∙ ap (λ (u : List ℕ). old ++ u) (same l p.form b.front v p.shortest b.spelled);
      sent = λ x rest v old new n b p. subst (λ (u : List ℕ). Appends (g.W.Sink.received old) (g.W.Sink.received new) u) (same l p.form b.front v p.shortest b.spelled) p.held;
    }
