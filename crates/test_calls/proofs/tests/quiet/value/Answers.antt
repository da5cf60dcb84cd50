use Rattle.std.proofs.Common.{◌≡◌, ◌∙◌, ℕ, List, ◌++◌, None, Result, Ok, Err, refl, sym, ap, subst, append_assoc}
use Rattle.std.specs.Prelude.{IfErr}
use Rattle.tls_codec.specs.Calls.{Error, Reads, SourceGhosts}
use Rattle.tls_codec.specs.Devices.{Counts, GivesInOrder, no_counts}
use Rattle.tls_codec.specs.Spellings.{Refuses, RefusesSeen}
use Rattle.tls_codec_grammar.specs.Format.{Format}
use Rattle.tls_codec_grammar.specs.Tree.{Tree}
use Rattle.tls_codec.proofs.Seen.{seen_untold}
use Rattle.tls_codec_base.proofs.Whole.{slice_refuses}
use Rattle.test_calls.proofs.tests.quiet.value.Goals as goal

module _ {T S : Type 0} (f : Format) (plain : T → Tree) (source : SourceGhosts S) (old new : S)
    (order : GivesInOrder source.given) (never : (s : S) → source.coming s ≡ None) (none : (s : S) → source.counts s ≡ no_counts) where
  as_slice : (result : Result T Error) → Reads f plain source old new result → IfErr result (λ e. (x : List ℕ) × source.given old x new × Refuses f.spells f.lean x e)
  as_slice (Ok v) p = tt
  as_slice (Err e) p =
      let x = p.refused.bytes in
      let before = subst (λ (u : Counts). RefusesSeen f.spells f.lean x u (source.counts new) e) (none old) p.refused.cause in
      (x, seen_untold order never p.refused.seen, slice_refuses f.spells f.lean x e (subst (λ (u : Counts). RefusesSeen f.spells f.lean x no_counts u e) (none new) before))

pub returns : goal.returns
returns g c = as_slice g.T.Size.format g.T.Size.plain _ _ _ (λ a xs b ys c p q. p ∙ ap (λ (u : List ℕ). xs ++ u) q ∙ sym (append_assoc xs ys c.left.now)) (λ s. refl) (λ s. refl) c.tls_deserialize.result c.tls_deserialize.ensures.reads
