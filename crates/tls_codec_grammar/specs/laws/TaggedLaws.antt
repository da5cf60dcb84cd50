-- The laws of choices with a tag, from those of each variant's parts.
use Rattle.std.proofs.Common.{◌≡◌, ℕ, ◌<◌, ◌^◌, List, ◌++◌, length, Bool, true, false, ◌&&◌, ◌||◌, sym, ap, subst, refl, ◌∙◌, append_assoc}
use Rattle.std.specs.Prelude.{◌==◌}
use Rattle.tls_codec_wire.specs.declared.error.Error.{Error}
use Rattle.tls_codec_wire.specs.declared.error.Error.TheVariants.{OutOfMemory}
use Rattle.tls_codec_grammar.specs.Tree.{Tree, Number, Join}
use Rattle.tls_codec_grammar.specs.Grammar.{Direction, Reading, Writing, number, fields}
use Rattle.tls_codec_grammar.specs.Shortest.{HasNoSpelling}
use Rattle.tls_codec_grammar.specs.Announced.{capped, fields_length}
use Rattle.tls_codec_grammar.specs.Format.{Format}
use Rattle.tls_codec_grammar.specs.Lawful.{IsLawful, MeetsLaws}
use Rattle.tls_codec_grammar.specs.Tagged.{MeetsVariantLaws, Variants, no_variant, either_format, variant, tagged, tagged_format, tagged_length, tagged_refuses}
use Rattle.tls_codec_grammar.specs.laws.NumberLaws.{number_lawful}
use Rattle.tls_codec_grammar.specs.laws.FieldsLaws.{fields_lawful}
use Rattle.tls_codec_grammar.specs.laws.FormatLaws.{atom_meets}

-- ---- variants

pub no_variant_meets : MeetsVariantLaws no_variant
no_variant_meets = record {
  parts = λ tag. atom_meets (record {
    one = λ s t x y v w p q e. absurd p;
    alone = λ s t v p q. absurd p;
    written = λ s v p. absurd p;
    announces = λ s v p. absurd p;
  });
  unknown = λ tag h d s v p. p;
  memory = λ tag h. h;
}

either_meets : (b : Bool) (these those : Format) → MeetsLaws these → MeetsLaws those → MeetsLaws (either_format b these those)
either_meets true these those l m = l
either_meets false these those l m = m

neither_spelled : (b c : Bool) (these those : Format) (d : Direction) (s : List ℕ) (v : Tree) → (c ≡ false → those.spells d s v → ⊥) → (b || c) ≡ false → (either_format b these those).spells d s v → ⊥
neither_spelled true c these those d s v none h p = absurd cc
neither_spelled false c these those d s v none h p = none h p

these_take_memory : (a b : Bool) → a ≡ false → (a && b) ≡ false
these_take_memory a b e = ap (λ (u : Bool). u && b) e

those_take_memory : (a b : Bool) → b ≡ false → (a && b) ≡ false
those_take_memory true b e = e
those_take_memory false b e = refl

either_takes_memory : (b : Bool) (these those : Format) (lean : Bool) → (those.lean ≡ false → lean ≡ false) → (either_format b these those).lean ≡ false → (these.lean && lean) ≡ false
either_takes_memory true these those lean f h = these_take_memory these.lean lean h
either_takes_memory false these those lean f h = those_take_memory these.lean lean (f h)

-- one citation for each variant
pub variant_meets : (own : ℕ) {parts : Format} {others : Variants} → MeetsLaws parts → MeetsVariantLaws others → MeetsVariantLaws (variant own parts others)
variant_meets own {parts} {others} l m = record {
  parts = λ tag. either_meets (tag == own) parts (others.parts tag) l (m.parts tag);
  unknown = λ tag h d s v p. neither_spelled (tag == own) (others.has tag) parts (others.parts tag) d s v (λ e. m.unknown tag e d s v) h p;
  memory = λ tag h. either_takes_memory (tag == own) parts (others.parts tag) others.lean (m.memory tag) h;
}

-- ---- a tag and its parts

module _ (k : ℕ) (small : k < 2 ^ 64) (variants : Variants) (l : MeetsVariantLaws variants) where
  -- at one tag they are a product
  at_tag : (tag : ℕ) → IsLawful (fields (number k) (variants.parts tag).spells) (fields_length (λ v. k) (variants.parts tag).announced)
  at_tag tag = fields_lawful _ _ _ _ (number_lawful k small) (l.parts tag).spelled

  tagged_one : (s t x y : List ℕ) (v w : Tree) → tagged k variants Reading s v → tagged k variants Reading t w → s ++ x ≡ t ++ y → (s ≡ t) × (v ≡ w)
  tagged_one s t x y (Join (Number m) vs) (Join (Number n) ws) p q e =
      let long : p.front ++ (p.rest ++ x) ≡ q.front ++ (q.rest ++ y) = sym (append_assoc p.front p.rest x) ∙ ap (λ (u : List ℕ). u ++ x) (sym p.whole) ∙ e ∙ ap (λ (u : List ℕ). u ++ y) q.whole ∙ append_assoc q.front q.rest y in
      let tags = (number_lawful k small).one p.front q.front (p.rest ++ x) (q.rest ++ y) (Number m) (Number n) p.first q.first long in
      let same : n ≡ m = cc in
      let h = (at_tag m).one s t x y (Join (Number m) vs) (Join (Number m) ws) p (subst (λ (u : ℕ). fields (number k) (variants.parts u).spells Reading t (Join (Number u) ws)) same q) e in
      (h.0, h.1 ∙ ap (λ (u : ℕ). Join (Number u) ws) (sym same))
  tagged_one s t x y _ _ p q e = absurd search

  tagged_alone : (s t : List ℕ) (v : Tree) → tagged k variants Writing s v → tagged k variants Writing t v → s ≡ t
  tagged_alone s t (Join (Number m) vs) p q = (at_tag m).alone s t (Join (Number m) vs) p q
  tagged_alone s t _ p q = absurd p

  tagged_written : (s : List ℕ) (v : Tree) → tagged k variants Reading s v → tagged k variants Writing s v
  tagged_written s (Join (Number m) vs) p = (at_tag m).written s (Join (Number m) vs) p
  tagged_written s _ p = absurd p

  tagged_announces : (s : List ℕ) (v : Tree) → tagged k variants Writing s v → tagged_length k variants v ≡ capped (length s)
  tagged_announces s (Join (Number m) vs) p = (at_tag m).announces s (Join (Number m) vs) p
  tagged_announces s _ p = absurd p

  tagged_unspelled : (v : Tree) (e : Error) → tagged_refuses variants v e → HasNoSpelling (tagged k variants) v
  tagged_unspelled (Join (Number m) vs) e p s q = (l.parts m).unspelled vs e p q.rest q.second
  tagged_unspelled _ e p s q = absurd search

  tagged_not_memory : (v : Tree) → tagged_refuses variants v OutOfMemory → ⊥
  tagged_not_memory (Join (Number m) vs) p = (l.parts m).not_memory vs p
  tagged_not_memory _ p = absurd search

  tagged_all : MeetsLaws (tagged_format k variants)
  tagged_all = record {
    spelled = record { one = tagged_one; alone = tagged_alone; written = tagged_written; announces = tagged_announces };
    unspelled = tagged_unspelled;
    not_memory = tagged_not_memory;
    outside = λ v p. absurd p;
  }

-- a choice meets the laws, if what comes after each tag does
pub tagged_meets : (k : ℕ) {variants : Variants} → k < 2 ^ 64 → MeetsVariantLaws variants → MeetsLaws (tagged_format k variants)
tagged_meets k {variants} small l = tagged_all k small variants l
