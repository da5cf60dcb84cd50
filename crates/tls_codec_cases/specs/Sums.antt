-- Two lists of cases as one.
use Rattle.std.proofs.Common.{◌≡◌, ℕ, ◌≤◌, List, Bool, true, false, ◌&&◌, ◌||◌, refl, ap}
use Rattle.std.proofs.lemmas.Bool.{and_parts, or_left, or_right}
use Rattle.tls_codec_grammar.specs.Tree.{Tree}
use Rattle.tls_codec_grammar.specs.Grammar.{Direction}
use Rattle.tls_codec_grammar.specs.Format.{Format}
use Rattle.tls_codec_grammar.specs.Lawful.{MeetsLaws}
use Rattle.tls_codec_grammar.specs.Tagged.{MeetsVariantLaws, Variants, either_format}
use Rattle.tls_codec_wire.specs.Seen.{Causes}
use Rattle.tls_codec_base.specs.PartNames.{SliceNames}
use Rattle.tls_codec_base.specs.TaggedNames.{either_names, either_source_names}
use Rattle.tls_codec_cases.specs.declared.either.Or.{Or}
use Rattle.tls_codec_cases.specs.declared.either.Or.TheVariants.{First, Second}

abbrev pub either_variants : Variants → Variants → Variants
either_variants these those = record {
  has = λ tag. these.has tag || those.has tag;
  parts = λ tag. either_format (these.has tag) (these.parts tag) (those.parts tag);
  lean = these.lean && those.lean;
}

abbrev pub or_of : {X Y B : Type 0} → (X → B) → (Y → B) → Or X Y → B
or_of f g (First x) = f x
or_of f g (Second y) = g y

abbrev pub or_names : (ℕ → Bool) → (ℕ → SliceNames) → (ℕ → SliceNames) → ℕ → SliceNames
or_names has these those tag = either_names (has tag) (these tag) (those tag)

abbrev pub or_source_names : (ℕ → Bool) → (ℕ → Causes) → (ℕ → Causes) → ℕ → Causes
or_source_names has these those tag = either_source_names (has tag) (these tag) (those tag)

-- ---- laws

pub or_known : {X Y : Type 0} (these those : Variants) (f : X → ℕ) (g : Y → ℕ) → ((x : X) → these.has (f x) ≡ true) → ((y : Y) → those.has (g y) ≡ true) → (c : Or X Y) → (these.has (or_of f g c) || those.has (or_of f g c)) ≡ true
or_known these those f g p q (First x) = or_left (these.has (f x)) (those.has (f x)) (p x)
or_known these those f g p q (Second y) = or_right (these.has (g y)) (those.has (g y)) (q y)

pub or_fits : {X Y : Type 0} (a b : Bool) (most : ℕ) (f : X → ℕ) (g : Y → ℕ) → ((x : X) → a ≡ true → f x ≤ most) → ((y : Y) → b ≡ true → g y ≤ most) → (c : Or X Y) → (a && b) ≡ true → or_of f g c ≤ most
or_fits a b most f g p q (First x) h = p x (and_parts a b h).0
or_fits a b most f g p q (Second y) h = q y (and_parts a b h).1

pub or_avoided : {X Y : Type 0} (a b : Bool) (p : ℕ → Bool) (f : X → ℕ) (g : Y → ℕ) → ((x : X) → a ≡ true → p (f x) ≡ false) → ((y : Y) → b ≡ true → p (g y) ≡ false) → (c : Or X Y) → (a && b) ≡ true → p (or_of f g c) ≡ false
or_avoided a b p f g l r (First x) h = l x (and_parts a b h).0
or_avoided a b p f g l r (Second y) h = r y (and_parts a b h).1

either_meets : (b : Bool) (these those : Format) → MeetsLaws these → MeetsLaws those → MeetsLaws (either_format b these those)
either_meets true these those l m = l
either_meets false these those l m = m

neither_spelled : (b c : Bool) (these those : Format) (d : Direction) (s : List ℕ) (v : Tree) → (c ≡ false → those.spells d s v → ⊥) → (b || c) ≡ false → (either_format b these those).spells d s v → ⊥
neither_spelled true c these those d s v none h p = absurd cc
neither_spelled false c these those d s v none h p = none h p

these_take_memory : (a b : Bool) → a ≡ false → (a && b) ≡ false
these_take_memory a b e = ap (λ (u : Bool). u && b) e

those_take_memory : (a b : Bool) → b ≡ false → (a && b) ≡ false
those_take_memory true b e = e
those_take_memory false b e = refl

either_takes_memory : (b : Bool) (these those : Format) (x y : Bool) → (these.lean ≡ false → x ≡ false) → (those.lean ≡ false → y ≡ false) → (either_format b these those).lean ≡ false → (x && y) ≡ false
either_takes_memory true these those x y f g h = these_take_memory x y (f h)
either_takes_memory false these those x y f g h = those_take_memory x y (g h)

pub either_variants_meet : {these those : Variants} → MeetsVariantLaws these → MeetsVariantLaws those → MeetsVariantLaws (either_variants these those)
either_variants_meet {these} {those} l m = record {
  parts = λ tag. either_meets (these.has tag) (these.parts tag) (those.parts tag) (l.parts tag) (m.parts tag);
  unknown = λ tag h d s v p. neither_spelled (these.has tag) (those.has tag) (these.parts tag) (those.parts tag) d s v (λ e. m.unknown tag e d s v) h p;
  memory = λ tag h. either_takes_memory (these.has tag) (these.parts tag) (those.parts tag) these.lean those.lean (l.memory tag) (m.memory tag) h;
}
