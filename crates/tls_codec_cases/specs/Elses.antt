-- One of some cases, or the case of every other tag.
use Rattle.std.proofs.Common.{◌≡◌, ℕ, ◌≤◌, Bool, true, false, ◌&&◌, ◌||◌, arith}
use Rattle.std.specs.Prelude.{nat_le}
use Rattle.std.proofs.lemmas.Bool.{and_parts, leb-true, le-leb, or_left, or_right}
use Rattle.tls_codec_cases.specs.declared.cases.Tags.{Ghosts as TagsGhosts}
use Rattle.tls_codec_cases.specs.declared.tag.Tag.{Ghosts as TagGhosts}
use Rattle.tls_codec_cases.specs.declared.other.Other.{Other}
use Rattle.tls_codec_cases.specs.declared.elses.Else.{Else}
use Rattle.tls_codec_cases.specs.declared.elses.Else.TheVariants.{Known, Unknown}

module _ {C U T : Type 0} {tags : TagsGhosts C} {tag : TagGhosts U} where
  abbrev pub else_of : {B : Type 0} → (C → B) → (Other C U T tags tag → B) → Else C U T tags tag → B
  else_of f g (Known c) = f c
  else_of f g (Unknown o) = g o

  abbrev pub else_tag : (C → ℕ) → Else C U T tags tag → ℕ
  else_tag f c = else_of f (λ o. tag.number o.tag) c

  -- ---- laws

  pub else_known : (f : C → ℕ) → ((c : C) → tags.variants.has (f c) ≡ true) → (c : Else C U T tags tag) → (tags.variants.has (else_tag f c) || nat_le (else_tag f c) tag.most) ≡ true
  else_known f p (Known c) = or_left (tags.variants.has (f c)) (nat_le (f c) tag.most) (p c)
  else_known f p (Unknown o) = or_right (tags.variants.has (tag.number o.tag)) (nat_le (tag.number o.tag) tag.most) (le-leb _ _ o.small)

  pub else_fits : (b : Bool) (most : ℕ) (f : C → ℕ) → ((c : C) → b ≡ true → f c ≤ most) → (c : Else C U T tags tag) → (b && nat_le tag.most most) ≡ true → else_tag f c ≤ most
  else_fits b most f p (Known c) h = p c (and_parts b (nat_le tag.most most) h).0
  else_fits b most f p (Unknown o) h = omega (arith, o.small, leb-true _ _ (and_parts b (nat_le tag.most most) h).1)

pub else_avoided : {A : Type 0} → false ≡ true → A
else_avoided h = absurd cc
