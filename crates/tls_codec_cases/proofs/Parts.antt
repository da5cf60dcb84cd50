-- What comes after a tag: the parts of this case, or those of the others.
use Rattle.std.proofs.Common.{◌≡◌, ℕ, ◌<◌, Bool, refl, ap}
use Rattle.std.specs.Prelude.{◌==◌, nat_le}
use Rattle.std.proofs.lemmas.Bool.{eq-eqb, lt-leb, ne_eqb}
use Rattle.tls_codec_grammar.specs.Format.{Format}
use Rattle.tls_codec_grammar.specs.Tagged.{either_format, no_format}
use Rattle.std.proofs.Common.{[], inl}
use Rattle.tls_codec_wire.specs.Device.{GivesNothing}
use Rattle.tls_codec_wire.specs.declared.device.Source.{Ghosts}
use Rattle.tls_codec_wire.specs.declared.error.Error.TheVariants.{UnknownValue}
use Rattle.tls_codec_wire.proofs.Seen.{refused_now}
use Rattle.tls_codec_grammar.specs.Decoding.{Named, RefusesFromSource}
use Rattle.tls_codec_wire.specs.Seen.{Causes}
use Rattle.tls_codec_base.specs.PartNames.{SliceNames}
use Rattle.tls_codec_base.specs.TaggedNames.{either_names, either_source_names, no_variant_source_names}

pub at_own : (t own : ℕ) (f g : Format) → t ≡ own → either_format (t == own) f g ≡ f
at_own t own f g e = ap (λ (u : Bool). either_format u f g) (eq-eqb t own e)

pub at_other : (t own : ℕ) (f g : Format) → (t ≡ own → ⊥) → either_format (t == own) f g ≡ g
at_other t own f g e = ap (λ (u : Bool). either_format u f g) (ne_eqb t own e)

pub names_at_own : (t own : ℕ) (f g : SliceNames) → t ≡ own → either_names (t == own) f g ≡ f
names_at_own t own f g e = ap (λ (u : Bool). either_names u f g) (eq-eqb t own e)

pub names_at_other : (t own : ℕ) (f g : SliceNames) → (t ≡ own → ⊥) → either_names (t == own) f g ≡ g
names_at_other t own f g e = ap (λ (u : Bool). either_names u f g) (ne_eqb t own e)

pub source_names_at_own : (t own : ℕ) (f g : Causes) → t ≡ own → either_source_names (t == own) f g ≡ f
source_names_at_own t own f g e = ap (λ (u : Bool). either_source_names u f g) (eq-eqb t own e)

pub source_names_at_other : (t own : ℕ) (f g : Causes) → (t ≡ own → ⊥) → either_source_names (t == own) f g ≡ g
source_names_at_other t own f g e = ap (λ (u : Bool). either_source_names u f g) (ne_eqb t own e)

-- ---- a tag past the greatest

pub past : (t most : ℕ) (f g : Format) → most < t → either_format (nat_le t most) f g ≡ g
past t most f g e = ap (λ (u : Bool). either_format u f g) (lt-leb t most e)

pub source_names_past : (t most : ℕ) (f g : Causes) → most < t → either_source_names (nat_le t most) f g ≡ g
source_names_past t most f g e = ap (λ (u : Bool). either_source_names u f g) (lt-leb t most e)

-- ---- a tag that no case has

module _ {S : Type 0} {source : Ghosts S} {a : S} (n : ℕ) (nothing : GivesNothing source.given) where
  pub unknown_leaves : RefusesFromSource no_format source a a (UnknownValue n)
  unknown_leaves = record { refused = refused_now [] nothing (nothing a) (λ rest. record { cause = inl (λ v r b. b.spelled); memory = λ h. absurd cc }) }

  pub unknown_named : Named no_format (no_variant_source_names n) source a a (UnknownValue n)
  unknown_named = record { refused = refused_now [] nothing (nothing a) (λ rest. (record { cause = inl (λ v r b. b.spelled); memory = λ h. absurd cc }, refl)) }
