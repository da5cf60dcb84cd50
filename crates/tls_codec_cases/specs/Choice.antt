-- What a list of cases says: its variants, whether its tags are told apart, and the format of a choice among them.
use Rattle.std.specs.Prelude.{◌≡◌, ◌<◌, ◌^◌, ℕ, List, Bool, true, false, Result, Ok, Err}
use Rattle.std.specs.Borrow.{Bor}
use Rattle.tls_codec_wire.specs.Seen.{Causes}
use Rattle.tls_codec_wire.specs.declared.device.Source.{Ghosts}
use Rattle.tls_codec_wire.specs.declared.error.Error.{Error}
use Rattle.tls_codec_wire.specs.declared.error.Error.TheVariants.{UnknownValue}
use Rattle.tls_codec_grammar.specs.Tree.{Tree, Number, Join}
use Rattle.tls_codec_grammar.specs.Format.{Format}
use Rattle.tls_codec_grammar.specs.Lawful.{MeetsLaws}
use Rattle.tls_codec_grammar.specs.Decoding.{Begins, GaveSpelling, Refuses, RefusesFromSource}
use Rattle.tls_codec_grammar.specs.Tagged.{MeetsVariantLaws, Variants, either_format, tagged_format}
use Rattle.tls_codec_grammar.specs.laws.TaggedLaws.{tagged_meets}
use Rattle.tls_codec_base.specs.PartNames.{SliceNames}
use Rattle.tls_codec_base.specs.TaggedNames.{either_names, either_source_names, tagged_names, tagged_source_names}

-- ---- a choice

-- what no bytes spell, and no encoder writes
abbrev pub refused_format : Format
refused_format = record {
  spells = λ d b v. ⊥;
  announced = λ v. 0;
  lean = true;
  refuses = λ v e. e ≡ UnknownValue 0;
  out_of_bounds = λ v. ⊥;
}

-- cases that are told apart by tags of k bytes
abbrev pub choice_format : Bool → ℕ → Variants → Format
choice_format sound k variants = either_format sound (tagged_format k variants) refused_format

abbrev pub choice_names : Bool → ℕ → (ℕ → SliceNames) → SliceNames
choice_names sound k names = either_names sound (tagged_names k names) (λ x e. e ≡ UnknownValue 0)

abbrev pub choice_source_names : Bool → ℕ → (ℕ → Causes) → Causes
choice_source_names sound k names = either_source_names sound (tagged_source_names k names) (λ x old new e. e ≡ UnknownValue 0)

-- ---- what comes after a tag

abbrev pub ReadsParts : {C S : Type 0} → Variants → (C → ℕ) → (C → Tree) → ℕ → Ghosts S → S → S → Result C Error → Type 0
ReadsParts variants tag_of parts tag source old new (Ok c) = (tag_of c ≡ tag) × GaveSpelling source.given (variants.parts tag).spells old new (parts c)
ReadsParts variants tag_of parts tag source old new (Err e) = RefusesFromSource (variants.parts tag) source old new e

abbrev pub SplitsParts : {C : Type 0} → Variants → (C → ℕ) → (C → Tree) → ℕ → List ℕ → Result (C × Bor (List ℕ)) Error → Type 0
SplitsParts variants tag_of parts tag x (Ok found) = (tag_of found.0 ≡ tag) × Begins (variants.parts tag).spells x (parts found.0) found.1.now
SplitsParts variants tag_of parts tag x (Err e) = Refuses (variants.parts tag).spells (variants.parts tag).lean x e

-- ---- laws

pub refused_meets : MeetsLaws refused_format
refused_meets = record {
  spelled = record {
    one = λ s t x y v w p q e. absurd p;
    alone = λ s t v p q. absurd p;
    written = λ s v p. absurd p;
    announces = λ s v p. absurd p;
  };
  unspelled = λ v e h s p. p;
  not_memory = λ v h. absurd cc;
  outside = λ v h. absurd h;
}

pub choice_meets : (sound : Bool) (k : ℕ) {variants : Variants} → k < 2 ^ 64 → MeetsVariantLaws variants → MeetsLaws (choice_format sound k variants)
choice_meets true k small l = tagged_meets k small l
choice_meets false k small l = refused_meets

-- ---- an enum's own tags and parts

abbrev pub choice_plain : {C : Type 0} → (C → ℕ) → (C → Tree) → C → Tree
choice_plain tag_of parts c = Join (Number (tag_of c)) (parts c)
