-- A select whose tag is elsewhere: the parts of the case that a context names (RFC 8446, section 3.8).
use Rattle.std.specs.Prelude.{◌≡◌, ℕ, Bool, true, false}
use Rattle.tls_codec_wire.specs.Seen.{Causes}
use Rattle.tls_codec_wire.specs.declared.error.Error.TheVariants.{UnknownValue}
use Rattle.tls_codec_grammar.specs.Tree.{Tree, Number}
use Rattle.tls_codec_grammar.specs.Format.{Format}
use Rattle.tls_codec_grammar.specs.Lawful.{MeetsLaws}
use Rattle.tls_codec_grammar.specs.Tagged.{MeetsVariantLaws, Variants, either_format}
use Rattle.tls_codec_grammar.specs.Contexts.{chosen_format}
use Rattle.tls_codec_grammar.specs.laws.ContextLaws.{chosen_meets}
use Rattle.tls_codec_base.specs.PartNames.{SliceNames}
use Rattle.tls_codec_base.specs.TaggedNames.{either_names, either_source_names}
use Rattle.tls_codec_cases.specs.Choice.{refused_format, refused_meets}

-- the number that an integer stands for
abbrev pub number_of : Tree → ℕ
number_of (Number n) = n
number_of _ = 0

-- the case of the tag n, of cases that are told apart
abbrev pub select_format : Bool → ℕ → Variants → Format
select_format sound n variants = either_format sound (chosen_format n variants) refused_format

abbrev pub select_names : Bool → SliceNames → SliceNames
select_names sound names = either_names sound names (λ x e. e ≡ UnknownValue 0)

abbrev pub select_source_names : Bool → Causes → Causes
select_source_names sound names = either_source_names sound names (λ x old new e. e ≡ UnknownValue 0)

pub select_meets : (sound : Bool) (n : ℕ) {variants : Variants} → MeetsVariantLaws variants → MeetsLaws (select_format sound n variants)
select_meets true n l = chosen_meets n l
select_meets false n l = refused_meets
