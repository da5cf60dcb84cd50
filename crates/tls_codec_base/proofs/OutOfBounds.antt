-- Contents whose number of bytes a length field doesn't hold.
use Rattle.std.proofs.Common.{◌≡◌, ℕ, List, length, subst, arith}
use Rattle.tls_codec_grammar.specs.Tree.{Tree}
use Rattle.tls_codec_grammar.specs.Grammar.{Writing, content, utf8}
use Rattle.tls_codec_grammar.specs.Announced.{content_sum}
use Rattle.tls_codec_grammar.specs.Field.{Field, variable_field}
use Rattle.tls_codec_grammar.specs.Format.{Format, counted_list_format, text_format}
use Rattle.tls_codec_grammar.specs.Lawful.{MeetsFieldLaws, MeetsLaws}
use Rattle.tls_codec_grammar.specs.laws.FormatLaws.{content_length_sum, number_meets, variable_field_meets}
use Rattle.tls_codec_grammar.specs.laws.ListLaws.{content_announces}

-- the announced lengths add up to the shortest forms' if the field holds that, so it holds neither
pub content_out_of_bounds : {field : Field} {element : Format} → MeetsFieldLaws field → MeetsLaws element → (form : List ℕ) (v : Tree) → content element.spells Writing form v
    → (field.holds (length form) → ⊥) → (counted_list_format field element).out_of_bounds v
content_out_of_bounds {field} {element} m l form v p outside held =
    let sum : content_sum element.announced v ≡ length form = omega (arith, content_announces _ _ l.spelled form v p, content_length_sum element.announced v, m.small _ held) in
    outside (subst field.holds sum held)

-- a text is the content of its bytes
pub text_out_of_bounds : (form : List ℕ) (v : Tree) → utf8 Writing form v → (variable_field.holds (length form) → ⊥) → text_format.out_of_bounds v
text_out_of_bounds form v p outside = content_out_of_bounds variable_field_meets (number_meets 1 (omega arith)) form v p.0 outside
