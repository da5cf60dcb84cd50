-- A value and zeros after it, which go to the end of what is read (RFC 9420, section 6.3.1).
use Rattle.std.specs.Prelude.{◌≡◌, ◌⊎◌, All, List, codes, ℕ}
use Rattle.tls_codec_wire.specs.declared.error.Error.{Error}
use Rattle.tls_codec_grammar.specs.Decoding.{Begins}
use Rattle.tls_codec_grammar.specs.Errors.{Says}
use Rattle.tls_codec_grammar.specs.Grammar.{Grammar}
use Rattle.tls_codec_grammar.specs.Tree.{Tree, Join, Number}
use Rattle.tls_codec_grammar.specs.Format.{Format, fields_format}
use Rattle.tls_codec_grammar.specs.Inside.{zeros_format}
use Rattle.tls_codec_grammar.specs.Lawful.{MeetsLaws, MeetsLawsInside}
use Rattle.tls_codec_grammar.specs.laws.InsideLaws.{fields_meet_inside, zeros_meet}
use Rattle.tls_codec_cases.specs.declared.padded.Padded.{Padded}

abbrev pub padded_plain : {T : Type 0} → (T → Tree) → Padded T → Tree
padded_plain plain v = Join (plain v.content) (Number v.padding)

abbrev pub padded_format : Format → Format
padded_format content = fields_format content zeros_format

pub padded_meets : {content : Format} → MeetsLaws content → MeetsLawsInside (padded_format content)
padded_meets l = fields_meet_inside l zeros_meet

-- ---- what is refused

-- x begins with a content, and a byte after that isn't zero
pub record LeavesNonzero (spells : Grammar) (x : List ℕ) : Type 0 where
  pub value : Tree
  pub rest : List ℕ
  pub begins : Begins spells x value rest
  pub some : All (λ b. b ≡ 0) rest → ⊥

-- the content is refused; or a byte after it isn't zero
abbrev pub RefusesPadded : Grammar → (List ℕ → Error → Type 0) → List ℕ → Error → Type 0
RefusesPadded spells names x e = names x e ⊎ (Says (codes "padding is not zeros") e × LeavesNonzero spells x)
