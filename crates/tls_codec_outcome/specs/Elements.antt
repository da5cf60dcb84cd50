-- Elements of a list, by their places in some bytes.
use Rattle.std.specs.Prelude.{◌≡◌, ◌<◌, ◌≤◌, ℕ, List, length}
use Rattle.tls_codec_grammar.specs.Format.{Format}
use Rattle.tls_codec_base.specs.PartNames.{IsSpelling}
use Rattle.tls_codec_outcome.specs.Fields.{bytes_at, span_end}
use Rattle.tls_codec_outcome.specs.declared.fields.Span.{Span}

-- the bytes that are left
abbrev pub left_in : List ℕ → Span → List ℕ
left_in x left = bytes_at left.offset left.size x

-- what is left in x begins with the element, and the others are what is left after it
pub record IsNext (f : Format) (x : List ℕ) (left element others : Span) : Type 0 where
  pub begins : element.offset ≡ left.offset
  pub within : 0 < element.size → span_end element ≤ length x
  pub encoded : IsSpelling f.spells (bytes_at element.offset element.size x)
  pub behind : others.offset ≡ span_end element
  pub ends : span_end others ≡ span_end left
