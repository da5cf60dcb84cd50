-- Length fields: what comes before a content and says how many bytes the content has.
use Rattle.std.specs.Prelude.{◌≡◌, ◌^◌, ◌<◌, ◌≤◌, ◌⊎◌, ℕ, List, length, codes}
use Rattle.tls_codec_wire.specs.Counts.{Counts}
use Rattle.tls_codec_wire.specs.Digits.{Digits}
use Rattle.tls_codec_wire.specs.Numbers.{BeginsNumber}
use Rattle.tls_codec_wire.specs.Transfer.{WriteRefused}
use Rattle.tls_codec_wire.specs.Varint.{VectorLength, width_below}
use Rattle.tls_codec_wire.specs.VarintCalls.{RefusesBelow}
use Rattle.tls_codec_wire.specs.declared.error.Error.{Error}
use Rattle.tls_codec_wire.specs.declared.error.Error.TheVariants.{EndOfStream, InvalidVectorLength}
use Rattle.tls_codec_grammar.specs.Errors.{Says}

pub record Field : Type 1 where
  -- which bytes spell which number
  pub spells : List ℕ → ℕ → Type 0
  -- how many bytes the spelling of a number has
  pub width : ℕ → ℕ
  -- which numbers have a spelling
  pub holds : ℕ → Type 0
  -- why bytes begin with no spelling, by the error that says so
  pub refuses : List ℕ → Error → Type 0
  -- which errors name a slice that has fewer bytes after the field than it declares, if bytes are not read one by one
  pub cut_off : Error → Type 0

-- a variable-length integer of at most 30 bits (RFC 9420, section 2.1.2)
abbrev pub variable_field : Field
variable_field = record {
  spells = VectorLength;
  width = width_below (2 ^ 30);
  holds = λ n. n < 2 ^ 30;
  refuses = RefusesBelow (2 ^ 30);
  cut_off = Says (codes "declared content is not there");
}

-- there are fewer than k bytes
abbrev pub RefusesDigits : ℕ → List ℕ → Error → Type 0
RefusesDigits k x EndOfStream = length x < k
RefusesDigits k x _ = ⊥

-- k bytes (RFC 8446, section 3.4)
abbrev pub fixed_field : ℕ → Field
fixed_field k = record { spells = Digits k; width = λ n. k; holds = λ n. n < 256 ^ k; refuses = RefusesDigits k; cut_off = λ e. e ≡ EndOfStream }

-- ---- lengths with bounds

-- n is neither below the least number nor above the most
abbrev pub IsBetween : (least most n : ℕ) → Type 0
IsBetween least most n = (least ≤ n) × (n ≤ most)

-- x begins with a number that is below the least one or above the most
pub record BeginsOutside (spells : List ℕ → ℕ → Type 0) (least most : ℕ) (x : List ℕ) : Type 0 where
  pub number : ℕ
  pub rest : List ℕ
  pub begins : BeginsNumber spells x number rest
  pub outside : (number < least) ⊎ (most < number)

-- what a field refuses, and numbers that are outside
abbrev pub RefusesOutside : Field → (least most : ℕ) → List ℕ → Error → Type 0
RefusesOutside field least most x InvalidVectorLength = field.refuses x InvalidVectorLength ⊎ BeginsOutside field.spells least most x
RefusesOutside field least most x e = field.refuses x e

-- the numbers of a field from a least to a most, as in `opaque cookie<1..2^16-1>` (RFC 8446, section 3.4)
abbrev pub bounded_field : (least most : ℕ) → Field → Field
bounded_field least most field = record {
  spells = λ x n. field.spells x n × IsBetween least most n;
  width = field.width;
  holds = λ n. field.holds n × IsBetween least most n;
  refuses = RefusesOutside field least most;
  cut_off = field.cut_off;
}

-- ---- to a sink

-- why a number is not sent: the field doesn't hold it; or it does, and the sink failed or had no memory
abbrev pub LengthNotSent : Field → ℕ → Counts → Counts → Error → Type 0
LengthNotSent field n old new InvalidVectorLength = ¬ field.holds n
LengthNotSent field n old new e = field.holds n × WriteRefused old new e

-- ---- the content

-- x begins with a length
pub record BeginsLength (field : Field) (x : List ℕ) : Type 0 where
  pub declared : ℕ
  pub rest : List ℕ
  pub begins : BeginsNumber field.spells x declared rest

-- x begins with a length, and fewer bytes come after it
pub record IsCutOff (field : Field) (x : List ℕ) : Type 0 where
  pub declared : ℕ
  pub rest : List ℕ
  pub begins : BeginsNumber field.spells x declared rest
  pub short : length rest < declared
