-- What an input is, and which bytes its text stands for.
use Rattle.std.specs.Prelude.{◌≡◌, ◌<◌, ◌≤◌, ℕ, ◌+◌, Bool, ◌==◌, ◌&&◌, ◌||◌, not, nat_le, if◌then◌else◌, List, length, filter, map, Option, Some, None, Ok, Err, ⊤}
use Rattle.std.specs.Io.KnownBytes.{IsAtEnd}
use Rattle.hex.specs.Hex.{decode_of}
use Rattle.hex.specs.declared.error.FromHexError.{FromHexError}
use Rattle.tls_codec.specs.Calls.{SourceGhosts}
use Rattle.tls_codec.specs.Devices.{Counts, FaultIsCounted, OnlyInterrupted}
use Rattle.view_input.specs.declared.fault.InputFault.{InputFault}
use Rattle.view_input.specs.declared.fault.InputFault.TheVariants.{Long, Read, Hex, Memory}

-- ---- what a text stands for

-- a tab, a line feed, a carriage return or a space
abbrev pub is_blank : ℕ → Bool
is_blank b = b == 9 || b == 10 || b == 13 || b == 32

-- the text without its blanks
abbrev pub digits_in : List ℕ → List ℕ
digits_in text = filter (λ b. not (is_blank b)) text

-- a digit in lower case
abbrev pub lower_digit : ℕ → ℕ
lower_digit c = if nat_le 65 c && nat_le c 70 then c + 32 else c

-- the text without its blanks, in lower case
abbrev pub lower_digits_in : List ℕ → List ℕ
lower_digits_in text = map lower_digit (digits_in text)

-- the digits of the text are the hex of these bytes
abbrev pub StandsFor : List ℕ → List ℕ → Type 0
StandsFor text bytes = decode_of (digits_in text) ≡ Ok bytes

-- the digits of the text are not hex
abbrev pub IsNoHex : List ℕ → Type 0
IsNoHex text = (e : FromHexError) × (decode_of (digits_in text) ≡ Err e)

-- why a text stands for no bytes
abbrev pub WhyNoBytes : List ℕ → InputFault → Type 0
WhyNoBytes text Hex = IsNoHex text
WhyNoBytes text Memory = ⊤
WhyNoBytes text _ = ⊥

-- ---- reading the text

-- how many bytes an input may have
abbrev pub longest : ℕ
longest = 1048576

-- the bytes that were to come, if they are known, are these
abbrev pub IsWhole : Option (List ℕ) → List ℕ → Type 0
IsWhole None text = ⊤
IsWhole (Some coming) text = coming ≡ text

-- more bytes were to come, if they are known, than an input may have
abbrev pub IsTooLong : Option (List ℕ) → Type 0
IsTooLong None = ⊤
IsTooLong (Some coming) = longest < length coming

-- the input gave just this text, all of it, and is at its end; nothing but interruptions was counted
pub record GaveAll {S : Type 0} (source : SourceGhosts S) (old new : S) (text : List ℕ) : Type 0 where
  pub held : source.given old text new
  pub at_end : IsAtEnd (source.coming new)
  pub whole : IsWhole (source.coming old) text
  pub size : length text ≤ longest
  pub retried : OnlyInterrupted (source.counts old) (source.counts new)

-- the input gave one byte more than an input may have
pub record GaveTooMuch {S : Type 0} (source : SourceGhosts S) (old new : S) : Type 0 where
  pub text : List ℕ
  pub held : source.given old text new
  pub size : length text ≡ longest + 1
  pub told : IsTooLong (source.coming old)
  pub retried : OnlyInterrupted (source.counts old) (source.counts new)

-- why no text is read
abbrev pub WhyNoText : {S : Type 0} → SourceGhosts S → S → S → InputFault → Type 0
WhyNoText source old new Long = GaveTooMuch source old new
WhyNoText source old new Read = FaultIsCounted (source.counts old) (source.counts new)
WhyNoText source old new Memory = ⊤
WhyNoText source old new _ = ⊥

-- the input gave a text that is not hex
pub record GaveNoHex {S : Type 0} (source : SourceGhosts S) (old new : S) : Type 0 where
  pub text : List ℕ
  pub read : GaveAll source old new text
  pub no_hex : IsNoHex text

-- why an input gives no bytes, as hex: no text is read, or it is not hex
abbrev pub WhyNoInput : {S : Type 0} → SourceGhosts S → S → S → InputFault → Type 0
WhyNoInput source old new Hex = GaveNoHex source old new
WhyNoInput source old new fault = WhyNoText source old new fault

-- why no piece of it is read
abbrev pub WhyNoPiece : Counts → Counts → InputFault → Type 0
WhyNoPiece old new Read = FaultIsCounted old new
WhyNoPiece old new Memory = ⊤
WhyNoPiece old new _ = ⊥
