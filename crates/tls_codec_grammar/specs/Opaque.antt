-- Why bytes and texts after a length field are refused.
use Rattle.std.specs.Prelude.{◌≡◌, ◌⊎◌, List, ℕ, codes, IsUtf8}
use Rattle.tls_codec_wire.specs.Counts.{Counts, RoseBy}
use Rattle.tls_codec_wire.specs.Transfer.{IsReadFailure}
use Rattle.tls_codec_wire.specs.declared.error.Error.{Error}
use Rattle.tls_codec_wire.specs.declared.error.Error.TheVariants.{DecodingError, EndOfStream, OutOfMemory}
use Rattle.tls_codec_grammar.specs.Tree.{number_trees}
use Rattle.tls_codec_grammar.specs.Errors.{Says}
use Rattle.tls_codec_grammar.specs.Field.{BeginsLength, Field, IsCutOff, variable_field}
use Rattle.tls_codec_grammar.specs.Format.{counted_bytes_format}
use Rattle.tls_codec_grammar.specs.Grammar.{bytes, text}
use Rattle.tls_codec_grammar.specs.Decoding.{Begins, BeginsSome}

-- why bytes are not read from a slice: no length begins it, or it is cut off
abbrev pub OpaqueRefused : Field → List ℕ → Error → Type 0
OpaqueRefused field x e = field.refuses x e ⊎ (field.cut_off e × IsCutOff field x)

-- why no copy of them is made: there was no memory for bytes that are all there, or they are not read
abbrev pub OpaqueCopyRefused : Field → List ℕ → Error → Type 0
OpaqueCopyRefused field x e = ((e ≡ OutOfMemory) × BeginsSome (counted_bytes_format field).spells x) ⊎ OpaqueRefused field x e

-- why they are not read from a source, after x was seen of it: it failed, it had no memory, there
-- was no memory for the bytes after a length, x ends within a length or within what it declares, or
-- the length is refused
abbrev pub OpaqueSourceRefused : Field → List ℕ → Counts → Counts → Error → Type 0
OpaqueSourceRefused field x old new (DecodingError text) = IsReadFailure text old new ⊎ field.refuses x (DecodingError text)
OpaqueSourceRefused field x old new OutOfMemory = RoseBy 1 old.shortages new.shortages ⊎ BeginsLength field x
OpaqueSourceRefused field x old new EndOfStream = field.refuses x EndOfStream ⊎ IsCutOff field x
OpaqueSourceRefused field x old new e = field.refuses x e

-- x begins with a length, and then bytes that are not UTF-8
pub record IsNoText (x : List ℕ) : Type 0 where
  pub content : List ℕ
  pub rest : List ℕ
  pub begins : Begins bytes x (number_trees content) rest
  pub invalid : IsUtf8 content → ⊥

-- why a text is not read from a slice: there was no memory for a text that is all there, its bytes are not read, or
-- they are no text
abbrev pub TextRefused : List ℕ → Error → Type 0
TextRefused x e =
    ((e ≡ OutOfMemory) × BeginsSome text x) ⊎ (OpaqueRefused variable_field x e ⊎ (Says (codes "invalid utf8") e × IsNoText x))

-- why a text is not read from a source, after x was seen of it
abbrev pub TextSourceRefused : List ℕ → Counts → Counts → Error → Type 0
TextSourceRefused x old new e =
    OpaqueSourceRefused variable_field x old new e ⊎ (Says (codes "invalid utf8") e × IsNoText x)
