-- A struct inside a length, and what goes up to an end that something else determines.
use Rattle.std.specs.Prelude.{◌≡◌, ◌⊎◌, ℕ, List, length, All, Result, Ok, Err}
use Rattle.tls_codec_wire.specs.declared.error.Error.{Error}
use Rattle.tls_codec_wire.specs.declared.error.Error.TheVariants.{OutOfMemory}
use Rattle.tls_codec_grammar.specs.Tree.{Tree, Number, Empty, Join}
use Rattle.tls_codec_grammar.specs.Grammar.{Grammar, Reading}
use Rattle.tls_codec_grammar.specs.Announced.{capped}
use Rattle.tls_codec_grammar.specs.Field.{Field}
use Rattle.tls_codec_grammar.specs.Format.{Format, atom, content_format, counted_format, number_format}
use Rattle.tls_codec_grammar.specs.Decoding.{NoneSpelled}

-- a value that fills what a length counts, as the body of `opaque extension_data<0..2^16-1>` (RFC 8446, section 4.2)
abbrev pub enclosed_format : Field → Format → Format
enclosed_format field inside = counted_format field inside.announced inside

-- ---- What takes the rest of the input. Fewer zeros, or fewer bytes, are a spelling too; so no spelling says where it ends,
-- ---- and such a format is lawful only where a length or the end of the input says it (`MeetsLawsInside`).

-- zeros up to the end, as the padding of a message: the value is how many there are (RFC 9420, section 6.3.1)
abbrev pub zeros : Grammar
zeros d b (Number n) = (length b ≡ n) × All (λ x. x ≡ 0) b
zeros d b Empty = ⊥
zeros d b (Join v vs) = ⊥

abbrev pub zeros_length : Tree → ℕ
zeros_length (Number n) = capped n
zeros_length _ = 0

abbrev pub zeros_format : Format
zeros_format = atom zeros zeros_length

-- bytes up to the end
abbrev pub bytes_to_end_format : Format
bytes_to_end_format = content_format (number_format 1)

-- What a decoder of all of some bytes returns whose format is lawful inside: all of them are a spelling of the value; or
-- they are none, or there was no memory. No byte is left over, since what comes last takes each of them.
abbrev pub ReadsInside : {T : Type 0} → Format → (T → Tree) → List ℕ → Result T Error → Type 0
ReadsInside f plain x (Ok v) = f.spells Reading x (plain v)
ReadsInside f plain x (Err e) = NoneSpelled f.spells x ⊎ (e ≡ OutOfMemory)
