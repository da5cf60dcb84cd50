-- Announced lengths, in bytes. Every sum stays at `usize::MAX` once it is there.
use Rattle.std.specs.Prelude.{ℕ, ◌+◌, ◌^◌, min}
use Rattle.tls_codec_wire.specs.Varint.{width_below}
use Rattle.tls_codec_grammar.specs.Tree.{Tree, Number, Empty, Join}

abbrev pub capped : ℕ → ℕ
capped n = min n 0xffff_ffff_ffff_ffff

abbrev pub option_length : (Tree → ℕ) → Tree → ℕ
option_length payload (Join v Empty) = capped (payload v + 1)
option_length payload _ = 1

abbrev pub nothing_length : Tree → ℕ
nothing_length v = 0

abbrev pub fields_length : (Tree → ℕ) → (Tree → ℕ) → Tree → ℕ
fields_length first others (Join v vs) = capped (first v + others vs)
fields_length first others _ = 0

abbrev pub content_length : (Tree → ℕ) → Tree → ℕ
content_length element (Join v vs) = capped (element v + content_length element vs)
content_length element _ = 0

-- the sum of the elements' announced lengths, which stops at no number
abbrev pub content_sum : (Tree → ℕ) → Tree → ℕ
content_sum element (Join v vs) = element v + content_sum element vs
content_sum element _ = 0

abbrev pub varint_length : Tree → ℕ
varint_length (Number n) = width_below (2 ^ 62) n
varint_length _ = 0

-- what is counted, and the field that counts it
abbrev pub counted_length : (ℕ → ℕ) → (Tree → ℕ) → Tree → ℕ
counted_length width inside v = capped (width (inside v) + inside v)
