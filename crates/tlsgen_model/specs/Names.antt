-- Names in the written sources.
use Rattle.std.specs.Prelude.{ℕ, List, ◌<◌, IsTrue, length, slice_index}
use Rattle.std.specs.Char.{is_ascii_alphabetic}

-- the first byte is a letter of ASCII
abbrev pub BeginsWithLetter : List ℕ → Type 0
BeginsWithLetter bytes = (0 < length bytes) × IsTrue (is_ascii_alphabetic (slice_index bytes 0))
