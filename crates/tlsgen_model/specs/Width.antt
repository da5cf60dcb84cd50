-- How many bytes a tag and a length may have, and how many a number needs.
use Rattle.std.specs.Prelude.{ℕ, zero, suc, Bool, true, ◌==◌, ◌&&◌, ◌||◌, ◌<◌, ◌≤◌, ◌^◌, nat_le, nat_lt, Option, None, Some}

abbrev pub is_tag_width : ℕ → Bool
is_tag_width width = (width == 1) || (width == 2) || (width == 4) || (width == 8)

-- no length, or one of 1 to 4 bytes
abbrev pub is_length : Option ℕ → Bool
is_length None = true
is_length (Some width) = nat_lt 0 width && nat_le width 4

-- `bytes` bytes hold the number; one byte fewer doesn't hold it, or would leave no byte
abbrev pub IsLeastWidth : (number bytes : ℕ) → Type 0
IsLeastWidth number zero = ⊥
IsLeastWidth number (suc zero) = number < 256
IsLeastWidth number (suc (suc fewer)) = (number < 256 ^ suc (suc fewer)) × (256 ^ suc fewer ≤ number)
