-- The names of numbers, and what is printed of a number that may have one.
use Rattle.std.proofs.Common.{append-nil, arith}
use Rattle.std.specs.Prelude.{◌≡◌, ◌==◌, ◌-◌, ◌^◌, ◌++◌, ℕ, false, refl, List, [], codes, length, replicate, Option, option_map, unwrap_or}
use Rattle.std.specs.List.{find}
use Rattle.std.specs.Fmt.{char_count, digits, format_spec, padded_integral}

-- the name that a number has in a table
abbrev pub listed_name : List (ℕ × List ℕ) → ℕ → Option (List ℕ)
listed_name names n =
    option_map (λ (entry : ℕ × List ℕ). entry.1)
    (find (λ (entry : ℕ × List ℕ). n == entry.0) names)

-- a number in hexadecimal, padded with zeros to this number of digits
abbrev pub hexadecimal : ℕ → ℕ → List ℕ
hexadecimal least n = let hex = digits 16 false n in replicate (least - length hex) 48 ++ hex

-- its name, or else the number in hexadecimal
abbrev pub name_or_number : List (ℕ × List ℕ) → ℕ → ℕ → List ℕ
name_or_number names least n = unwrap_or (listed_name names n) (codes "0x" ++ hexadecimal least n)

-- the hexadecimal digits, as std says it of `{:02x}`
pub hexadecimal_digits : (least : ℕ) (hex : List ℕ)
    → padded_integral (format_spec 32 0 4 least (2 ^ 64 - 1)) false [] hex
    ≡ replicate (least - length hex) 48 ++ hex
unfolding padded_integral char_count
hexadecimal_digits least hex =
    let short : least - length hex - 0 - 0 ≡ least - length hex = omega arith in
    rw (short, append-nil hex) refl
