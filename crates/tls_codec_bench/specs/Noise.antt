-- Numbers that look random.
use Rattle.std.specs.Prelude.{ℕ, ◌*◌, ◌/◌, ◌%◌, ◌^◌, bit_xor}
use Rattle.tls_codec_bench.specs.declared.noise.Noise.{Noise}

-- the generator's state
abbrev pub state_of : Noise → ℕ
state_of noise = noise.state

-- the state after a state: three shifts, by 13 to the left, 7 to the right and 17 to the left, each joined by
-- "exclusive or"
abbrev pub shifted : ℕ → ℕ
shifted x =
    let a = bit_xor x (x * 2 ^ 13 % 2 ^ 64) in
    let b = bit_xor a (a / 2 ^ 7) in
    bit_xor b (b * 2 ^ 17 % 2 ^ 64)
