-- A value that fills what a length of k bytes counts.
use Rattle.std.specs.Prelude.{ℕ, ◌≤◌, ◌^◌}
use Rattle.tls_codec_grammar.specs.Field.{fixed_field}
use Rattle.tls_codec_grammar.specs.Format.{Format}
use Rattle.tls_codec_grammar.specs.Inside.{enclosed_format}
use Rattle.tls_codec_grammar.specs.Lawful.{MeetsLaws}
use Rattle.tls_codec_grammar.specs.laws.FormatLaws.{fixed_field_meets}
use Rattle.tls_codec_grammar.specs.laws.InsideLaws.{enclosed_meets, inside_meets}

abbrev pub fixed_enclosed_format : ℕ → Format → Format
fixed_enclosed_format k inside = enclosed_format (fixed_field k) inside

pub fixed_enclosed_meets : (k : ℕ) {inside : Format} → 256 ^ k ≤ 2 ^ 62 → MeetsLaws inside → MeetsLaws (fixed_enclosed_format k inside)
fixed_enclosed_meets k small l = enclosed_meets (fixed_field_meets k small) (inside_meets l)
