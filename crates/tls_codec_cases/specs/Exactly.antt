-- A length that takes no bytes: each list has the same number of bytes (RFC 8446, section 3.4).
use Rattle.std.proofs.Common.{◌≡◌, ◌<◌, ◌^◌, ℕ, [], length, refl, sym, ap, ◌∙◌, arith}
use Rattle.tls_codec_wire.specs.declared.error.Error.TheVariants.{EndOfStream}
use Rattle.tls_codec_grammar.specs.Field.{Field}
use Rattle.tls_codec_grammar.specs.Format.{Format, counted_list_format}
use Rattle.tls_codec_grammar.specs.Lawful.{MeetsFieldLaws, MeetsLaws}
use Rattle.tls_codec_grammar.specs.laws.FormatLaws.{counted_list_meets}

-- no bytes spell the one number
abbrev pub exactly_field : ℕ → Field
exactly_field count = record {
  spells = λ x n. (x ≡ []) × (n ≡ count);
  width = λ n. 0;
  holds = λ n. n ≡ count;
  refuses = λ x e. ⊥;
  cut_off = λ e. e ≡ EndOfStream;
}

pub exactly_field_meets : (count : ℕ) → count < 2 ^ 62 → MeetsFieldLaws (exactly_field count)
exactly_field_meets count small = record {
  counts = record {
    one = λ a b x y m n p q e. (p.0 ∙ sym q.0, p.1 ∙ sym q.1);
    alone = λ a b n p q. p.0 ∙ sym q.0;
    measures = λ a n p. sym (ap length p.0);
  };
  each = λ n p. ([], (refl, p));
  held = λ b n p. p.1;
  small = λ n p. omega (arith, p, small);
  none = λ x e p. absurd p;
  named = λ x e p. absurd p;
  cut = λ e p. (λ h. cc, λ h. cc);
}

-- elements that together have this number of bytes, as `T name[count]`
abbrev pub exactly_list_format : ℕ → Format → Format
exactly_list_format count element = counted_list_format (exactly_field count) element

pub exactly_list_meets : (count : ℕ) → count < 2 ^ 62 → {element : Format} → MeetsLaws element → MeetsLaws (exactly_list_format count element)
exactly_list_meets count small l = counted_list_meets (exactly_field_meets count small) l
