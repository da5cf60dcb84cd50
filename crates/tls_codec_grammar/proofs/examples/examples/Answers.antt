use Rattle.std.proofs.Common.{◌^◌, [], ◌∷◌, refl, arith}
use Rattle.tls_codec_grammar.specs.Tree.{Number}
use Rattle.tls_codec_grammar.specs.laws.AloneLaws.{alone_shortest}
use Rattle.tls_codec_grammar.specs.laws.NumberLaws.{digits_below}
use Rattle.tls_codec_grammar.specs.laws.VarintLaws.{varint_lawful}
use Rattle.tls_codec_wire.proofs.VarintReads.{one_byte_spells}
use Rattle.tls_codec_grammar.proofs.WorkedExamples.{no_field_of_any_width, no_wide_number, no_wide_list, no_great_length, thirty_one_bits, some_spelled_once, no_other_tag, no_half_element, two_byte_character, surrogate_is_no_text, shortest_list, shortest_list_of_nothing, nothing_is_no_element}
use Rattle.tls_codec_grammar.proofs.examples.examples.Goals as goal

pub returns-clause-number_too_great : goal.returns-clause-number_too_great
returns-clause-number_too_great c s p = absurd (omega (arith, digits_below 1 s 256 p))

pub returns-clause-no_wide_integer : goal.returns-clause-no_wide_integer
returns-clause-no_wide_integer c = λ d n p. no_wide_number _ 0x25 n (omega arith) p

pub returns-clause-shortest_varint : goal.returns-clause-shortest_varint
returns-clause-shortest_varint c = alone_shortest varint_lawful (37 ∷ []) (Number 37) (one_byte_spells (2 ^ 62) 37 (omega arith) (omega arith))

pub returns-clause-integer_of_31_bits : goal.returns-clause-integer_of_31_bits
returns-clause-integer_of_31_bits c = record { laid_out = thirty_one_bits; least = refl; below = omega arith }

pub returns-clause-no_length_of_31_bits : goal.returns-clause-no_length_of_31_bits
returns-clause-no_length_of_31_bits c = no_great_length

pub returns-clause-no_wide_length : goal.returns-clause-no_wide_length
returns-clause-no_wide_length c = λ n p. no_wide_number _ 0 n (omega arith) p

pub returns-clause-no_field_of_any_width : goal.returns-clause-no_field_of_any_width
returns-clause-no_field_of_any_width c = no_field_of_any_width

pub returns-clause-no_wide_list : goal.returns-clause-no_wide_list
returns-clause-no_wide_list c = no_wide_list

pub returns-clause-some_spelled_once : goal.returns-clause-some_spelled_once
returns-clause-some_spelled_once c = some_spelled_once

pub returns-clause-tag_and_its_part : goal.returns-clause-tag_and_its_part
returns-clause-tag_and_its_part c = record {
  front = 2 ∷ [];
  rest = 0 ∷ 7 ∷ [];
  whole = refl;
  first = record { width = refl; bytes = (omega arith, tt); number = refl };
  second = record {
    front = 0 ∷ 7 ∷ [];
    rest = [];
    whole = refl;
    first = record { width = refl; bytes = (omega arith, (omega arith, tt)); number = refl };
    second = refl;
  };
}

pub returns-clause-no_other_tag : goal.returns-clause-no_other_tag
returns-clause-no_other_tag c = no_other_tag

pub returns-clause-pair_with_option : goal.returns-clause-pair_with_option
returns-clause-pair_with_option c = record {
  front = 5 ∷ [];
  rest = 1 ∷ 1 ∷ 2 ∷ [];
  whole = refl;
  first = record { width = refl; bytes = (omega arith, tt); number = refl };
  second = record {
    front = 1 ∷ 1 ∷ 2 ∷ [];
    rest = [];
    whole = refl;
    first = (1 ∷ 2 ∷ [], refl, record { width = refl; bytes = (omega arith, (omega arith, tt)); number = refl });
    second = refl;
  };
}

pub returns-clause-fixed_list_of_two : goal.returns-clause-fixed_list_of_two
returns-clause-fixed_list_of_two c = record {
  count = 4 ∷ [];
  inside = 0 ∷ 1 ∷ 0 ∷ 2 ∷ [];
  whole = refl;
  counts = record { width = refl; bytes = (omega arith, tt); number = refl };
  is_inside = record {
    front = 0 ∷ 1 ∷ [];
    rest = 0 ∷ 2 ∷ [];
    whole = refl;
    first = (record { width = refl; bytes = (omega arith, (omega arith, tt)); number = refl }, omega arith);
    second = record {
      front = 0 ∷ 2 ∷ [];
      rest = [];
      whole = refl;
      first = (record { width = refl; bytes = (omega arith, (omega arith, tt)); number = refl }, omega arith);
      second = refl;
    };
  };
}

pub returns-clause-no_half_element : goal.returns-clause-no_half_element
returns-clause-no_half_element c = no_half_element

pub returns-clause-list_on_its_floor : goal.returns-clause-list_on_its_floor
returns-clause-list_on_its_floor c = record {
  count = 0x00 ∷ 0x02 ∷ [];
  inside = 0x13 ∷ 0x01 ∷ [];
  whole = refl;
  counts = (record { width = refl; bytes = (omega arith, (omega arith, tt)); number = refl }, (omega arith, omega arith));
  is_inside = record {
    front = 0x13 ∷ 0x01 ∷ [];
    rest = [];
    whole = refl;
    first = (record { width = refl; bytes = (omega arith, (omega arith, tt)); number = refl }, omega arith);
    second = refl;
  };
}

pub returns-clause-shortest_list : goal.returns-clause-shortest_list
returns-clause-shortest_list c = shortest_list

pub returns-clause-text_of_one_character : goal.returns-clause-text_of_one_character
returns-clause-text_of_one_character c = record {
  count = 2 ∷ [];
  inside = 0xc3 ∷ 0xbc ∷ [];
  whole = refl;
  counts = one_byte_spells _ 2 (omega arith) (omega arith);
  is_inside = (
    record {
      front = 0xc3 ∷ [];
      rest = 0xbc ∷ [];
      whole = refl;
      first = (record { width = refl; bytes = (omega arith, tt); number = refl }, omega arith);
      second = record {
        front = 0xbc ∷ [];
        rest = [];
        whole = refl;
        first = (record { width = refl; bytes = (omega arith, tt); number = refl }, omega arith);
        second = refl;
      };
    },
    two_byte_character,
  );
}

pub returns-clause-surrogate_is_no_text : goal.returns-clause-surrogate_is_no_text
returns-clause-surrogate_is_no_text c = surrogate_is_no_text

pub returns-clause-shortest_list_of_nothing : goal.returns-clause-shortest_list_of_nothing
returns-clause-shortest_list_of_nothing c = shortest_list_of_nothing

pub returns-clause-list_of_nothing_is_not_full : goal.returns-clause-list_of_nothing_is_not_full
returns-clause-list_of_nothing_is_not_full c full = nothing_is_no_element (0 ∷ []) (full (0 ∷ []) shortest_list_of_nothing.spelled)
