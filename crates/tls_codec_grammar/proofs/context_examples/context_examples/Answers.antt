use Rattle.std.proofs.Common.{◌≡◌, ℕ, [], ◌∷◌, length, refl, ap, arith, length-append}
use Rattle.std.proofs.lemmas.List.Elements.{All-cons, All-nil}
use Rattle.tls_codec_wire.specs.Digits.{Digits}
use Rattle.tls_codec_grammar.specs.Tree.{Number}
use Rattle.tls_codec_grammar.specs.Grammar.{Reading}
use Rattle.tls_codec_grammar.specs.Contexts.{is_number}
use Rattle.tls_codec_grammar.specs.Inside.{zeros}
use Rattle.tls_codec_grammar.specs.laws.ContextLaws.{present_meets}
use Rattle.tls_codec_grammar.specs.laws.FormatLaws.{number_meets}
use Rattle.tls_codec_grammar.specs.laws.InsideLaws.{fields_meet_inside, zeros_meet}
use Rattle.tls_codec_grammar.specs.laws.ThenLaws.{then_meets}
use Rattle.tls_codec_grammar.proofs.context_examples.context_examples.Goals as goal

seven : Digits 2 (0 ∷ 7 ∷ []) 7
seven = record { width = refl; bytes = (omega arith, (omega arith, tt)); number = refl }

abbrev is_zero : ℕ → Type 0
is_zero b = b ≡ 0

two_zeros : zeros Reading (0 ∷ 0 ∷ []) (Number 2)
two_zeros = (refl, All-cons is_zero 0 (0 ∷ []) refl (All-cons is_zero 0 [] refl (All-nil is_zero)))

one_zero : zeros Reading (0 ∷ []) (Number 1)
one_zero = (refl, All-cons is_zero 0 [] refl (All-nil is_zero))

no_zero : zeros Reading [] (Number 0)
no_zero = (refl, All-nil is_zero)

pub returns-clause-first_decides : goal.returns-clause-first_decides
returns-clause-first_decides c = record {
  front = 1 ∷ [];
  rest = 0 ∷ 7 ∷ [];
  whole = refl;
  first = record { width = refl; bytes = (omega arith, tt); number = refl };
  second = seven;
}

pub returns-clause-first_leaves_out : goal.returns-clause-first_leaves_out
returns-clause-first_leaves_out c = record {
  front = 2 ∷ [];
  rest = [];
  whole = refl;
  first = record { width = refl; bytes = (omega arith, tt); number = refl };
  second = refl;
}

pub returns-clause-what_does_not_fit_is_not_spelled : goal.returns-clause-what_does_not_fit_is_not_spelled
returns-clause-what_does_not_fit_is_not_spelled c s p = p.second

pub returns-clause-pair_is_lawful : goal.returns-clause-pair_is_lawful
returns-clause-pair_is_lawful c = then_meets (number_meets 1 (omega arith)) (λ v. present_meets (is_number 1 v) (number_meets 2 (omega arith)))

pub returns-clause-tag_is_elsewhere : goal.returns-clause-tag_is_elsewhere
returns-clause-tag_is_elsewhere c = (refl, record { front = 0 ∷ 7 ∷ []; rest = []; whole = refl; first = seven; second = refl })

pub returns-clause-other_variant_is_not_spelled : goal.returns-clause-other_variant_is_not_spelled
returns-clause-other_variant_is_not_spelled c s p = let same = p.0 in absurd cc

pub returns-clause-length_encloses : goal.returns-clause-length_encloses
returns-clause-length_encloses c = record {
  count = 2 ∷ [];
  inside = 0 ∷ 7 ∷ [];
  whole = refl;
  counts = record { width = refl; bytes = (omega arith, tt); number = refl };
  is_inside = seven;
}

pub returns-clause-nothing_is_left_inside : goal.returns-clause-nothing_is_left_inside
returns-clause-nothing_is_left_inside c d (Number n) p =
    absurd (omega (arith, ap length p.whole, length-append p.count p.inside, p.counts.width, p.is_inside.width))
returns-clause-nothing_is_left_inside c d _ p = absurd p.is_inside

pub returns-clause-two_zeros : goal.returns-clause-two_zeros
returns-clause-two_zeros c = two_zeros

pub returns-clause-no_other_padding : goal.returns-clause-no_other_padding
returns-clause-no_other_padding c d (Number n) p = let second = p.1 1 1 (omega arith) in absurd cc
returns-clause-no_other_padding c d _ p = absurd p

-- a zero is a spelling of one zero, and no byte is one of none
pub returns-clause-zeros_say_no_end : goal.returns-clause-zeros_say_no_end
returns-clause-zeros_say_no_end c = λ l. let same = l.one [] (0 ∷ []) (0 ∷ []) [] (Number 0) (Number 1) no_zero one_zero refl in absurd cc

pub returns-clause-padding_is_lawful_inside : goal.returns-clause-padding_is_lawful_inside
returns-clause-padding_is_lawful_inside c = fields_meet_inside (number_meets 1 (omega arith)) zeros_meet
