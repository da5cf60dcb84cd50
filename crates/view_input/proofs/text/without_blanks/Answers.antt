use Rattle.std.proofs.Common.{rules, not, ap, ◌∙◌}
use Rattle.std.proofs.lemmas.Fn.{filter_same}
use Rattle.view_input.specs.Input.{digits_in, is_blank}
use Rattle.view_input.proofs.text.without_blanks.Goals as goal

pub returns : goal.returns
returns c =
    filter_same _ (λ b. not (is_blank b)) _ (λ x b f' k. search rules) _ _ c.retain.ensures.filtered
    ∙ ap digits_in c.in_ok-digits.ensures.items
