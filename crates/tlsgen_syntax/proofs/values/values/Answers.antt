use Rattle.std.proofs.Common.{◌≡◌, ◌+◌, ◌++◌, ◌∷◌, [], ◌∙◌, ap, rules, sym, length}
use Rattle.std.proofs.lemmas.List.{length_push}
use Rattle.tlsgen_syntax.specs.declared.token.Mark.TheVariants.{Comma}
use Rattle.tlsgen_syntax.specs.Apart.{apart_value_then}
use Rattle.tlsgen_syntax.specs.Signs.{separated_then, value_then}
use Rattle.tlsgen_syntax.proofs.Gathered.{gathered_both}
use Rattle.tlsgen_syntax.proofs.values.values.Goals as goal

pub loop-one-preserved : goal.loop-one-preserved
loop-one-preserved c =
    let values = c.loop-one.values.items in
    let one = c.in_ok-value.field-0 in
    let yielded = c.loop-one.yielded in
    let written = c.in-Some.one in
    let before = c.loop-one.invariant in
    let pushed : c.push.new.self.items ≡ values ++ one ∷ [] = search rules in
    record {
      count = ap length pushed ∙ length_push values one ∙ ap (λ n. n + 1) before.count ∙ sym (length_push yielded written);
      same = λ rest. ap (λ xs. separated_then Comma value_then xs rest) pushed ∙
          gathered_both Comma value_then apart_value_then values yielded one written before.count before.same c.in_ok-value.ensures rest;
    }
