use Rattle.std.proofs.Common.{ℕ, ◌-◌, take, drop, arith, refl, subst}
use Rattle.tls_codec_grammar.proofs.LengthFields.{slice_form}
use Rattle.tls_codec_grammar.proofs.length_field.writing.fill_gap.Goals as goal

pub returns-clause-ok : goal.returns-clause-ok
returns-clause-ok g c =
    let b = c.in-Some.found.0 in
    let k = c.in-Some.found.1 in
    let form = slice_form (λ s. g.F.LengthField.field.spells s (c.len.result - c.args.at - c.args.gap)) b k (omega arith) c.in-Some.ensures.0 c.in-Some.ensures.1 in
    record {
      form = take (8 - k) (drop k b);
      spelled = subst (λ (n : ℕ). g.F.LengthField.field.spells (take (8 - k) (drop k b)) n) (omega (arith, c.len.ensures)) form;
      held = c.in_ok-fill_with.ensures.ok;
      count = refl;
    }
