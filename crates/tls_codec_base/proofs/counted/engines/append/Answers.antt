use Rattle.std.proofs.Common.{ℕ, ap, arith, take, ◌∙◌}
use Rattle.tls_codec_grammar.specs.laws.FormatLaws.{counted_list_meets}
use Rattle.tls_codec_grammar.proofs.Appending.{unheld_refused, out_of_bounds_no_form}
use Rattle.tls_codec_base.proofs.counted.engines.append.Goals as goal

pub returns-in-Err-clause-appends : goal.returns-in-Err-clause-appends
returns-in-Err-clause-appends g c =
    let refused = c.in-Err.ensures.err in
    let cut = c.truncate.ensures.items ∙ ap (λ (n : ℕ). take n c.append_after_gap.new.out.items) (omega (arith, c.len-at.ensures)) in
    record { kept = cut ∙ refused.kept; cause = refused.cause }

pub returns-in-Ok-clause-out_of_bounds : goal.returns-in-Ok-clause-out_of_bounds
returns-in-Ok-clause-out_of_bounds g c long = out_of_bounds_no_form (counted_list_meets g.met.F.LengthField.lawful (g.met.K.ElementCoding.lawful c.args.coding.now)) long c.in-Ok.ensures.ok.shortest

pub returns-in-Err-clause-out_of_bounds : goal.returns-in-Err-clause-out_of_bounds
returns-in-Err-clause-out_of_bounds g c long = unheld_refused (counted_list_meets g.met.F.LengthField.lawful (g.met.K.ElementCoding.lawful c.args.coding.now)) long c.in-Err.ensures.err.cause
