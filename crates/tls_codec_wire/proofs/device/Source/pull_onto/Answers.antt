use Rattle.std.proofs.Common.{arith, take, [], sym, refl, append-nil, length-take-le}
use Rattle.std.proofs.lemmas.Grind.{common_steps}
use Rattle.std.proofs.lemmas.Result.{err_from_is_err_and}
use Rattle.tls_codec_wire.proofs.device.Source.pull_onto.Goals as goal

pub returns-clause-gave : goal.returns-clause-gave
returns-clause-gave g c = record {
  bytes = take c.in_ok-n.n c.pull.new.into;
  held = c.in_ok-n.ensures.gave;
  appended = grind (arith, common_steps);
  count = length-take-le c.in_ok-n.n c.pull.new.into c.in_ok-n.ensures.bound;
}

pub returns-in_err-n-clause-gave : goal.returns-in_err-n-clause-gave
returns-in_err-n-clause-gave g c =
    let p = err_from_is_err_and c.from_residual.result c.from_residual.ensures.1 in
    rw (p.1) (record { bytes = []; held = c.in_err-n.ensures.gave; appended = sym (append-nil _); count = refl })
