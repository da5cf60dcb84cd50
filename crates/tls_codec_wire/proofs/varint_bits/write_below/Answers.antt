use Rattle.std.proofs.Common.{rules, arith, drop, take, subst, length, length-drop, List, ℕ, ◌-◌, ◌≡◌}
use Rattle.std.specs.Io.KnownBytes.{Appends}
use Rattle.std.proofs.lemmas.List.{take_all}
use Rattle.tls_codec_wire.specs.Device.{Received}
use Rattle.tls_codec_wire.proofs.varint_bits.write_below.Goals as goal

-- what is left of eight bytes
rest_of : (at : ℕ) (xs : List ℕ) → length xs ≡ 8 → take (8 - at) (drop at xs) ≡ drop at xs
rest_of at xs eight = take_all (8 - at) (drop at xs) (omega (arith, length-drop at xs, eight))

pub returns-clause-ok : goal.returns-clause-ok
returns-clause-ok g c =
    let eight : length c.in-Some.found.0 ≡ 8 = search rules in
    record {
      form = drop c.in-Some.found.1 c.in-Some.found.0;
      spelled = c.in-Some.ensures.1;
      held = subst (λ (u : List ℕ). Appends (g.W.Sink.received c.args.sink.now) (g.W.Sink.received c.write_all.new.sink) u) (rest_of _ _ eight) c.in_ok-write_all.ensures.whole;
      count = omega (arith, length-drop c.in-Some.found.1 c.in-Some.found.0, eight);
    }

pub returns-clause-beginning : goal.returns-clause-beginning
returns-clause-beginning g c = λ below.
    let eight : length c.in-Some.found.0 ≡ 8 = search rules in
    record {
      form = drop c.in-Some.found.1 c.in-Some.found.0;
      spelled = c.in-Some.ensures.1;
      received = subst (λ (u : List ℕ). Received (g.W.Sink.received c.args.sink.now) (g.W.Sink.received c.write_all.new.sink) u) (rest_of _ _ eight) c.write_all.ensures.beginning;
    }

pub returns-in_err-write_all-clause-beginning : goal.returns-in_err-write_all-clause-beginning
returns-in_err-write_all-clause-beginning g c = λ below.
    let eight : length c.in-Some.found.0 ≡ 8 = search rules in
    record {
      form = drop c.in-Some.found.1 c.in-Some.found.0;
      spelled = c.in-Some.ensures.1;
      received = subst (λ (u : List ℕ). Received (g.W.Sink.received c.args.sink.now) (g.W.Sink.received c.write_all.new.sink) u) (rest_of _ _ eight) c.write_all.ensures.beginning;
    }
