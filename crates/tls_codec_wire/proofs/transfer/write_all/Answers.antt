use Rattle.std.proofs.Common.{rules, arith, refl, subst, append-nil, ℕ, List, [], Option}
use Rattle.std.proofs.KnownBytes.{Appends-trans}
use Rattle.std.specs.Io.KnownBytes.{Appends}
use Rattle.tls_codec_wire.specs.Counts.{only_interrupted_refl}
use Rattle.tls_codec_wire.proofs.Pieces.{received_more, appends_more}
use Rattle.tls_codec_wire.proofs.transfer.write_all.Goals as goal

pub returns-in-Ok-eq0-clause-beginning : goal.returns-in-Ok-eq0-clause-beginning
returns-in-Ok-eq0-clause-beginning g c =
    received_more _ _ _ c.loop-at.at _ _ c.loop-at.invariant.took c.give.ensures.took

pub loop-at-preserved-in-Ok : goal.loop-at-preserved-in-Ok
loop-at-preserved-in-Ok g c =
    let counted = c.in-Ok.ensures.counted in
    record {
      within = search rules;
      retries = search rules;
      took = appends_more _ _ _ c.loop-at.at c.in-Ok.n _ c.loop-at.invariant.took c.in-Ok.ensures.took;
      retried = search rules;
      counted = omega (arith, c.loop-at.invariant.counted, counted.3);
      tried = omega (arith, c.loop-at.invariant.tried, c.loop-at.invariant.retries, counted.3);
      moved = λ all. refl;
      untouched = λ none. absurd (omega arith);
    }

pub loop-at-init : goal.loop-at-init
loop-at-init g c = record {
  within = omega arith;
  retries = omega arith;
  took = search rules;
  retried = only_interrupted_refl _;
  counted = omega arith;
  tried = omega arith;
  moved = λ all. refl;
  untouched = λ none. refl;
}

-- a call that moves nothing leaves what was received
appends_none : (a b c : Option (List ℕ)) (bytes : List ℕ) → Appends a b bytes → Appends b c [] → Appends a c bytes
appends_none a b c bytes p q = subst (Appends a c) (append-nil bytes) (Appends-trans a b c bytes [] p q)

pub loop-at-preserved : goal.loop-at-preserved
loop-at-preserved g c = record {
  within = c.loop-at.invariant.within;
  retries = search rules;
  took = appends_none _ _ _ _ c.loop-at.invariant.took c.in-Err.ensures.took;
  retried = search rules;
  counted = search rules;
  tried = search rules;
  moved = λ all. absurd (omega arith);
  untouched = λ none. absurd (omega arith);
}

pub returns-in_err-retries-in-Err-clause-beginning : goal.returns-in_err-retries-in-Err-clause-beginning
returns-in_err-retries-in-Err-clause-beginning g c =
    received_more _ _ _ c.loop-at.at _ _ c.loop-at.invariant.took c.give.ensures.took

pub returns-clause-tried : goal.returns-clause-tried
returns-clause-tried g c =
    omega (arith, c.loop-at.invariant.tried, c.loop-at.invariant.within, c.loop-at.invariant.moved (omega (arith, c.loop-at-test.false)))
