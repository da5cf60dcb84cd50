use Rattle.std.proofs.Common.{rules, arith, ◌≡◌, List, ℕ, [], ◌∷◌, ◌++◌, get_or, length, length-take, length-take-le, subst}
use Rattle.std.proofs.lemmas.Result.{err_from_is_err_and}
use Rattle.tls_codec_wire.proofs.Given.{gave_then}
use Rattle.tls_codec_wire.proofs.Seen.{refused_later, refused_now, refused_so}
use Rattle.tls_codec_wire.proofs.VarintReads.{digits_read, no_first_byte, not_admitted, one_byte, spells_below, too_few_digits}
use Rattle.tls_codec_wire.specs.Counts.{only_interrupted_none_fell, only_interrupted_trans}
use Rattle.tls_codec_wire.proofs.varint_bits.read_below.Goals as goal

pub returns-in_err-read_few-clause-gave : goal.returns-in_err-read_few-clause-gave
returns-in_err-read_few-clause-gave g c =
    gave_then g.met.R.Source.gives_in_order c.read_exactly.ensures.gave c.read_few.ensures.gave

pub returns-in_err-number-clause-gave : goal.returns-in_err-number-clause-gave
returns-in_err-number-clause-gave g c =
    gave_then g.met.R.Source.gives_in_order c.read_exactly.ensures.gave c.read_few.ensures.gave

pub returns-clause-gave : goal.returns-clause-gave
returns-clause-gave g c =
    gave_then g.met.R.Source.gives_in_order c.read_exactly.ensures.gave c.read_few.ensures.gave

pub returns-in_err-number-clause-refused : goal.returns-in_err-number-clause-refused
returns-in_err-number-clause-refused g c =
    let p = err_from_is_err_and c.from_residual-in_err-number.result c.from_residual-in_err-number.ensures.1 in
    let first = c.read_exactly.new.into in
    let digits = c.read_few.new.into in
    let one : length first ≡ 1 = search rules in
    let width : length digits ≡ c.said_by-more.result.0 = omega (arith, simp length-take at c.read_few.auto.into) in
    let d = digits_read first one c.in_ok-read_exactly.ensures.bytes c.in_ok-read_few.ensures.bytes width c.said_by-more.ensures c.number_from.ensures.value c.number_from.ensures.fits in
    let source = g.met.R.Source in
    let held = source.gives_in_order _ _ _ _ _ c.in_ok-read_exactly.ensures.filled c.in_ok-read_few.ensures.filled in
    let both = subst (λ (u : List ℕ). g.R.Source.given c.args.src.now (u ++ digits) c.read_few.new.src) (one_byte first one) held in
    rw (p.1, p.2) (refused_now (get_or first 0 0 ∷ digits) source.gives_nothing both (not_admitted _ d _ _ _ c.in_err-number.ensures.0 c.in_err-number.ensures.1))

pub returns-clause-ok : goal.returns-clause-ok
returns-clause-ok g c =
    let first = c.read_exactly.new.into in
    let digits = c.read_few.new.into in
    let one : length first ≡ 1 = search rules in
    let width : length digits ≡ c.said_by-more.result.0 = omega (arith, simp length-take at c.read_few.auto.into) in
    let d = digits_read first one c.in_ok-read_exactly.ensures.bytes c.in_ok-read_few.ensures.bytes width c.said_by-more.ensures c.number_from.ensures.value c.number_from.ensures.fits in
    let held = g.met.R.Source.gives_in_order _ _ _ _ _ c.in_ok-read_exactly.ensures.filled c.in_ok-read_few.ensures.filled in
    record {
      front = get_or first 0 0 ∷ digits;
      held = subst (λ (u : List ℕ). g.R.Source.given c.args.src.now (u ++ digits) c.read_few.new.src) (one_byte first one) held;
      spelled = spells_below d _ c.in_ok-number.ensures.0 c.in_ok-number.ensures.1 c.in_ok-number.ensures.2;
    }

pub returns-in_err-read_exactly-clause-refused : goal.returns-in_err-read_exactly-clause-refused
returns-in_err-read_exactly-clause-refused g c =
    let p = err_from_is_err_and c.from_residual.result c.from_residual.ensures.1 in
    rw (p.1, p.2) (refused_so (no_first_byte _ _ _ _) c.in_err-read_exactly.ensures.refused)

pub returns-in_err-read_few-clause-refused : goal.returns-in_err-read_few-clause-refused
returns-in_err-read_few-clause-refused g c =
    let source = g.met.R.Source in
    let p = err_from_is_err_and c.from_residual-in_err-read_few.result c.from_residual-in_err-read_few.ensures.1 in
    let first = c.read_exactly.new.into in
    let one : length first ≡ 1 = search rules in
    let fell = only_interrupted_none_fell c.in_ok-read_exactly.ensures.retried in
    let held = subst (λ (u : List ℕ). g.R.Source.given c.args.src.now u c.read_exactly.new.src) (one_byte first one) c.in_ok-read_exactly.ensures.filled in
    rw (p.1, p.2) (refused_later (get_or first 0 0 ∷ []) source.gives_in_order held (too_few_digits _ c.said_by-more.ensures (length-take-le c.said_by-more.result.0 (0 ∷ 0 ∷ 0 ∷ 0 ∷ 0 ∷ 0 ∷ 0 ∷ []) (omega (arith, c.said_by-more.ensures.few))) _ _ _ _ fell) c.in_err-read_few.ensures.refused)

pub returns-clause-retried : goal.returns-clause-retried
returns-clause-retried g c = only_interrupted_trans c.in_ok-read_exactly.ensures.retried c.in_ok-read_few.ensures.retried

pub returns-in_err-number-clause-ended : goal.returns-in_err-number-clause-ended
returns-in_err-number-clause-ended g c ended = only_interrupted_trans c.in_ok-read_exactly.ensures.retried c.in_ok-read_few.ensures.retried

pub returns-in_err-read_few-clause-ended : goal.returns-in_err-read_few-clause-ended
returns-in_err-read_few-clause-ended g c ended =
    let p = err_from_is_err_and c.from_residual-in_err-read_few.result c.from_residual-in_err-read_few.ensures.1 in
    let result = p.1 in
    let same = p.2 in
    let was = c.in_err-read_few.was in
    only_interrupted_trans c.in_ok-read_exactly.ensures.retried (c.read_few.ensures.ended cc)
