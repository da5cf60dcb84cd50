use Rattle.std.proofs.Common.{◌≡◌, arith, refl, subst, sym, ◌∙◌, length, []}
use Rattle.std.proofs.lemmas.Bool.{eqb-false}
use Rattle.tls_codec_wire.specs.Counts.{Counts, OnlyInterrupted, only_interrupted_refl}
use Rattle.tls_codec_wire.proofs.Seen.{too_few}
use Rattle.tls_codec_wire.proofs.Bytes.{are_bytes}
use Rattle.tls_codec_wire.proofs.transfer.read_exactly.Goals as goal

pub returns-in-Full-clause-bytes : goal.returns-in-Full-clause-bytes
returns-in-Full-clause-bytes g c = are_bytes _ (λ i. omega (arith, c.type_inv.into i))

pub returns-in-TooFew-clause-refused : goal.returns-in-TooFew-clause-refused
returns-in-TooFew-clause-refused g c =
    let few = c.in-TooFew.ensures.too_few refl in
    too_few _ g.met.R.Source.gives_nothing (omega (arith, eqb-false (length c.args.into.now) 0 (sym c.is_empty.ensures ∙ c.if-is_empty.false))) few.0 few.1

-- nothing was counted
retried_if_same : {a b : Counts} → b ≡ a → OnlyInterrupted a b
retried_if_same {a} {b} same = subst (OnlyInterrupted a) (sym same) (only_interrupted_refl a)

pub returns-in-Full-clause-gave : goal.returns-in-Full-clause-gave
returns-in-Full-clause-gave g c = record { bytes = _; held = c.in-Full.ensures.filled refl }

pub returns-in-Full-clause-retried : goal.returns-in-Full-clause-retried
returns-in-Full-clause-retried g c = retried_if_same c.in-Full.ensures.retried

pub returns-in-TooFew-clause-gave : goal.returns-in-TooFew-clause-gave
returns-in-TooFew-clause-gave g c =
    let few = c.in-TooFew.ensures.too_few refl in
    record { bytes = []; held = subst (g.R.Source.given c.args.src.now []) (sym few.1) (g.met.R.Source.gives_nothing _) }

pub returns-in-TooFew-clause-ended : goal.returns-in-TooFew-clause-ended
returns-in-TooFew-clause-ended g c ended = retried_if_same c.in-TooFew.ensures.retried
