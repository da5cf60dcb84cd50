use Rattle.std.proofs.lemmas.Result.{err_from_is_err_and}
use Rattle.std.proofs.Common.{inr, refl}
use Rattle.tls_codec_wire.proofs.Seen.{told_cause}
use Rattle.tls_codec_base.proofs.Whole.{begins_whole, refuses_trailing, refuses_whole, slice_begins, slice_refuses}
use Rattle.tls_codec_base.proofs.context.traits.DeserializeFor.tls_deserialize_exact_for.Goals as goal

pub returns-in_err-value-clause-reads : goal.returns-in_err-value-clause-reads
returns-in_err-value-clause-reads g c =
    let p = err_from_is_err_and c.from_residual.result c.from_residual.ensures.1 in
    rw (p.1, p.2) (refuses_whole _ _ _ _ (slice_refuses _ _ _ _ (told_cause (λ a xs b q. q) refl c.in_err-value.ensures.reads.refused)))

pub returns-then-not-is_empty-clause-reads : goal.returns-then-not-is_empty-clause-reads
returns-then-not-is_empty-clause-reads g c =
    let gave = c.in_ok-value.ensures.reads in
    refuses_trailing _ _ (g.met.Self.SizeFor.lawful (g.C.Size.plain c.args.context.now)).spelled _ _ _ _ (slice_begins _ _ gave.front _ _ gave.held gave.spelled) c.if-not-is_empty.ensures

pub returns-clause-reads : goal.returns-clause-reads
returns-clause-reads g c =
    let gave = c.in_ok-value.ensures.reads in
    begins_whole (g.Self.SizeFor.format_for (g.C.Size.plain c.args.context.now)).spells _ (g.Self.SizeFor.plain c.in_ok-value.value) _ (slice_begins _ _ gave.front _ _ gave.held gave.spelled) c.if-not-is_empty.ensures

pub returns-in_err-value-clause-named : goal.returns-in_err-value-clause-named
returns-in_err-value-clause-named g c =
    let p = err_from_is_err_and c.from_residual.result c.from_residual.ensures.1 in
    rw (p.1, p.2) (inr (told_cause (λ a xs b q. q) refl c.in_err-value.ensures.named.refused).1)
