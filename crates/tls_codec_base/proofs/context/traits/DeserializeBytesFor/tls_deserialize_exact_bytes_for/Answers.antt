use Rattle.std.proofs.lemmas.Result.{err_from_is_err_and}
use Rattle.tls_codec_base.proofs.Whole.{begins_whole, refuses_trailing, refuses_whole}
use Rattle.tls_codec_base.proofs.context.traits.DeserializeBytesFor.tls_deserialize_exact_bytes_for.Goals as goal

pub returns-in_err-value-clause-reads : goal.returns-in_err-value-clause-reads
returns-in_err-value-clause-reads g c =
    let p = err_from_is_err_and c.from_residual.result c.from_residual.ensures.1 in
    rw (p.1, p.2) (refuses_whole _ _ _ _ c.in_err-value.ensures.splits)

pub returns-then-not-is_empty-clause-reads : goal.returns-then-not-is_empty-clause-reads
returns-then-not-is_empty-clause-reads g c = refuses_trailing _ _ (g.met.Self.SizeFor.lawful (g.C.Size.plain c.args.context.now)).spelled _ _ _ _ c.in_ok-value.ensures.splits c.if-not-is_empty.ensures

pub returns-clause-reads : goal.returns-clause-reads
returns-clause-reads g c = begins_whole _ _ _ _ c.in_ok-value.ensures.splits c.if-not-is_empty.ensures
