use Rattle.std.proofs.lemmas.Result.{err_from_is_err_and}
use Rattle.tls_codec_base.proofs.FieldsDecoding.{fields_begins, fields_refuses_first, fields_refuses_others, nothing_begins}
use Rattle.tls_codec_base.proofs.context.pairs.Tuple2DeserializeBytesFor.tls_deserialize_bytes_for.Goals as goal

pub returns-in_err-first-clause-splits : goal.returns-in_err-first-clause-splits
returns-in_err-first-clause-splits g c =
    let p = err_from_is_err_and c.from_residual.result c.from_residual.ensures.1 in
    rw (p.1, p.2) (fields_refuses_first _ c.in_err-first.ensures.splits)

pub returns-in_err-second-clause-splits : goal.returns-in_err-second-clause-splits
returns-in_err-second-clause-splits g c =
    let p = err_from_is_err_and c.from_residual-in_err-second.result c.from_residual-in_err-second.ensures.1 in
    rw (p.1, p.2) (fields_refuses_others _ (g.met.T.SizeFor.lawful (g.C.Size.plain c.args.context.now)).spelled c.in_ok-first.ensures.splits (fields_refuses_first _ c.in_err-second.ensures.splits))

pub returns-clause-splits : goal.returns-clause-splits
returns-clause-splits g c = fields_begins c.in_ok-first.ensures.splits (fields_begins c.in_ok-second.ensures.splits (nothing_begins _))
