use Rattle.std.proofs.Common.{arith}
use Rattle.tls_codec_grammar.proofs.Appending.{cut_off}
use Rattle.tls_codec_base.proofs.VectorSinks.{write_not_appended, written_appended}
use Rattle.tls_codec_base.proofs.context.by_ref_then.ByRefThen2Serialize.tls_serialize_into.Goals as goal

pub returns-in-Ok-clause-appends : goal.returns-in-Ok-clause-appends
returns-in-Ok-clause-appends g c =
    let sent = c.in-Ok.ensures.writes in
    written_appended sent.shortest sent.held sent.count (omega arith)

pub returns-in-Err-clause-appends : goal.returns-in-Err-clause-appends
returns-in-Err-clause-appends g c =
    let broken = c.in-Err.ensures.writes in
    write_not_appended _ (cut_off _ c.truncate.ensures.items (omega (arith, c.len-at.ensures)) broken.held) broken.cause
