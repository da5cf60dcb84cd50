use Rattle.std.proofs.Common.{arith}
use Rattle.tls_codec_grammar.proofs.Appending.{cut_off}
use Rattle.tls_codec_base.proofs.VectorSinks.{write_not_appended, written_appended}
use Rattle.tls_codec_base.proofs.context.traits.SerializeFor.tls_serialize_into_for.Goals as goal

pub returns-in-Ok : goal.returns-in-Ok
returns-in-Ok g c =
    let sent = c.in-Ok.ensures.writes in
    record { appends = written_appended sent.shortest sent.held sent.count (omega arith) }

pub returns-in-Err : goal.returns-in-Err
returns-in-Err g c =
    let broken = c.in-Err.ensures.writes in
    record { appends = write_not_appended _ (cut_off _ c.truncate.ensures.items (omega (arith, c.len-at.ensures)) broken.held) broken.cause }
