use Rattle.std.proofs.Common.{◌++◌}
use Rattle.tls_codec_bench.proofs.Ends.{end_of_four}
use Rattle.tls_codec_bench.proofs.in_place.PrivateMessageInPlace.last_part.Goals as goal

pub returns : goal.returns
returns c =
    let view = c.from.result in
    end_of_four c.args.bytes.now c.in_ok-encoded.encoded (view.group_id ++ (view.epoch ++ view.content_type)) view.authenticated_data view.encrypted_sender_data view.ciphertext _
    c.in_ok-encoded.ensures.same c.from.ensures c.as_bytes.ensures.same
