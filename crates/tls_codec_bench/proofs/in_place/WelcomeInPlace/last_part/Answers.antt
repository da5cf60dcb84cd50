use Rattle.tls_codec_bench.proofs.Ends.{end_of_three}
use Rattle.tls_codec_bench.proofs.in_place.WelcomeInPlace.last_part.Goals as goal

pub returns : goal.returns
returns c =
    let view = c.from.result in
    end_of_three c.args.bytes.now c.in_ok-encoded.encoded view.cipher_suite view.secrets view.encrypted_group_info _
    c.in_ok-encoded.ensures.same c.from.ensures c.as_bytes.ensures.same
