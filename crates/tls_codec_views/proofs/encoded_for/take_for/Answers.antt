use Rattle.tls_codec_views.proofs.encoded_for.take_for.Goals as goal

pub unreachable-requires : goal.unreachable-requires
unreachable-requires g c =
    let begun = c.requires in
    (c.in-Err.ensures.validates begun.0 begun.1).none begun.2.value begun.2.rest begun.2.begins
