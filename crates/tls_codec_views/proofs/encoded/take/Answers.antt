use Rattle.tls_codec_views.proofs.encoded.take.Goals as goal

pub unreachable-requires : goal.unreachable-requires
unreachable-requires g c = c.in-Err.ensures.splits.none c.requires.value c.requires.rest c.requires.begins
