use Rattle.tls_codec_views.proofs.contexts.take_keyed.Goals as goal

pub unreachable-requires : goal.unreachable-requires
unreachable-requires g c = c.in-Err.ensures.validates.none c.requires.value c.requires.rest c.requires.begins
