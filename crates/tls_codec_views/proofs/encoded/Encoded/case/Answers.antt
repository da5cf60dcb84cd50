use Rattle.tls_codec_views.proofs.Parts.{parts_left, tag_begins}
use Rattle.tls_codec_views.proofs.encoded.Encoded.case.Goals as goal

pub unreachable-requires : goal.unreachable-requires
unreachable-requires g c =
    let begun = tag_begins g.T.Tag.Tag.wide g.T.Choice.variants (g.met.T.Choice.as_choice _ c.self.invariant) in
    c.in-Err.ensures.finds.none begun.value begun.rest begun.begins

pub returns-clause-parts : goal.returns-clause-parts
returns-clause-parts g c =
    parts_left g.T.Choice.variants g.met.T.Tag.Tag.small (g.met.T.Choice.as_choice _ c.self.invariant) c.in-Ok.ensures.finds
