use Rattle.tls_codec_base.specs.Values.{values}
use Rattle.tls_codec_views.proofs.Parts.{number_known, number_read, tag_begins}
use Rattle.tls_codec_views.proofs.encoded.Encoded.number.Goals as goal

pub unreachable-requires : goal.unreachable-requires
unreachable-requires g c =
    let begun = tag_begins g.T.Tag.Tag.wide (values g.T.Numbered.has) (g.met.T.Numbered.as_values _ c.self.invariant) in
    c.in-Err.ensures.finds.none begun.value begun.rest begun.begins

pub returns-clause-has : goal.returns-clause-has
returns-clause-has g c = number_known g.T.Numbered.has g.met.T.Tag.Tag.small (g.met.T.Numbered.as_values _ c.self.invariant) c.in-Ok.ensures.finds

pub returns-clause-reads : goal.returns-clause-reads
returns-clause-reads g c = let is = c.self.view_is in rw (← is) (number_read g.T.Numbered.has g.met.T.Tag.Tag.small (g.met.T.Numbered.as_values _ c.self.invariant) c.in-Ok.ensures.finds)
