use Rattle.tls_codec_base.proofs.Memory.{boxed_named, boxed_reads}
use Rattle.tls_codec_base.proofs.boxes.BoxDeserialize.tls_deserialize.Goals as goal

pub returns-clause-reads : goal.returns-clause-reads
returns-clause-reads g c = boxed_reads g.R.Source g.T.Size.format (λ b. b.value) g.T.Size.plain g.met.R.Source.gives_nothing c.in_ok-content.ensures.reads c.boxed.result c.boxed.ensures.ok c.boxed.ensures.err

pub returns-clause-named : goal.returns-clause-named
returns-clause-named g c = boxed_named g.R.Source g.T.Size.format (λ b. b.value) g.T.Size.plain g.met.R.Source.gives_nothing c.in_ok-content.ensures.reads g.T.Deserialize.names c.boxed.result c.boxed.ensures.err
