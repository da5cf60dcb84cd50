use Rattle.std.proofs.Common.{refl}
use Rattle.tls_codec_grammar.specs.Tagged.{no_format}
use Rattle.tls_codec_cases.proofs.Parts.{at_own}
use Rattle.tls_codec_cases.proofs.case.CaseWriteCases.write_parts.Goals as goal

pub returns : goal.returns
returns g c = rw (at_own g.row.TAG g.row.TAG g.A.Size.format no_format refl) c.tls_serialize.ensures.writes
