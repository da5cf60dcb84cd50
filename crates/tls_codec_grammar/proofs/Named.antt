-- What is refused by name is refused.
use Rattle.std.proofs.Common.{List, ℕ}
use Rattle.tls_codec_wire.specs.Seen.{Causes}
use Rattle.tls_codec_wire.specs.declared.device.Source.{Ghosts}
use Rattle.tls_codec_wire.specs.declared.error.Error.{Error}
use Rattle.tls_codec_wire.proofs.Seen.{refused_so}
use Rattle.tls_codec_grammar.specs.Decoding.{Named, RefusesFromSource}
use Rattle.tls_codec_grammar.specs.Format.{Format}

pub named_leaves : {S : Type 0} {f : Format} {names : Causes} {source : Ghosts S} {old new : S} {e : Error} → Named f names source old new e → RefusesFromSource f source old new e
named_leaves p = record { refused = refused_so (λ x q. q.0) p.refused }

-- and by another name, if that says no more
pub named_so : {S : Type 0} {f : Format} {names others : Causes} {source : Ghosts S} {old new : S} {e : Error} → ((x : List ℕ) → names x (source.counts old) (source.counts new) e → others x (source.counts old) (source.counts new) e) → Named f names source old new e → Named f others source old new e
named_so f p = record { refused = refused_so (λ x q. (q.0, f x q.1)) p.refused }
