use Rattle.std.proofs.Common.{length}
use Rattle.tls_codec_grammar.specs.Tree.{Number, trees}
use Rattle.tls_codec_grammar.specs.Format.{number_format}
use Rattle.tls_codec_base.proofs.ListWriting.{SentSoFar}
use Rattle.tls_codec_base.proofs.numbers.groups.send_run.Given as goal

abbrev pub invariant-loop-rest : goal.invariant-loop-rest
invariant-loop-rest g l = SentSoFar (number_format g.row.K) g.W.Sink (trees (λ x. Number (g.T.HasDigits.number x)) l.numbers) (trees (λ x. Number (g.T.HasDigits.number x)) l.rest) l.fn.sink l.sink l.sent

abbrev pub decreases-loop-rest : goal.decreases-loop-rest
decreases-loop-rest g l = length l.rest
