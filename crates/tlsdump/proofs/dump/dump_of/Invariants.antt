-- What was shown is messages in a row, and what is left is behind them.
use Rattle.std.proofs.Common.{length}
use Rattle.std.specs.Prelude.{⊤}
use Rattle.tlsdump.specs.Dumps.{InARow}
use Rattle.tlsdump.specs.Kinds.{FirstNamed}
use Rattle.tlsdump.specs.Protocols.{kinds_of}
use Rattle.tlsdump.proofs.dump.dump_of.Given as goal

abbrev pub invariant-messages : goal.invariant-messages
invariant-messages l = FirstNamed (kinds_of l.fn.kind.protocol) l.fn.kind.name.now (λ k. InARow k.format l.bytes l.messages.items l.rest) ⊤

abbrev pub decreases-messages : goal.decreases-messages
decreases-messages l = length l.rest
