use Rattle.std.proofs.Common.{inr}
use Rattle.guide.proofs.rewrite.rewrite.Goals as goal

-- an extension was read, and what sending it says is what is said of it
pub returns : goal.returns
returns g c = inr (record {
  extension = c.in_ok-extension.extension;
  read = c.in_ok-extension.ensures.reads;
  sent = c.tls_serialize.ensures.writes;
})
