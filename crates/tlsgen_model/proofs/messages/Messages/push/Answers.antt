use Rattle.std.proofs.Common.{rules}
use Rattle.tlsgen_model.proofs.Covered.{covers_more}
use Rattle.tlsgen_model.proofs.Keys.{modules_more}
use Rattle.tlsgen_model.proofs.messages.Messages.push.Goals as goal

pub invariant_of-self-2-clause-covers : goal.invariant_of-self-2-clause-covers
invariant_of-self-2-clause-covers c =
    covers_more _ _ c.in_ok-clone.field-0 _ _ c.args.message _ c.args.self.now.covers c.in_ok-insert.ensures.updates (search rules) c.push.ensures.items

pub invariant_of-self-2-clause-differ : goal.invariant_of-self-2-clause-differ
invariant_of-self-2-clause-differ c = modules_more _ _ _ _ c.args.self.now.differ (search rules) c.push.ensures.items
