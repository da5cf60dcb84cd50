use Rattle.std.proofs.Common.{rules}
use Rattle.std.proofs.lemmas.Fn.{filter_same}
use Rattle.tlsgen_model.proofs.Kept.{kept_modules}
use Rattle.tlsgen_model.proofs.messages.Messages.into_messages_but.Goals as goal

pub returns-clause-kept : goal.returns-clause-kept
returns-clause-kept c = filter_same _ _ _ (λ x b f' k. search rules) _ _ c.retain.ensures.filtered

pub returns-clause-differ : goal.returns-clause-differ
returns-clause-differ c = kept_modules _ _ _ _ c.retain.ensures.filtered c.args.self.differ
