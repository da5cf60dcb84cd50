use Rattle.std.proofs.Common.{None, Some, refl}
use Rattle.tlsdump.proofs.Dumped.{ended, first, message_named, next, no_message_named, stopped}
use Rattle.tlsdump.specs.Protocols.{kinds_of}
use Rattle.tlsdump.proofs.dump.dump_of.Goals as goal

pub messages-init : goal.messages-init
messages-init c = rw c.new-messages.ensures.items (first (kinds_of c.args.kind.protocol) c.args.kind.name.now c.args.bytes.now)

pub messages-preserved : goal.messages-preserved
messages-preserved c =
    let ks = kinds_of c.args.kind.protocol in
    let shows = message_named ks c.args.kind.name.now c.messages.rest.now _ c.in-Message.walked c.in-Message.behind c.in-Message.is c.in_ok-rejection.ensures in
    next ks c.args.kind.name.now c.args.bytes.now c.messages.messages.items _ c.messages.rest.now c.in-Message.walked c.in-Message.behind.now
    c.in_ok-push-in-Message.ensures.items c.messages.invariant shows

pub returns-then-is_end : goal.returns-then-is_end
returns-then-is_end c =
    let ks = kinds_of c.args.kind.protocol in
    let shows = message_named ks c.args.kind.name.now c.messages.rest.now _ c.in-Message.walked c.in-Message.behind c.in-Message.is c.in_ok-rejection.ensures in
    ended ks c.args.kind.name.now c.args.bytes.now c.messages.messages.items c.messages.rest.now c.in-Message.walked c.in-Message.behind.now
    record { messages = c.push.new.self; rejection = None } c.in_ok-push-in-Message.ensures.items refl (c.is_end.ensures.ends c.if-is_end.true)
    c.messages.invariant shows

pub returns-in-NoMessage : goal.returns-in-NoMessage
returns-in-NoMessage c =
    let ks = kinds_of c.args.kind.protocol in
    let none = no_message_named ks c.args.kind.name.now c.messages.rest.now _ c.in-NoMessage.rejection c.in-NoMessage.is c.in_ok-rejection.ensures in
    stopped ks c.args.kind.name.now c.args.bytes.now c.messages.rest.now c.in-NoMessage.rejection
    record { messages = c.messages.messages; rejection = Some c.in-NoMessage.rejection } refl c.messages.invariant none
