use Rattle.std.proofs.Common.{◌≡◌, ◌∙◌, ap, Err, Ok, Some}
use Rattle.tlsdump.proofs.Dumped.{none_named, shown_named}
use Rattle.tlsdump.specs.Protocols.{kinds_of}
use Rattle.tlsdump.proofs.dump.part_of.Goals as goal

pub returns-in_ok-walked-in-Some-Ok : goal.returns-in_ok-walked-in-Some-Ok
returns-in_ok-walked-in-Some-Ok c =
    let field : c.in-Some-Ok.field-0 ≡ Ok c.in-Some-Ok.rest = c.in-Some-Ok.field-0-is in
    let is : c.check.result ≡ Some (Ok c.in-Some-Ok.rest) = c.in-Some-Ok.is ∙ ap Some field in
    shown_named (kinds_of c.args.kind.protocol) c.args.kind.name.now c.args.bytes.now c.check.result c.in-Some-Ok.rest c.before-message.result.now
    c.in_ok-walked-in-Some-Ok.walked is c.check.ensures c.before-message.ensures c.in_ok-walked-in-Some-Ok.ensures

pub returns-in_ok-rejection-in-Some-Err : goal.returns-in_ok-rejection-in-Some-Err
returns-in_ok-rejection-in-Some-Err c =
    let field : c.in-Some-Err.field-0 ≡ Err c.in-Some-Err.rejected = c.in-Some-Err.field-0-is in
    let is : c.check.result ≡ Some (Err c.in-Some-Err.rejected) = c.in-Some-Err.is ∙ ap Some field in
    none_named (kinds_of c.args.kind.protocol) c.args.kind.name.now c.args.bytes.now c.check.result c.in-Some-Err.rejected
    c.in_ok-rejection-in-Some-Err.rejection is c.check.ensures c.in_ok-rejection-in-Some-Err.ensures
