use Rattle.std.proofs.Common.{ap, arith, length, length-append}
use Rattle.tls_codec_grammar.proofs.Appending.{cut_off, whole_appended}
use Rattle.tls_codec_base.proofs.VectorSinks.{write_not_appended}
use Rattle.tls_codec_base.proofs.lists.engines.writing.append_at_once.Goals as goal

pub returns-in-Ok-Some : goal.returns-in-Ok-Some
returns-in-Ok-Some g c =
    let sent = rw c.in-Ok-Some.field-0-is at c.in-Ok-Some.ensures in
    let longer = length-append c.args.out.now.items sent.form in
    whole_appended sent.shortest sent.held (omega (arith, c.len.ensures, c.len-at.ensures, ap length sent.held, longer))

pub returns-in-Ok-None : goal.returns-in-Ok-None
returns-in-Ok-None g c =
    let none = rw c.in-Ok-None.field-0-is at c.in-Ok-None.ensures in
    ap (λ v. v.items) none

pub returns-in-Err : goal.returns-in-Err
returns-in-Err g c =
    let broke = c.in-Err.ensures in
    write_not_appended _ (cut_off broke.sent c.truncate.ensures.items (omega (arith, c.len-at.ensures)) broke.held) broke.cause
