use Rattle.std.proofs.Common.{◌≡◌, ◌++◌, ◌∷◌, [], ◌∙◌, ap, rules, sym}
use Rattle.tlsgen_syntax.specs.Apart.{before_then, sent_part_then}
use Rattle.tlsgen_syntax.specs.Signs.{each_then, item_then, part_then}
use Rattle.tlsgen_syntax.proofs.Gathered.{gathered_each}
use Rattle.tlsgen_syntax.proofs.signed.push_struct.Goals as goal

pub loop-part-preserved : goal.loop-part-preserved
loop-part-preserved c =
    let sent = c.loop-part.sent.items in
    let one = c.in_ok-sent_part.field-0 in
    let yielded = c.loop-part.yielded in
    let part = c.in-Some.part in
    let sent_one = sent_part_then c.args.one.name in
    let before = before_then c.args.one.name in
    let pushed : c.push.new.self.items ≡ sent ++ one ∷ [] = search rules in
    record {
      sent = λ rest. ap (λ xs. each_then part_then xs rest) pushed ∙ gathered_each part_then sent one rest ∙
          c.loop-part.invariant.sent (part_then one rest) ∙
          ap (each_then sent_one yielded) (c.in_ok-sent_part.ensures.sent rest) ∙
          sym (gathered_each sent_one yielded part rest);
      before = λ rest. c.in_ok-sent_part.ensures.before rest ∙ c.loop-part.invariant.before (before part rest) ∙
          ap (each_then item_then c.args.items.now.items) (sym (gathered_each before yielded part rest));
    }
