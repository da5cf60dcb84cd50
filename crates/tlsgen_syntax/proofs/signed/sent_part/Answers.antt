use Rattle.std.proofs.Common.{◌≡◌, ◌++◌, ◌∷◌, [], ◌∙◌, ap, rules, sym}
use Rattle.tlsgen_syntax.specs.declared.syntax.Item.TheVariants.{Struct}
use Rattle.tlsgen_syntax.specs.Apart.{before_then}
use Rattle.tlsgen_syntax.specs.Signs.{each_then, item_then}
use Rattle.tlsgen_syntax.proofs.Gathered.{gathered_each}
use Rattle.tlsgen_syntax.proofs.signed.sent_part.Goals as goal

pub returns-in_ok-push-in-Signed-clause-before : goal.returns-in_ok-push-in-Signed-clause-before
returns-in_ok-push-in-Signed-clause-before c =
    let items = c.args.items.now.items in
    let one = Struct c.in_ok-to_be_signed-in-Signed.field-0 in
    let pushed : c.push.new.self.items ≡ items ++ one ∷ [] = search rules in
    let signed = c.in_ok-to_be_signed-in-Signed.ensures in
    λ rest. ap (λ xs. each_then item_then xs rest) pushed ∙ gathered_each item_then items one rest ∙
    ap (each_then item_then items) (signed rest) ∙
    ap (λ part. each_then item_then items (before_then c.args.outer.now part rest)) (sym c.in-Signed.is)
