use Rattle.std.proofs.Common.{List, ap, arith}
use Rattle.std.proofs.Math.ListN.{drop_of_length-le}
use Rattle.tls_codec_grammar.specs.Tree.{trees}
use Rattle.tls_codec_grammar.specs.Announced.{content_sum}
use Rattle.tls_codec_base.proofs.ListWriting.{trees_drop}
use Rattle.tls_codec_base.proofs.lists.engines.writing.sum_of_lengths.Goals as goal

pub loop-element-init : goal.loop-element-init
loop-element-init g c = record { total = omega arith; fits = omega arith }

pub loop-element-preserved : goal.loop-element-preserved
loop-element-preserved g c =
    let xs = c.args.elements.now in
    let next = trees_drop g.K.ElementCoding.plain xs c.loop-element.element-index _ c.loop-element-test.true c.element-item.is in
    let left = ap (content_sum (g.K.ElementCoding.format c.args.coding.now).announced) next in
    record { total = omega (arith, c.loop-element.invariant.total, left); fits = omega arith }

pub returns : goal.returns
returns g c =
    let sum = λ (xs : List _). content_sum (g.K.ElementCoding.format c.args.coding.now).announced (trees g.K.ElementCoding.plain xs) in
    let none = ap sum (drop_of_length-le c.args.elements.now c.loop-element-test.false) in
    record { ok = omega (arith, c.loop-element.invariant.total, none); err = tt }
