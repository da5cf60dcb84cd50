use Rattle.std.proofs.Common.{ap, arith, length, length-append, refl}
use Rattle.std.proofs.Math.ListN.{drop_of_length-le}
use Rattle.tls_codec_grammar.specs.Tree.{trees}
use Rattle.tls_codec_base.proofs.PartsAppending.{appended_all, appended_more, appended_none, next_not_appended}
use Rattle.tls_codec_base.proofs.ListWriting.{trees_drop}
use Rattle.tls_codec_base.proofs.lists.writing.append_each_form.Goals as goal

pub loop-element-init : goal.loop-element-init
loop-element-init g c = appended_none _ _ refl

pub returns-in-Err : goal.returns-in-Err
returns-in-Err g c =
    next_not_appended g.met.T.Size.lawful c.loop-element.invariant (trees_drop g.T.Size.plain c.args.elements.now c.loop-element.element-index _ c.loop-element-test.true c.element-item.is) c.in-Err.ensures c.truncate.ensures.items (omega (arith, c.len-at.ensures))

pub loop-element-preserved : goal.loop-element-preserved
loop-element-preserved g c =
    appended_more g.met.T.Size.lawful c.loop-element.invariant (trees_drop g.T.Size.plain c.args.elements.now c.loop-element.element-index _ c.loop-element-test.true c.element-item.is) c.in_default.ensures

pub returns : goal.returns
returns g c =
    appended_all c.loop-element.invariant (ap (trees g.T.Size.plain) (drop_of_length-le c.args.elements.now c.loop-element-test.false)) (omega (arith, c.len.ensures, c.len-at.ensures))

pub overflow_sub-result : goal.overflow_sub-result
overflow_sub-result g c =
    let so_far = c.loop-element.invariant in
    omega (arith, c.len.ensures, c.len-at.ensures, ap length so_far.held, length-append c.args.out.now.items so_far.form)
