use Rattle.std.proofs.Common.{ap}
use Rattle.std.proofs.Math.ListN.{drop_of_length-le}
use Rattle.std.proofs.lemmas.Result.{err_from_is_err_and}
use Rattle.tls_codec_grammar.specs.Tree.{trees}
use Rattle.tls_codec_base.proofs.ListWriting.{sent_all, sent_breaks, sent_more, trees_drop}
use Rattle.tls_codec_base.proofs.lists.engines.writing.write_each.Goals as goal

pub returns-in_err-length : goal.returns-in_err-length
returns-in_err-length g c =
    let p = err_from_is_err_and c.from_residual.result c.from_residual.ensures.1 in
    rw (p.1, p.2) (sent_breaks (g.met.K.ElementCoding.lawful c.args.coding.now) c.loop-element.invariant (trees_drop g.K.ElementCoding.plain c.args.elements.now c.loop-element.element-index _ c.loop-element-test.true c.element-item.is) c.in_err-length.ensures.writes)

pub loop-element-preserved : goal.loop-element-preserved
loop-element-preserved g c = sent_more (g.met.K.ElementCoding.lawful c.args.coding.now) c.loop-element.invariant (trees_drop g.K.ElementCoding.plain c.args.elements.now c.loop-element.element-index _ c.loop-element-test.true c.element-item.is) c.in_ok-length.ensures.writes c.saturating_add-sent.ensures

pub returns : goal.returns
returns g c = sent_all c.loop-element.invariant (ap (trees g.K.ElementCoding.plain) (drop_of_length-le c.args.elements.now c.loop-element-test.false))
