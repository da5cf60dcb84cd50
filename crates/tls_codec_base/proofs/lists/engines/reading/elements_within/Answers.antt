use Rattle.std.proofs.Common.{arith}
use Rattle.std.proofs.lemmas.Result.{err_from_is_err_and}
use Rattle.tls_codec_base.proofs.Filling.{filled_at_once, filled_from, filled_later, refused_at_once}
use Rattle.tls_codec_base.proofs.lists.engines.reading.elements_within.Goals.{then-limit-gt0+in_ok-elements+in_default, else-limit-gt0}
use Rattle.tls_codec_base.proofs.lists.engines.reading.elements_within.Goals as goal

pub returns-in_err-elements : goal.returns-in_err-elements
returns-in_err-elements g c =
    let refused = c.in_err-elements.ensures in
    let p = err_from_is_err_and c.from_residual.result c.from_residual.ensures.1 in
    rw (p.1, p.2) (refused_at_once (g.K.ElementCoding.format c.args.coding.now) g.K.ElementCoding.plain (g.K.ElementReader.names c.args.coding.now)
    (omega (arith, c.limit.ensures)) refused.same refused.named refused.turned)

pub returns-in-Some : goal.returns-in-Some
returns-in-Some g c =
    let gave = c.in_ok-elements.ensures in
    filled_at_once (g.K.ElementCoding.format c.args.coding.now) g.K.ElementCoding.plain (g.K.ElementReader.names c.args.coding.now) _ c.in-Some.elements
    (omega (arith, c.limit.ensures)) gave.same gave.reads c.in-Some.is gave.turned

pub returns : goal.returns
returns g c = elim c.if-limit-gt0.branch [
  | then-limit-gt0+in_ok-elements+in_default w ↦
      let gave = w.in_ok-elements.ensures in
      filled_later (g.K.ElementCoding.format c.args.coding.now) g.K.ElementCoding.plain _ gave.reads gave.turned w.in_default.is
      (filled_from w.within-is w.turns-is c.each_within.ensures)
  | else-limit-gt0 w ↦ filled_from w.within-is w.turns-is c.each_within.ensures
]
