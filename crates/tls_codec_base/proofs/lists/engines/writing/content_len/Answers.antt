use Rattle.tls_codec_base.proofs.ListWriting.{even_sum}
use Rattle.tls_codec_base.proofs.lists.engines.writing.content_len.Goals as goal

pub returns-in-Some-clause-ok : goal.returns-in-Some-clause-ok
returns-in-Some-clause-ok g c = rw (← even_sum (g.K.ElementCoding.format c.args.coding.now).announced g.K.ElementCoding.plain c.in-Some.each c.args.elements.now c.in-Some.ensures) c.product.ensures.ok

pub returns-in-Some-clause-err : goal.returns-in-Some-clause-err
returns-in-Some-clause-err g c = rw (← even_sum (g.K.ElementCoding.format c.args.coding.now).announced g.K.ElementCoding.plain c.in-Some.each c.args.elements.now c.in-Some.ensures) c.product.ensures.err
