use Rattle.std.proofs.lemmas.Result.{err_from_is_err_and}
use Rattle.tls_codec_base.proofs.OptionEncoding.{none_made, option_refuses_vector}
use Rattle.tls_codec_base.proofs.options.OptionSerializeBytes.tls_serialize_bytes.Goals as goal

pub returns-in_err-content-in-Some-clause-makes : goal.returns-in_err-content-in-Some-clause-makes
returns-in_err-content-in-Some-clause-makes g c =
    let p = err_from_is_err_and c.from_residual.result c.from_residual.ensures.1 in
    let some = c.in-Some.is in
    rw (p.1, p.2, some) (option_refuses_vector g.met.T.Size.lawful _ c.in_err-content-in-Some.ensures.makes)

pub returns-in-None-clause-makes : goal.returns-in-None-clause-makes
returns-in-None-clause-makes g c =
    let none = c.in-None.is in
    rw none (none_made g.T.Size.format c.vector.result c.vector.ensures.ok c.vector.ensures.err)
