use Rattle.std.proofs.lemmas.Result.{err_from_is_err_and}
use Rattle.tls_codec_grammar.proofs.Appending.{empty_made, empty_refused}
use Rattle.tls_codec_base.proofs.context.traits.SerializeFor.tls_serialize_detached_for.Goals as goal

pub returns-in_err-tls_serialize_into_for : goal.returns-in_err-tls_serialize_into_for
returns-in_err-tls_serialize_into_for g c =
    let p = err_from_is_err_and c.from_residual.result c.from_residual.ensures.1 in
    record { makes = rw (p.1, p.2) (empty_refused c.new-bytes.ensures.items c.in_err-tls_serialize_into_for.ensures.appends) }

pub returns : goal.returns
returns g c = record { makes = empty_made _ c.new-bytes.ensures.items c.in_ok-tls_serialize_into_for.ensures.appends }
