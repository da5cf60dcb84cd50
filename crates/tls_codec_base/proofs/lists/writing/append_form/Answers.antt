use Rattle.std.proofs.Common.{arith, refl}
use Rattle.std.proofs.lemmas.Result.{err_from_is_err_and}
use Rattle.tls_codec_grammar.proofs.Appending.{form_too_long, vector_not_appended, whole_appended}
use Rattle.tls_codec_base.proofs.lists.writing.append_form.Goals as goal

pub returns-in_err-form : goal.returns-in_err-form
returns-in_err-form g c =
    let p = err_from_is_err_and c.from_residual.result c.from_residual.ensures.1 in
    rw (p.1, p.2) (vector_not_appended refl c.in_err-form.ensures.makes)

pub returns-then-len : goal.returns-then-len
returns-then-len g c = form_too_long refl c.in_ok-form.ensures.makes (omega arith)

pub returns : goal.returns
returns g c =
    let items = rw (c.in_ok-extend_from_slice.was, c.deref.ensures.value) at c.extend_from_slice.ensures.items in
    whole_appended c.in_ok-form.ensures.makes items (omega arith)
