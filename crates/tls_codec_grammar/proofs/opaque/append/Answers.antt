use Rattle.std.proofs.Common.{length, arith, inl, inr, refl, sym, subst}
use Rattle.tls_codec_wire.proofs.Bytes.{are_bytes}
use Rattle.tls_codec_grammar.specs.laws.FormatLaws.{content_length_sum}
use Rattle.tls_codec_grammar.proofs.Appending.{count_not_appended}
use Rattle.tls_codec_grammar.proofs.ByteContents.{bytes_shortest}
use Rattle.tls_codec_grammar.proofs.LengthFields.{slice_form}
use Rattle.tls_codec_grammar.proofs.OpaqueEncoding.{byte_contents_meet, bytes_appended, bytes_sum}
use Rattle.tls_codec_grammar.proofs.opaque.append.Goals as goal

pub returns-in_default-clause-appends : goal.returns-in_default-clause-appends
returns-in_default-clause-appends g c =
    let shortest = bytes_shortest _ (are_bytes c.args.content.now (λ i. omega (arith, c.type_inv.content i))) in
    count_not_appended g.met.F.LengthField.lawful byte_contents_meet (content_length_sum _ _) shortest refl (inr (refl, c.in_default.ensures))

pub returns-clause-appends : goal.returns-clause-appends
returns-clause-appends g c =
    let small = are_bytes c.args.content.now (λ i. omega (arith, c.type_inv.content i)) in
    let form = slice_form (λ s. g.F.LengthField.field.spells s (length c.args.content.now)) c.in-Some.found.0 c.in-Some.found.1 (omega arith) c.in-Some.ensures.0 c.in-Some.ensures.1 in
    bytes_appended g.met.F.LengthField.lawful c.args.content.now small _ form (rw c.in_ok-append_both.was at c.append_both.ensures) refl

pub returns-in_err-append_both-clause-out_of_bounds : goal.returns-in_err-append_both-clause-out_of_bounds
returns-in_err-append_both-clause-out_of_bounds g c long = absurd (long (subst g.F.LengthField.field.holds (sym (bytes_sum c.args.content.now)) (g.met.F.LengthField.lawful.held _ _ c.in-Some.ensures.1)))

pub returns-clause-out_of_bounds : goal.returns-clause-out_of_bounds
returns-clause-out_of_bounds g c long = absurd (long (subst g.F.LengthField.field.holds (sym (bytes_sum c.args.content.now)) (g.met.F.LengthField.lawful.held _ _ c.in-Some.ensures.1)))

pub returns-in_err-append_both-clause-at_once : goal.returns-in_err-append_both-clause-at_once
returns-in_err-append_both-clause-at_once g c long = absurd (long (subst g.F.LengthField.field.holds (sym (bytes_sum c.args.content.now)) (g.met.F.LengthField.lawful.held _ _ c.in-Some.ensures.1)))

pub returns-clause-at_once : goal.returns-clause-at_once
returns-clause-at_once g c long = absurd (long (subst g.F.LengthField.field.holds (sym (bytes_sum c.args.content.now)) (g.met.F.LengthField.lawful.held _ _ c.in-Some.ensures.1)))

pub returns-in_default-clause-out_of_bounds : goal.returns-in_default-clause-out_of_bounds
returns-in_default-clause-out_of_bounds g c long = inr (inl (refl, long))
