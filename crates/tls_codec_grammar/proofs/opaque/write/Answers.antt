use Rattle.std.proofs.Common.{arith, sym, subst}
use Rattle.std.proofs.lemmas.Result.{err_from_is_err_and}
use Rattle.tls_codec_wire.proofs.Bytes.{are_bytes}
use Rattle.tls_codec_grammar.specs.laws.FormatLaws.{counted_bytes_meets}
use Rattle.tls_codec_grammar.proofs.ByteContents.{bytes_length}
use Rattle.tls_codec_grammar.proofs.CountedEncoding.{field_breaks_count}
use Rattle.tls_codec_grammar.proofs.OpaqueEncoding.{byte_contents_meet, bytes_broken, bytes_sent, bytes_sum}
use Rattle.tls_codec_grammar.proofs.opaque.write.Goals as goal

pub returns-in_err-width-clause-writes : goal.returns-in_err-width-clause-writes
returns-in_err-width-clause-writes g c =
    let p = err_from_is_err_and c.from_residual.result c.from_residual.ensures.1 in
    let ensured = c.in_err-width.ensures in
    rw (p.1, p.2) (field_breaks_count g.met.F.LengthField.lawful byte_contents_meet _ (counted_bytes_meets g.met.F.LengthField.lawful) (bytes_length _) (sym (bytes_sum _)) ensured.beginning (λ h. (ensured.out_of_bounds h).1) ensured.refused c.write_length.ensures.counts)

pub returns-in_err-write_all-clause-writes : goal.returns-in_err-write_all-clause-writes
returns-in_err-write_all-clause-writes g c =
    let p = err_from_is_err_and c.from_residual-in_err-write_all.result c.from_residual-in_err-write_all.ensures.1 in
    let small = are_bytes c.args.content.now (λ i. omega (arith, c.type_inv.content i)) in
    rw (p.1, p.2) (bytes_broken g.met.F.LengthField.lawful _ small _ c.in_ok-width.ensures.ok c.write_length.ensures.counts c.write_all.ensures.beginning c.in_err-write_all.ensures.refused c.write_all.ensures.counts)

pub returns-clause-writes : goal.returns-clause-writes
returns-clause-writes g c =
    let small = are_bytes c.args.content.now (λ i. omega (arith, c.type_inv.content i)) in
    bytes_sent g.met.F.LengthField.lawful _ small _ c.in_ok-width.ensures.ok c.write_length.ensures.counts c.in_ok-write_all.ensures.whole c.write_all.ensures.counts (omega (arith, c.saturating_add.ensures))

pub returns-in_err-width-clause-out_of_bounds : goal.returns-in_err-width-clause-out_of_bounds
returns-in_err-width-clause-out_of_bounds g c long =
    let p = err_from_is_err_and c.from_residual.result c.from_residual.ensures.1 in
    let refused = c.write_length.ensures.out_of_bounds (λ held. long (subst g.F.LengthField.field.holds (sym (bytes_sum c.args.content.now)) held)) in
    let same = refused.0 in
    let was = c.in_err-width.was in
    rw (p.1, p.2) (cc, refused.1)

pub returns-in_err-write_all-clause-out_of_bounds : goal.returns-in_err-write_all-clause-out_of_bounds
returns-in_err-write_all-clause-out_of_bounds g c long =
    let refused = c.write_length.ensures.out_of_bounds (λ held. long (subst g.F.LengthField.field.holds (sym (bytes_sum c.args.content.now)) held)) in
    let same = refused.0 in
    let was = c.in_ok-width.was in
    absurd cc

pub returns-clause-out_of_bounds : goal.returns-clause-out_of_bounds
returns-clause-out_of_bounds g c long =
    let refused = c.write_length.ensures.out_of_bounds (λ held. long (subst g.F.LengthField.field.holds (sym (bytes_sum c.args.content.now)) held)) in
    let same = refused.0 in
    let was = c.in_ok-width.was in
    absurd cc
