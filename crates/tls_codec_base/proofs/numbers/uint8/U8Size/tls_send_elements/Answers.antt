use Rattle.std.proofs.Common.{arith}
use Rattle.std.proofs.lemmas.Result.{err_from_is_err_and}
use Rattle.tls_codec_wire.proofs.Bytes.{are_bytes}
use Rattle.tls_codec_grammar.specs.Format.{content_format, number_format}
use Rattle.tls_codec_grammar.proofs.ByteContents.{bytes_shortest}
use Rattle.tls_codec_grammar.proofs.Sent.{breaks_whole}
use Rattle.tls_codec_base.proofs.numbers.uint8.U8Size.tls_send_elements.Goals as goal

pub returns-in_err-write_all : goal.returns-in_err-write_all
returns-in_err-write_all g c =
    let p = err_from_is_err_and c.from_residual.result c.from_residual.ensures.1 in
    let small = are_bytes c.args.elements.now (λ i. omega (arith, c.type_inv.elements i)) in
    rw (p.1, p.2) (breaks_whole (content_format (number_format 1)) _ _ (bytes_shortest _ small) _ _ _ _ c.write_all.ensures.beginning c.in_err-write_all.ensures.refused c.write_all.ensures.counts)

pub returns : goal.returns
returns g c =
    let small = are_bytes c.args.elements.now (λ i. omega (arith, c.type_inv.elements i)) in
    record { form = _; shortest = bytes_shortest _ small; held = c.in_ok-write_all.ensures.whole; count = omega arith; fell = c.write_all.ensures.counts }
