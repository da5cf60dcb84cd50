use Rattle.std.proofs.Common.{◌^◌, ◌-◌, [], flat_map, take, get_or, sym, ap, ◌∙◌, false, arith, rules}
use Rattle.std.specs.Fmt.{HasWritten, digits, format_spec, padded_integral}
use Rattle.std.proofs.lemmas.Fmt.{hex_byte}
use Rattle.std.proofs.lemmas.List.{flat_map_more, take_more}
use Rattle.std.proofs.Output.{has_written_append, has_written_of_eq}
use Rattle.tls_codec_vl.specs.Shown.{byte_text}
use Rattle.tls_codec_vl.proofs.show.write_digits.Goals as goal

pub loop-byte-preserved : goal.loop-byte-preserved
loop-byte-preserved g c = λ plain.
    let i = c.loop-byte.byte-index in
    let bs = c.args.content.now in
    let b = get_or bs i 0 in
    let took = g.W.Write.write_str_gives in
    let before = c.loop-byte.invariant plain in
    let now : HasWritten took c.loop-byte.f (padded_integral (format_spec 32 0 4 2 (2 ^ 64 - 1)) false [] (digits 16 false b)) c.write.new.self = search rules in
    let written = has_written_of_eq _ _ _ _ _ (hex_byte false b (omega (arith, c.type_inv.content i))) now in
    let text = flat_map_more byte_text [] (take i bs) b ∙ ap (flat_map byte_text) (sym (take_more bs i 0 (search rules))) in
    has_written_of_eq _ _ _ _ _ text (has_written_append _ _ _ _ _ _ before written)
