use Rattle.std.proofs.Common.{arith}
use Rattle.tls_codec_grammar.proofs.LengthFields.{last_digits}
use Rattle.tls_codec_grammar.proofs.length_field.fixed.last_digits.Goals as goal

pub returns : goal.returns
returns g c = (omega arith, rw c.to_be_bytes.ensures (last_digits g.row.K c.args.length c.requires.width (omega arith)))
