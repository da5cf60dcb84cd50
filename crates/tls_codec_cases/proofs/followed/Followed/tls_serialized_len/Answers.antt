use Rattle.std.proofs.Common.{arith}
use Rattle.tls_codec_grammar.proofs.ByteContents.{bytes_length}
use Rattle.tls_codec_cases.proofs.followed.Followed.tls_serialized_len.Goals as goal

pub returns : goal.returns
returns g c =
    let rest = bytes_length c.args.self.now.rest.items in
    omega (arith, rest, c.len.ensures, c.tls_serialized_len-length.ensures, c.saturating_add.ensures)
