use Rattle.std.proofs.Common.{arith}
use Rattle.tls_codec_grammar.proofs.ByteContents.{bytes_length}
use Rattle.tls_codec_cases.proofs.inner.InnerPlaintext.tls_serialized_len.Goals as goal

pub returns : goal.returns
returns g c =
    let content = bytes_length c.args.self.now.content.items in
    omega (arith, content, c.len.ensures, c.tls_serialized_len.ensures, c.saturating_add-ending.ensures, c.saturating_add.ensures)
