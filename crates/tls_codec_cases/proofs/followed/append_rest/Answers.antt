use Rattle.std.proofs.Common.{◌≡◌, ◌++◌, length, rules}
use Rattle.tls_codec_wire.specs.Digits.{AreBytes}
use Rattle.tls_codec_cases.proofs.UpToEnd.{bytes_appended}
use Rattle.tls_codec_cases.proofs.followed.append_rest.Goals as goal

pub returns : goal.returns
returns c =
    let content = c.args.bytes.now.items in
    let bytes : AreBytes content = search rules in
    let held : c.extend_from_slice.new.self.items ≡ c.args.out.now.items ++ content = search rules in
    let count : c.len.result ≡ length content = search rules in
    record { appends = bytes_appended content bytes held count }
