use Rattle.std.proofs.Common.{rules}
use Rattle.tls_codec_cases.proofs.LastByte.{ends_at}
use Rattle.tls_codec_cases.proofs.inner.split_at_type.Goals as goal

pub returns : goal.returns
returns c =
    ends_at c.args.bytes.now c.in_ok-at.at (search rules) (search rules) (search rules) c.split_at.ensures.front c.split_at.ensures.back c.split_at-2.ensures.front c.split_at-2.ensures.back
