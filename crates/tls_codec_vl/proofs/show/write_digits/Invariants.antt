use Rattle.std.proofs.Common.{flat_map, take}
use Rattle.std.specs.Fmt.{HasWritten, IsPlainFormatter}
use Rattle.tls_codec_vl.specs.Shown.{byte_text}
use Rattle.tls_codec_vl.proofs.show.write_digits.Given as goal

-- the digits of the bytes so far are written
abbrev pub invariant-loop-byte : goal.invariant-loop-byte
invariant-loop-byte g l =
    IsPlainFormatter l.initial.f
    → HasWritten g.W.Write.write_str_gives l.initial.f (flat_map byte_text (take l.byte-index l.content)) l.f
