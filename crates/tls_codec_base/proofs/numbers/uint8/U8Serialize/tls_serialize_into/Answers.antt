use Rattle.std.proofs.Common.{arith, refl}
use Rattle.tls_codec_grammar.proofs.Appending.{whole_appended}
use Rattle.tls_codec_grammar.proofs.NumberCalls.{byte_shortest}
use Rattle.tls_codec_base.proofs.numbers.uint8.U8Serialize.tls_serialize_into.Goals as goal

pub returns-clause-appends : goal.returns-clause-appends
returns-clause-appends c = whole_appended (byte_shortest c.args.self.now (omega arith)) c.in_ok-push.ensures.items refl
