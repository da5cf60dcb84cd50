use Rattle.std.proofs.Common.{◌≡◌, [], ◌∷◌, subst, arith}
use Rattle.tls_codec_wire.proofs.VarintReads.{one_byte_spells}
use Rattle.tls_codec_wire.specs.Varint.{SpelledBelow}
use Rattle.tls_codec_wire.proofs.varint_bits.split_below.Goals as goal

pub returns-then-first-lt64-clause-ok : goal.returns-then-first-lt64-clause-ok
returns-then-first-lt64-clause-ok g c =
    let first = c.in-Some.first.now in
    let same : first ≡ c.from.result = omega (arith, c.from.ensures) in
    record {
      front = first ∷ [];
      whole = c.in-Some.ensures.cases.0;
      spelled = subst (SpelledBelow g.row.LIMIT (first ∷ [])) same (one_byte_spells g.row.LIMIT first (omega (arith, c.if-first-lt64.true)) (omega arith));
    }
