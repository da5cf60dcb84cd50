use Rattle.std.proofs.Common.{arith, sym, subst, take, drop, take-append-drop}
use Rattle.tls_codec_wire.specs.Counts.{none_fell_refl}
use Rattle.tls_codec_wire.specs.Digits.{AreBytes}
use Rattle.tls_codec_wire.proofs.Bytes.{are_bytes, AreBytes-left}
use Rattle.tls_codec_wire.proofs.outside.OutsideSource.pull.Goals as goal

pub returns-in-Ok-clause-gave : goal.returns-in-Ok-clause-gave
returns-in-Ok-clause-gave g c =
    let buffer = c.read.new.buf in
    record {
      consumed = c.in-Ok.ensures.bytes.0;
      fell = none_fell_refl _;
      moved = omega (arith, c.saturating_add-self.ensures, c.in-Ok.ensures.bound.1);
      are_bytes = AreBytes-left (take c.in-Ok.n buffer) (drop c.in-Ok.n buffer) (subst AreBytes (sym (take-append-drop c.in-Ok.n buffer)) (are_bytes buffer (λ i. omega (arith, c.type_inv.into i))));
    }
