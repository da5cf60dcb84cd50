use Rattle.std.proofs.Common.{◌≡◌, ◌<◌, ℕ, [], length, get_or, map}
use Rattle.tls_codec_wire.specs.Digits.{Digits}
use Rattle.tls_codec_base.specs.declared.numbers.groups.TheConstants.{GROUP}
use Rattle.tls_codec_base.proofs.numbers.groups.send_group.Given as goal

abbrev pub invariant-loop-i : goal.invariant-loop-i
invariant-loop-i g l = (length l.digits ≡ GROUP) × ((j : ℕ) → j < l.i → Digits g.row.K (get_or l.digits j []) (get_or (map g.T.HasDigits.number l.group) j 0))
