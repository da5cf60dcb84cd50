use Rattle.std.proofs.Common.{◌<◌, ◌^◌, length, refl, arith}
use Rattle.tls_codec_grammar.specs.Format.{pair_format}
use Rattle.tls_codec_outcome.specs.Ends.{field_ends}
use Rattle.tls_codec_outcome.proofs.DecidedPlaces.{are_decided, begins_first}
use Rattle.tls_codec_outcome.proofs.decided.DependentFieldsLocate.locate.Goals as goal

pub returns-in-Ok-clause-places : goal.returns-in-Ok-clause-places
returns-in-Ok-clause-places g c at =
    let x = c.args.bytes.now in
    let small : length x < 2 ^ 64 = omega arith in
    let keyed = c.in-Ok.ensures.validates in
    let begins = rw c.bytes_from.ensures at keyed.begins in
    are_decided g.T.Size.format g.U.SizeFor.format_for g.V.SizeFor.format_for g.met.T.Size.lawful g.met.U.SizeFor.lawful x small c.args.from keyed.value _ begins _ c.field_for-second.result c.field_for-third.result c.saturating_sub-middle.result c.end.result
    (omega (arith, c.saturating_sub-middle.ensures)) refl (omega (arith, c.saturating_sub.ensures)) (c.field_for-second.ensures keyed.value keyed.keyed) c.end.ensures (c.field_for-third.ensures keyed.value keyed.keyed) at

pub returns-in-Ok-clause-end : goal.returns-in-Ok-clause-end
returns-in-Ok-clause-end g c at =
    let x = c.args.bytes.now in
    let small : length x < 2 ^ 64 = omega arith in
    let are = returns-in-Ok-clause-places g c at in
    c.end-in-Ok.ensures (omega (arith, small, (field_ends (g.V.SizeFor.format_for are.value) x _ c.field_for-third.result are.third_is).within))

pub returns-in-Err-clause-places : goal.returns-in-Err-clause-places
returns-in-Err-clause-places g c at =
    let first = begins_first g.T.Size.format (λ v. pair_format (g.U.SizeFor.format_for v) (g.V.SizeFor.format_for v)) c.args.bytes.now c.args.from at in
    absurd (c.in-Err.ensures.validates.none first.value first.rest (rw c.bytes_from.ensures first.begins))
