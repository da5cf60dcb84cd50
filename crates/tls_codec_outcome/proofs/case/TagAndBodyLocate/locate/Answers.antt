use Rattle.std.proofs.Common.{◌<◌, ◌^◌, length, refl, arith}
use Rattle.tls_codec_outcome.proofs.CasePlaces.{case_found}
use Rattle.tls_codec_outcome.proofs.case.TagAndBodyLocate.locate.Goals as goal

pub returns-clause-places : goal.returns-clause-places
returns-clause-places g c at =
    let x = c.args.bytes.now in
    let small : length x < 2 ^ 64 = omega arith in
    case_found g.E.TaggedEnum.TAG_LEN g.E.TaggedEnum.variants g.E.Enum.Size.format g.met.E.TaggedEnum.is_tagged x c.args.from c.field_at-whole.result _ _ (c.field_at-whole.ensures at)
    refl (omega (arith, c.TAG_LEN.ensures)) (λ fits. omega (arith, c.saturating_add.ensures, c.TAG_LEN-2.ensures, fits, small)) (omega (arith, c.saturating_sub.ensures, c.TAG_LEN-3.ensures))
