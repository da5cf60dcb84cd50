use Rattle.std.proofs.Common.{refl, sym}
use Rattle.tls_codec.specs.OwnMessages.{u16_meets, values_meet}
use Rattle.tls_codec.proofs.OwnMessages.{tag_named_source, tag_reads, tagged_leaves_unknown, unknown_named_source, value_given}
use Rattle.mls_group.specs.ProtocolVersionMls10.{protocol_version_mls10_has, protocol_version_mls10_known}
use Rattle.mls_group.proofs.protocol_version_mls10.ProtocolVersionMls10Deserialize.tls_deserialize.Goals as goal

pub returns-in_err-tag-clause-reads : goal.returns-in_err-tag-clause-reads
returns-in_err-tag-clause-reads g c =
    tag_reads u16_meets (values_meet protocol_version_mls10_has) _ _ _ _ _ c.from_residual.ensures.1
    c.in_err-tag.ensures.reads

pub returns-in_err-tag-clause-named : goal.returns-in_err-tag-clause-named
returns-in_err-tag-clause-named g c =
    tag_named_source u16_meets (values_meet protocol_version_mls10_has) _ _ _ _ _ c.from_residual.ensures.1
    c.in_err-tag.ensures.named

pub returns-in-Some-clause-reads : goal.returns-in-Some-clause-reads
returns-in-Some-clause-reads g c =
    let source = g.met.R.Source in
    value_given protocol_version_mls10_has u16_meets (protocol_version_mls10_known c.in-Some.value)
    (sym c.in-Some.ensures) source.gives_in_order source.gives_nothing c.in_ok-tag.ensures.reads

pub returns-in-None-clause-reads : goal.returns-in-None-clause-reads
returns-in-None-clause-reads g c =
    let is = c.unknown_value.ensures in
    rw is (tagged_leaves_unknown u16_meets (values_meet protocol_version_mls10_has)
    g.met.R.Source.gives_nothing c.in_ok-tag.ensures.reads c.in-None.ensures)

pub returns-in-None-clause-named : goal.returns-in-None-clause-named
returns-in-None-clause-named g c =
    let source = g.met.R.Source in
    let is = c.unknown_value.ensures in
    rw is (rw c.from.ensures (unknown_named_source u16_meets (values_meet protocol_version_mls10_has) _
    source.gives_nothing source.no_count_falls c.in_ok-tag.ensures.reads
    c.in-None.ensures (λ x. (c.in-None.ensures, refl))))
