use Rattle.std.proofs.Common.{rules}
use Rattle.tls_codec.specs.OwnMessages.{u16_meets}
use Rattle.tls_codec.proofs.OwnMessages.{part_given, part_leaves, part_named, tag_named_source, tag_reads, tagged_given, tagged_leaves_unknown, tagged_named_source, tagged_reads, unknown_named_source}
use Rattle.mls.specs.MLSMessageBody.{mls_message_body_variants_meet}
use Rattle.mls.proofs.mls_message_body.MLSMessageBodyDeserialize.tls_deserialize.Goals as goal

pub returns-in_err-tag-clause-reads : goal.returns-in_err-tag-clause-reads
returns-in_err-tag-clause-reads g c = tag_reads u16_meets mls_message_body_variants_meet _ _ _ _ _ c.from_residual.ensures.1
    c.in_err-tag.ensures.reads

pub returns-in_err-tag-clause-named : goal.returns-in_err-tag-clause-named
returns-in_err-tag-clause-named g c = tag_named_source u16_meets mls_message_body_variants_meet _ _ _ _ _ c.from_residual.ensures.1
    c.in_err-tag.ensures.named

pub returns-in_err-public_message-in-1-clause-reads : goal.returns-in_err-public_message-in-1-clause-reads
returns-in_err-public_message-in-1-clause-reads g c =
    let source = g.met.R.Source in
    tagged_reads u16_meets mls_message_body_variants_meet _ _ _ _ _ source.gives_in_order source.no_count_falls
    c.from_residual-in_err-public_message-in-1.ensures.1 c.in_ok-tag.ensures.reads c.in-1.is
    (part_leaves c.in_err-public_message-in-1.ensures.reads)

pub returns-in_err-public_message-in-1-clause-named : goal.returns-in_err-public_message-in-1-clause-named
returns-in_err-public_message-in-1-clause-named g c =
    let source = g.met.R.Source in
    tagged_named_source u16_meets mls_message_body_variants_meet _ _ _ _ _ source.gives_in_order source.no_count_falls
    c.from_residual-in_err-public_message-in-1.ensures.1 c.in_ok-tag.ensures.reads c.in-1.is
    (part_named _ c.in_err-public_message-in-1.ensures.named)

pub returns-in_ok-public_message-in-1-clause-reads : goal.returns-in_ok-public_message-in-1-clause-reads
returns-in_ok-public_message-in-1-clause-reads g c =
    let source = g.met.R.Source in
    tagged_given u16_meets mls_message_body_variants_meet source.gives_in_order c.in_ok-tag.ensures.reads c.in-1.is
    (part_given source.gives_in_order source.gives_nothing c.in_ok-public_message-in-1.ensures.reads)

pub returns-in_err-private_message-in-2-clause-reads : goal.returns-in_err-private_message-in-2-clause-reads
returns-in_err-private_message-in-2-clause-reads g c =
    let source = g.met.R.Source in
    tagged_reads u16_meets mls_message_body_variants_meet _ _ _ _ _ source.gives_in_order source.no_count_falls
    c.from_residual-in_err-private_message-in-2.ensures.1 c.in_ok-tag.ensures.reads c.in-2.is
    (part_leaves c.in_err-private_message-in-2.ensures.reads)

pub returns-in_err-private_message-in-2-clause-named : goal.returns-in_err-private_message-in-2-clause-named
returns-in_err-private_message-in-2-clause-named g c =
    let source = g.met.R.Source in
    tagged_named_source u16_meets mls_message_body_variants_meet _ _ _ _ _ source.gives_in_order source.no_count_falls
    c.from_residual-in_err-private_message-in-2.ensures.1 c.in_ok-tag.ensures.reads c.in-2.is
    (part_named _ c.in_err-private_message-in-2.ensures.named)

pub returns-in_ok-private_message-in-2-clause-reads : goal.returns-in_ok-private_message-in-2-clause-reads
returns-in_ok-private_message-in-2-clause-reads g c =
    let source = g.met.R.Source in
    tagged_given u16_meets mls_message_body_variants_meet source.gives_in_order c.in_ok-tag.ensures.reads c.in-2.is
    (part_given source.gives_in_order source.gives_nothing c.in_ok-private_message-in-2.ensures.reads)

pub returns-in_err-welcome-in-3-clause-reads : goal.returns-in_err-welcome-in-3-clause-reads
returns-in_err-welcome-in-3-clause-reads g c =
    let source = g.met.R.Source in
    tagged_reads u16_meets mls_message_body_variants_meet _ _ _ _ _ source.gives_in_order source.no_count_falls
    c.from_residual-in_err-welcome-in-3.ensures.1 c.in_ok-tag.ensures.reads c.in-3.is (part_leaves c.in_err-welcome-in-3.ensures.reads)

pub returns-in_err-welcome-in-3-clause-named : goal.returns-in_err-welcome-in-3-clause-named
returns-in_err-welcome-in-3-clause-named g c =
    let source = g.met.R.Source in
    tagged_named_source u16_meets mls_message_body_variants_meet _ _ _ _ _ source.gives_in_order source.no_count_falls
    c.from_residual-in_err-welcome-in-3.ensures.1 c.in_ok-tag.ensures.reads c.in-3.is (part_named _ c.in_err-welcome-in-3.ensures.named)

pub returns-in_ok-welcome-in-3-clause-reads : goal.returns-in_ok-welcome-in-3-clause-reads
returns-in_ok-welcome-in-3-clause-reads g c =
    let source = g.met.R.Source in
    tagged_given u16_meets mls_message_body_variants_meet source.gives_in_order c.in_ok-tag.ensures.reads c.in-3.is
    (part_given source.gives_in_order source.gives_nothing c.in_ok-welcome-in-3.ensures.reads)

pub returns-in_err-group_info-in-4-clause-reads : goal.returns-in_err-group_info-in-4-clause-reads
returns-in_err-group_info-in-4-clause-reads g c =
    let source = g.met.R.Source in
    tagged_reads u16_meets mls_message_body_variants_meet _ _ _ _ _ source.gives_in_order source.no_count_falls
    c.from_residual-in_err-group_info-in-4.ensures.1 c.in_ok-tag.ensures.reads c.in-4.is
    (part_leaves c.in_err-group_info-in-4.ensures.reads)

pub returns-in_err-group_info-in-4-clause-named : goal.returns-in_err-group_info-in-4-clause-named
returns-in_err-group_info-in-4-clause-named g c =
    let source = g.met.R.Source in
    tagged_named_source u16_meets mls_message_body_variants_meet _ _ _ _ _ source.gives_in_order source.no_count_falls
    c.from_residual-in_err-group_info-in-4.ensures.1 c.in_ok-tag.ensures.reads c.in-4.is
    (part_named _ c.in_err-group_info-in-4.ensures.named)

pub returns-in_ok-group_info-in-4-clause-reads : goal.returns-in_ok-group_info-in-4-clause-reads
returns-in_ok-group_info-in-4-clause-reads g c =
    let source = g.met.R.Source in
    tagged_given u16_meets mls_message_body_variants_meet source.gives_in_order c.in_ok-tag.ensures.reads c.in-4.is
    (part_given source.gives_in_order source.gives_nothing c.in_ok-group_info-in-4.ensures.reads)

pub returns-in_err-key_package-in-5-clause-reads : goal.returns-in_err-key_package-in-5-clause-reads
returns-in_err-key_package-in-5-clause-reads g c =
    let source = g.met.R.Source in
    tagged_reads u16_meets mls_message_body_variants_meet _ _ _ _ _ source.gives_in_order source.no_count_falls
    c.from_residual-in_err-key_package-in-5.ensures.1 c.in_ok-tag.ensures.reads c.in-5.is
    (part_leaves c.in_err-key_package-in-5.ensures.reads)

pub returns-in_err-key_package-in-5-clause-named : goal.returns-in_err-key_package-in-5-clause-named
returns-in_err-key_package-in-5-clause-named g c =
    let source = g.met.R.Source in
    tagged_named_source u16_meets mls_message_body_variants_meet _ _ _ _ _ source.gives_in_order source.no_count_falls
    c.from_residual-in_err-key_package-in-5.ensures.1 c.in_ok-tag.ensures.reads c.in-5.is
    (part_named _ c.in_err-key_package-in-5.ensures.named)

pub returns-in_ok-key_package-in-5-clause-reads : goal.returns-in_ok-key_package-in-5-clause-reads
returns-in_ok-key_package-in-5-clause-reads g c =
    let source = g.met.R.Source in
    tagged_given u16_meets mls_message_body_variants_meet source.gives_in_order c.in_ok-tag.ensures.reads c.in-5.is
    (part_given source.gives_in_order source.gives_nothing c.in_ok-key_package-in-5.ensures.reads)

pub returns-in_default-clause-reads : goal.returns-in_default-clause-reads
returns-in_default-clause-reads g c = let is = c.unknown_value.ensures in rw is
    (tagged_leaves_unknown u16_meets mls_message_body_variants_meet g.met.R.Source.gives_nothing c.in_ok-tag.ensures.reads (search rules))

pub returns-in_default-clause-named : goal.returns-in_default-clause-named
returns-in_default-clause-named g c =
    let source = g.met.R.Source in
    let is = c.unknown_value.ensures in rw is (rw c.from.ensures (unknown_named_source u16_meets mls_message_body_variants_meet _
    source.gives_nothing source.no_count_falls c.in_ok-tag.ensures.reads (search rules) (λ x. search rules)))
