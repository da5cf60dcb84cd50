use Rattle.std.proofs.Common.{rules}
use Rattle.tls_codec.specs.OwnMessages.{u16_meets}
use Rattle.tls_codec.proofs.OwnMessages.{part_begins, part_refuses, tagged_begins, tagged_named, tagged_refuses_unknown, tagged_splits}
use Rattle.mls.specs.MLSMessageBody.{mls_message_body_variants_meet}
use Rattle.mls.proofs.mls_message_body.MLSMessageBodyDeserializeBytes.tls_deserialize_bytes.Goals as goal

pub returns-in_err-public_message-in-1-clause-splits : goal.returns-in_err-public_message-in-1-clause-splits
returns-in_err-public_message-in-1-clause-splits c = tagged_splits u16_meets mls_message_body_variants_meet _ _ _
    c.from_residual-in_err-public_message-in-1.ensures.1 c.in_ok-tag.ensures.splits c.in-1.is
    (part_refuses c.in_err-public_message-in-1.ensures.splits)

pub returns-in_err-public_message-in-1-clause-named : goal.returns-in_err-public_message-in-1-clause-named
returns-in_err-public_message-in-1-clause-named c = tagged_named _ _ c.from_residual-in_err-public_message-in-1.ensures.1
    c.in_ok-tag.ensures.splits c.in-1.is c.in_err-public_message-in-1.ensures.named

pub returns-in_ok-public_message-in-1-clause-splits : goal.returns-in_ok-public_message-in-1-clause-splits
returns-in_ok-public_message-in-1-clause-splits c = tagged_begins u16_meets mls_message_body_variants_meet c.in_ok-tag.ensures.splits
    c.in-1.is (part_begins c.in_ok-public_message-in-1.ensures.splits)

pub returns-in_err-private_message-in-2-clause-splits : goal.returns-in_err-private_message-in-2-clause-splits
returns-in_err-private_message-in-2-clause-splits c = tagged_splits u16_meets mls_message_body_variants_meet _ _ _
    c.from_residual-in_err-private_message-in-2.ensures.1 c.in_ok-tag.ensures.splits c.in-2.is
    (part_refuses c.in_err-private_message-in-2.ensures.splits)

pub returns-in_err-private_message-in-2-clause-named : goal.returns-in_err-private_message-in-2-clause-named
returns-in_err-private_message-in-2-clause-named c = tagged_named _ _ c.from_residual-in_err-private_message-in-2.ensures.1
    c.in_ok-tag.ensures.splits c.in-2.is c.in_err-private_message-in-2.ensures.named

pub returns-in_ok-private_message-in-2-clause-splits : goal.returns-in_ok-private_message-in-2-clause-splits
returns-in_ok-private_message-in-2-clause-splits c = tagged_begins u16_meets mls_message_body_variants_meet c.in_ok-tag.ensures.splits
    c.in-2.is (part_begins c.in_ok-private_message-in-2.ensures.splits)

pub returns-in_err-welcome-in-3-clause-splits : goal.returns-in_err-welcome-in-3-clause-splits
returns-in_err-welcome-in-3-clause-splits c = tagged_splits u16_meets mls_message_body_variants_meet _ _ _
    c.from_residual-in_err-welcome-in-3.ensures.1 c.in_ok-tag.ensures.splits c.in-3.is (part_refuses c.in_err-welcome-in-3.ensures.splits)

pub returns-in_err-welcome-in-3-clause-named : goal.returns-in_err-welcome-in-3-clause-named
returns-in_err-welcome-in-3-clause-named c = tagged_named _ _ c.from_residual-in_err-welcome-in-3.ensures.1 c.in_ok-tag.ensures.splits
    c.in-3.is c.in_err-welcome-in-3.ensures.named

pub returns-in_ok-welcome-in-3-clause-splits : goal.returns-in_ok-welcome-in-3-clause-splits
returns-in_ok-welcome-in-3-clause-splits c = tagged_begins u16_meets mls_message_body_variants_meet c.in_ok-tag.ensures.splits c.in-3.is
    (part_begins c.in_ok-welcome-in-3.ensures.splits)

pub returns-in_err-group_info-in-4-clause-splits : goal.returns-in_err-group_info-in-4-clause-splits
returns-in_err-group_info-in-4-clause-splits c = tagged_splits u16_meets mls_message_body_variants_meet _ _ _
    c.from_residual-in_err-group_info-in-4.ensures.1 c.in_ok-tag.ensures.splits c.in-4.is
    (part_refuses c.in_err-group_info-in-4.ensures.splits)

pub returns-in_err-group_info-in-4-clause-named : goal.returns-in_err-group_info-in-4-clause-named
returns-in_err-group_info-in-4-clause-named c = tagged_named _ _ c.from_residual-in_err-group_info-in-4.ensures.1 c.in_ok-tag.ensures.splits
    c.in-4.is c.in_err-group_info-in-4.ensures.named

pub returns-in_ok-group_info-in-4-clause-splits : goal.returns-in_ok-group_info-in-4-clause-splits
returns-in_ok-group_info-in-4-clause-splits c = tagged_begins u16_meets mls_message_body_variants_meet c.in_ok-tag.ensures.splits c.in-4.is
    (part_begins c.in_ok-group_info-in-4.ensures.splits)

pub returns-in_err-key_package-in-5-clause-splits : goal.returns-in_err-key_package-in-5-clause-splits
returns-in_err-key_package-in-5-clause-splits c = tagged_splits u16_meets mls_message_body_variants_meet _ _ _
    c.from_residual-in_err-key_package-in-5.ensures.1 c.in_ok-tag.ensures.splits c.in-5.is
    (part_refuses c.in_err-key_package-in-5.ensures.splits)

pub returns-in_err-key_package-in-5-clause-named : goal.returns-in_err-key_package-in-5-clause-named
returns-in_err-key_package-in-5-clause-named c = tagged_named _ _ c.from_residual-in_err-key_package-in-5.ensures.1
    c.in_ok-tag.ensures.splits c.in-5.is c.in_err-key_package-in-5.ensures.named

pub returns-in_ok-key_package-in-5-clause-splits : goal.returns-in_ok-key_package-in-5-clause-splits
returns-in_ok-key_package-in-5-clause-splits c = tagged_begins u16_meets mls_message_body_variants_meet c.in_ok-tag.ensures.splits c.in-5.is
    (part_begins c.in_ok-key_package-in-5.ensures.splits)

pub returns-in_default-clause-splits : goal.returns-in_default-clause-splits
returns-in_default-clause-splits c = let is = c.unknown_value.ensures in rw is
    (tagged_refuses_unknown u16_meets mls_message_body_variants_meet c.in_ok-tag.ensures.splits (search rules))
