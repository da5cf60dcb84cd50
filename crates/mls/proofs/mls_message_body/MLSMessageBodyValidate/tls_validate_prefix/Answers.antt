use Rattle.std.proofs.Common.{rules, refl}
use Rattle.tls_codec.specs.OwnMessages.{u16_meets}
use Rattle.tls_codec.proofs.OwnMessages.{part_begins}
use Rattle.tls_codec_validate.proofs.Tagging.{part_rejects, parts_leave, parts_placed, parts_rejected, tag_placed, tag_rejected, unknown_placed, unknown_rejected}
use Rattle.mls.specs.MLSMessageBody.{mls_message_body_variants_meet}
use Rattle.mls.proofs.mls_message_body.MLSMessageBodyValidate.tls_validate_prefix.Goals as goal

pub returns-in_err-tag-clause-validates : goal.returns-in_err-tag-clause-validates
returns-in_err-tag-clause-validates c = tag_rejected u16_meets mls_message_body_variants_meet _ _ _ c.from_residual.ensures.1
    c.in_err-tag.ensures.finds

pub returns-in_err-tag-clause-rejected : goal.returns-in_err-tag-clause-rejected
returns-in_err-tag-clause-rejected c = tag_placed _ _ _ _ c.from_residual.ensures.1 c.in_err-tag.ensures.rejected

pub returns-in_err-behind-in-1-clause-validates : goal.returns-in_err-behind-in-1-clause-validates
returns-in_err-behind-in-1-clause-validates c = parts_rejected u16_meets mls_message_body_variants_meet _ _ _
    c.from_residual-in_err-behind-in-1.ensures.1 c.in_ok-tag.ensures.finds c.in-1.is (part_rejects c.in_err-behind-in-1.ensures.validates)

pub returns-in_err-behind-in-1-clause-rejected : goal.returns-in_err-behind-in-1-clause-rejected
returns-in_err-behind-in-1-clause-rejected c = parts_placed _ _ _ _ c.from_residual-in_err-behind-in-1.ensures.1 c.in_ok-tag.ensures.finds
    c.in-1.is c.in_err-behind-in-1.ensures.rejected

pub returns-in_ok-behind-in-1-clause-validates : goal.returns-in_ok-behind-in-1-clause-validates
returns-in_ok-behind-in-1-clause-validates c = parts_leave u16_meets mls_message_body_variants_meet c.in_ok-tag.ensures.finds c.in-1.is
    (part_begins c.in_ok-behind-in-1.ensures.validates.begins)

pub returns-in_err-behind-in-2-clause-validates : goal.returns-in_err-behind-in-2-clause-validates
returns-in_err-behind-in-2-clause-validates c = parts_rejected u16_meets mls_message_body_variants_meet _ _ _
    c.from_residual-in_err-behind-in-2.ensures.1 c.in_ok-tag.ensures.finds c.in-2.is (part_rejects c.in_err-behind-in-2.ensures.validates)

pub returns-in_err-behind-in-2-clause-rejected : goal.returns-in_err-behind-in-2-clause-rejected
returns-in_err-behind-in-2-clause-rejected c = parts_placed _ _ _ _ c.from_residual-in_err-behind-in-2.ensures.1 c.in_ok-tag.ensures.finds
    c.in-2.is c.in_err-behind-in-2.ensures.rejected

pub returns-in_ok-behind-in-2-clause-validates : goal.returns-in_ok-behind-in-2-clause-validates
returns-in_ok-behind-in-2-clause-validates c = parts_leave u16_meets mls_message_body_variants_meet c.in_ok-tag.ensures.finds c.in-2.is
    (part_begins c.in_ok-behind-in-2.ensures.validates.begins)

pub returns-in_err-behind-in-3-clause-validates : goal.returns-in_err-behind-in-3-clause-validates
returns-in_err-behind-in-3-clause-validates c = parts_rejected u16_meets mls_message_body_variants_meet _ _ _
    c.from_residual-in_err-behind-in-3.ensures.1 c.in_ok-tag.ensures.finds c.in-3.is (part_rejects c.in_err-behind-in-3.ensures.validates)

pub returns-in_err-behind-in-3-clause-rejected : goal.returns-in_err-behind-in-3-clause-rejected
returns-in_err-behind-in-3-clause-rejected c = parts_placed _ _ _ _ c.from_residual-in_err-behind-in-3.ensures.1 c.in_ok-tag.ensures.finds
    c.in-3.is c.in_err-behind-in-3.ensures.rejected

pub returns-in_ok-behind-in-3-clause-validates : goal.returns-in_ok-behind-in-3-clause-validates
returns-in_ok-behind-in-3-clause-validates c = parts_leave u16_meets mls_message_body_variants_meet c.in_ok-tag.ensures.finds c.in-3.is
    (part_begins c.in_ok-behind-in-3.ensures.validates.begins)

pub returns-in_err-behind-in-4-clause-validates : goal.returns-in_err-behind-in-4-clause-validates
returns-in_err-behind-in-4-clause-validates c = parts_rejected u16_meets mls_message_body_variants_meet _ _ _
    c.from_residual-in_err-behind-in-4.ensures.1 c.in_ok-tag.ensures.finds c.in-4.is (part_rejects c.in_err-behind-in-4.ensures.validates)

pub returns-in_err-behind-in-4-clause-rejected : goal.returns-in_err-behind-in-4-clause-rejected
returns-in_err-behind-in-4-clause-rejected c = parts_placed _ _ _ _ c.from_residual-in_err-behind-in-4.ensures.1 c.in_ok-tag.ensures.finds
    c.in-4.is c.in_err-behind-in-4.ensures.rejected

pub returns-in_ok-behind-in-4-clause-validates : goal.returns-in_ok-behind-in-4-clause-validates
returns-in_ok-behind-in-4-clause-validates c = parts_leave u16_meets mls_message_body_variants_meet c.in_ok-tag.ensures.finds c.in-4.is
    (part_begins c.in_ok-behind-in-4.ensures.validates.begins)

pub returns-in_err-behind-in-5-clause-validates : goal.returns-in_err-behind-in-5-clause-validates
returns-in_err-behind-in-5-clause-validates c = parts_rejected u16_meets mls_message_body_variants_meet _ _ _
    c.from_residual-in_err-behind-in-5.ensures.1 c.in_ok-tag.ensures.finds c.in-5.is (part_rejects c.in_err-behind-in-5.ensures.validates)

pub returns-in_err-behind-in-5-clause-rejected : goal.returns-in_err-behind-in-5-clause-rejected
returns-in_err-behind-in-5-clause-rejected c = parts_placed _ _ _ _ c.from_residual-in_err-behind-in-5.ensures.1 c.in_ok-tag.ensures.finds
    c.in-5.is c.in_err-behind-in-5.ensures.rejected

pub returns-in_ok-behind-in-5-clause-validates : goal.returns-in_ok-behind-in-5-clause-validates
returns-in_ok-behind-in-5-clause-validates c = parts_leave u16_meets mls_message_body_variants_meet c.in_ok-tag.ensures.finds c.in-5.is
    (part_begins c.in_ok-behind-in-5.ensures.validates.begins)

pub returns-in_default-clause-validates : goal.returns-in_default-clause-validates
returns-in_default-clause-validates c = let is = c.unknown_value.ensures in rw is
    (unknown_rejected u16_meets mls_message_body_variants_meet c.in_ok-tag.ensures.finds (search rules))

pub returns-in_default-clause-rejected : goal.returns-in_default-clause-rejected
returns-in_default-clause-rejected c = let is = c.unknown_value.ensures in rw is
    (unknown_placed _ _ _ c.in_ok-tag.ensures.finds refl (search rules) (search rules))
