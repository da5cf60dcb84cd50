use Rattle.std.proofs.Common.{rules, refl}
use Rattle.tls_codec.specs.OwnMessages.{u16_meets}
use Rattle.tls_codec_validate.proofs.Tagging.{nothing_begins, parts_leave, parts_placed, parts_rejected, tag_placed, tag_rejected, unknown_placed, unknown_rejected}
use Rattle.messages_of_each_shape.specs.Identity.{identity_variants_meet}
use Rattle.messages_of_each_shape.proofs.identity.IdentityValidate.tls_validate_prefix.Goals as goal

pub returns-in_err-tag-clause-validates : goal.returns-in_err-tag-clause-validates
returns-in_err-tag-clause-validates c = tag_rejected u16_meets identity_variants_meet _ _ _ c.from_residual.ensures.1
    c.in_err-tag.ensures.finds

pub returns-in_err-tag-clause-rejected : goal.returns-in_err-tag-clause-rejected
returns-in_err-tag-clause-rejected c = tag_placed _ _ _ _ c.from_residual.ensures.1 c.in_err-tag.ensures.rejected

pub returns-in_err-behind-in-4-clause-validates : goal.returns-in_err-behind-in-4-clause-validates
returns-in_err-behind-in-4-clause-validates c = parts_rejected u16_meets identity_variants_meet _ _ _
    c.from_residual-in_err-behind-in-4.ensures.1 c.in_ok-tag.ensures.finds c.in-4.is c.in_err-behind-in-4.ensures.validates

pub returns-in_err-behind-in-4-clause-rejected : goal.returns-in_err-behind-in-4-clause-rejected
returns-in_err-behind-in-4-clause-rejected c = parts_placed _ _ _ _ c.from_residual-in_err-behind-in-4.ensures.1 c.in_ok-tag.ensures.finds
    c.in-4.is c.in_err-behind-in-4.ensures.rejected

pub returns-in_ok-behind-in-4-clause-validates : goal.returns-in_ok-behind-in-4-clause-validates
returns-in_ok-behind-in-4-clause-validates c = parts_leave u16_meets identity_variants_meet c.in_ok-tag.ensures.finds c.in-4.is
    c.in_ok-behind-in-4.ensures.validates.begins

pub returns-in-5-clause-validates : goal.returns-in-5-clause-validates
returns-in-5-clause-validates c = parts_leave u16_meets identity_variants_meet c.in_ok-tag.ensures.finds c.in-5.is (nothing_begins _)

pub returns-in_default-clause-validates : goal.returns-in_default-clause-validates
returns-in_default-clause-validates c = let is = c.unknown_value.ensures in rw is
    (unknown_rejected u16_meets identity_variants_meet c.in_ok-tag.ensures.finds (search rules))

pub returns-in_default-clause-rejected : goal.returns-in_default-clause-rejected
returns-in_default-clause-rejected c = let is = c.unknown_value.ensures in rw is
    (unknown_placed _ _ _ c.in_ok-tag.ensures.finds refl (search rules) (search rules))
