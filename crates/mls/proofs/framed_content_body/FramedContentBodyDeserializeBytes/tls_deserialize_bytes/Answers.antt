use Rattle.std.proofs.Common.{rules}
use Rattle.tls_codec.specs.OwnMessages.{u8_meets}
use Rattle.tls_codec.proofs.OwnMessages.{part_begins, part_refuses, tagged_begins, tagged_named, tagged_refuses_unknown, tagged_splits}
use Rattle.mls.specs.FramedContentBody.{framed_content_body_variants_meet}
use Rattle.mls.proofs.framed_content_body.FramedContentBodyDeserializeBytes.tls_deserialize_bytes.Goals as goal

pub returns-in_err-application_data-in-1-clause-splits : goal.returns-in_err-application_data-in-1-clause-splits
returns-in_err-application_data-in-1-clause-splits c = tagged_splits u8_meets framed_content_body_variants_meet _ _ _
    c.from_residual-in_err-application_data-in-1.ensures.1 c.in_ok-tag.ensures.splits c.in-1.is
    (part_refuses c.in_err-application_data-in-1.ensures.splits)

pub returns-in_err-application_data-in-1-clause-named : goal.returns-in_err-application_data-in-1-clause-named
returns-in_err-application_data-in-1-clause-named c = tagged_named _ _ c.from_residual-in_err-application_data-in-1.ensures.1
    c.in_ok-tag.ensures.splits c.in-1.is c.in_err-application_data-in-1.ensures.named

pub returns-in_ok-application_data-in-1-clause-splits : goal.returns-in_ok-application_data-in-1-clause-splits
returns-in_ok-application_data-in-1-clause-splits c = tagged_begins u8_meets framed_content_body_variants_meet c.in_ok-tag.ensures.splits
    c.in-1.is (part_begins c.in_ok-application_data-in-1.ensures.splits)

pub returns-in_err-proposal-in-2-clause-splits : goal.returns-in_err-proposal-in-2-clause-splits
returns-in_err-proposal-in-2-clause-splits c = tagged_splits u8_meets framed_content_body_variants_meet _ _ _
    c.from_residual-in_err-proposal-in-2.ensures.1 c.in_ok-tag.ensures.splits c.in-2.is (part_refuses c.in_err-proposal-in-2.ensures.splits)

pub returns-in_err-proposal-in-2-clause-named : goal.returns-in_err-proposal-in-2-clause-named
returns-in_err-proposal-in-2-clause-named c = tagged_named _ _ c.from_residual-in_err-proposal-in-2.ensures.1 c.in_ok-tag.ensures.splits
    c.in-2.is c.in_err-proposal-in-2.ensures.named

pub returns-in_ok-proposal-in-2-clause-splits : goal.returns-in_ok-proposal-in-2-clause-splits
returns-in_ok-proposal-in-2-clause-splits c = tagged_begins u8_meets framed_content_body_variants_meet c.in_ok-tag.ensures.splits c.in-2.is
    (part_begins c.in_ok-proposal-in-2.ensures.splits)

pub returns-in_err-commit-in-3-clause-splits : goal.returns-in_err-commit-in-3-clause-splits
returns-in_err-commit-in-3-clause-splits c = tagged_splits u8_meets framed_content_body_variants_meet _ _ _
    c.from_residual-in_err-commit-in-3.ensures.1 c.in_ok-tag.ensures.splits c.in-3.is (part_refuses c.in_err-commit-in-3.ensures.splits)

pub returns-in_err-commit-in-3-clause-named : goal.returns-in_err-commit-in-3-clause-named
returns-in_err-commit-in-3-clause-named c = tagged_named _ _ c.from_residual-in_err-commit-in-3.ensures.1 c.in_ok-tag.ensures.splits
    c.in-3.is c.in_err-commit-in-3.ensures.named

pub returns-in_ok-commit-in-3-clause-splits : goal.returns-in_ok-commit-in-3-clause-splits
returns-in_ok-commit-in-3-clause-splits c = tagged_begins u8_meets framed_content_body_variants_meet c.in_ok-tag.ensures.splits c.in-3.is
    (part_begins c.in_ok-commit-in-3.ensures.splits)

pub returns-in_default-clause-splits : goal.returns-in_default-clause-splits
returns-in_default-clause-splits c = let is = c.unknown_value.ensures in rw is
    (tagged_refuses_unknown u8_meets framed_content_body_variants_meet c.in_ok-tag.ensures.splits (search rules))
