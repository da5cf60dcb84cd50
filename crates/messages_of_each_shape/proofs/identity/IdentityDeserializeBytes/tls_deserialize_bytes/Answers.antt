use Rattle.std.proofs.Common.{rules}
use Rattle.tls_codec.specs.OwnMessages.{u16_meets}
use Rattle.tls_codec.proofs.OwnMessages.{tagged_begins, tagged_named, tagged_refuses_unknown, tagged_splits}
use Rattle.messages_of_each_shape.specs.Identity.{identity_variants_meet}
use Rattle.messages_of_each_shape.proofs.identity.IdentityDeserializeBytes.tls_deserialize_bytes.Goals as goal

pub returns-in_err-name_type-in-4-clause-splits : goal.returns-in_err-name_type-in-4-clause-splits
returns-in_err-name_type-in-4-clause-splits c = tagged_splits u16_meets identity_variants_meet _ _ _
    c.from_residual-in_err-name_type-in-4.ensures.1 c.in_ok-tag.ensures.splits c.in-4.is c.in_err-name_type-in-4.ensures.splits

pub returns-in_err-name_type-in-4-clause-named : goal.returns-in_err-name_type-in-4-clause-named
returns-in_err-name_type-in-4-clause-named c = tagged_named _ _ c.from_residual-in_err-name_type-in-4.ensures.1 c.in_ok-tag.ensures.splits
    c.in-4.is c.in_err-name_type-in-4.ensures.named

pub returns-in_ok-name_type-in-4-clause-splits : goal.returns-in_ok-name_type-in-4-clause-splits
returns-in_ok-name_type-in-4-clause-splits c = tagged_begins u16_meets identity_variants_meet c.in_ok-tag.ensures.splits c.in-4.is
    c.in_ok-name_type-in-4.ensures.splits

pub returns-in_default-clause-splits : goal.returns-in_default-clause-splits
returns-in_default-clause-splits c = let is = c.unknown_value.ensures in rw is
    (tagged_refuses_unknown u16_meets identity_variants_meet c.in_ok-tag.ensures.splits (search rules))
