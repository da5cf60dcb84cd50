-- MLSMessageBody: what it stands for, its format and its law.
use Rattle.std.proofs.Common.{arith}
use Rattle.std.specs.Prelude.{ℕ}
use Rattle.tls_codec.specs.OwnMessages.{Tree, Number, Empty, Join, Format, nothing_format, fields_format, Variants, no_variant, variant, tagged_format, MeetsLaws, MeetsVariantLaws, nothing_meets, fields_meets, no_variant_meets, variant_meets, tagged_meets}
use Rattle.mls.specs.PublicMessage.{public_message_plain, public_message_format, public_message_meets}
use Rattle.mls.specs.PrivateMessage.{private_message_plain, private_message_format, private_message_meets}
use Rattle.mls_group.specs.Welcome.{welcome_plain, welcome_format, welcome_meets}
use Rattle.mls_group.specs.GroupInfo.{group_info_plain, group_info_format, group_info_meets}
use Rattle.mls_tree.specs.KeyPackage.{key_package_plain, key_package_format, key_package_meets}
use Rattle.mls.specs.declared.mls_message_body.MLSMessageBody.{MLSMessageBody}
use Rattle.mls.specs.declared.mls_message_body.MLSMessageBody.TheVariants.{MlsPublicMessage, MlsPrivateMessage, MlsWelcome, MlsGroupInfo, MlsKeyPackage}

-- the tag of each case
abbrev pub mls_message_body_tag : MLSMessageBody → ℕ
mls_message_body_tag (MlsPublicMessage a0) = 1
mls_message_body_tag (MlsPrivateMessage a0) = 2
mls_message_body_tag (MlsWelcome a0) = 3
mls_message_body_tag (MlsGroupInfo a0) = 4
mls_message_body_tag (MlsKeyPackage a0) = 5

abbrev pub mls_message_body_plain : MLSMessageBody → Tree
mls_message_body_plain (MlsPublicMessage a0) = Join (Number 1) (Join (public_message_plain a0) Empty)
mls_message_body_plain (MlsPrivateMessage a0) = Join (Number 2) (Join (private_message_plain a0) Empty)
mls_message_body_plain (MlsWelcome a0) = Join (Number 3) (Join (welcome_plain a0) Empty)
mls_message_body_plain (MlsGroupInfo a0) = Join (Number 4) (Join (group_info_plain a0) Empty)
mls_message_body_plain (MlsKeyPackage a0) = Join (Number 5) (Join (key_package_plain a0) Empty)

abbrev pub mls_message_body_variants : Variants
mls_message_body_variants =
    variant 1 (fields_format public_message_format nothing_format)
    (variant 2 (fields_format private_message_format nothing_format)
    (variant 3 (fields_format welcome_format nothing_format)
    (variant 4 (fields_format group_info_format nothing_format)
    (variant 5 (fields_format key_package_format nothing_format)
    no_variant))))

pub mls_message_body_variants_meet : MeetsVariantLaws mls_message_body_variants
mls_message_body_variants_meet =
    variant_meets 1 (fields_meets public_message_meets nothing_meets)
    (variant_meets 2 (fields_meets private_message_meets nothing_meets)
    (variant_meets 3 (fields_meets welcome_meets nothing_meets)
    (variant_meets 4 (fields_meets group_info_meets nothing_meets)
    (variant_meets 5 (fields_meets key_package_meets nothing_meets)
    no_variant_meets))))

abbrev pub mls_message_body_format : Format
mls_message_body_format = tagged_format 2 mls_message_body_variants

pub mls_message_body_meets : MeetsLaws mls_message_body_format
mls_message_body_meets = tagged_meets 2 (omega arith) mls_message_body_variants_meet
