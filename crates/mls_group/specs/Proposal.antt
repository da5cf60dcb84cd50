-- Proposal: what it stands for, its format and its law.
use Rattle.std.proofs.Common.{arith}
use Rattle.std.specs.Prelude.{ℕ}
use Rattle.tls_codec.specs.OwnMessages.{Tree, Number, Empty, Join, Format, nothing_format, fields_format, Variants, no_variant, variant, tagged_format, MeetsLaws, MeetsVariantLaws, nothing_meets, fields_meets, no_variant_meets, variant_meets, tagged_meets}
use Rattle.mls_group.specs.Add.{add_plain, add_format, add_meets}
use Rattle.mls_group.specs.Update.{update_plain, update_format, update_meets}
use Rattle.mls_group.specs.Remove.{remove_plain, remove_format, remove_meets}
use Rattle.mls_group.specs.PreSharedKey.{pre_shared_key_plain, pre_shared_key_format, pre_shared_key_meets}
use Rattle.mls_group.specs.ReInit.{re_init_plain, re_init_format, re_init_meets}
use Rattle.mls_group.specs.ExternalInit.{external_init_plain, external_init_format, external_init_meets}
use Rattle.mls_group.specs.GroupContextExtensions.{group_context_extensions_plain, group_context_extensions_format, group_context_extensions_meets}
use Rattle.mls_group.specs.declared.proposal.Proposal.{Proposal}
use Rattle.mls_group.specs.declared.proposal.Proposal.TheVariants.{Add, Update, Remove, Psk, Reinit, ExternalInit, GroupContextExtensions}

-- the tag of each case
abbrev pub proposal_tag : Proposal → ℕ
proposal_tag (Add a0) = 1
proposal_tag (Update a0) = 2
proposal_tag (Remove a0) = 3
proposal_tag (Psk a0) = 4
proposal_tag (Reinit a0) = 5
proposal_tag (ExternalInit a0) = 6
proposal_tag (GroupContextExtensions a0) = 7

abbrev pub proposal_plain : Proposal → Tree
proposal_plain (Add a0) = Join (Number 1) (Join (add_plain a0) Empty)
proposal_plain (Update a0) = Join (Number 2) (Join (update_plain a0) Empty)
proposal_plain (Remove a0) = Join (Number 3) (Join (remove_plain a0) Empty)
proposal_plain (Psk a0) = Join (Number 4) (Join (pre_shared_key_plain a0) Empty)
proposal_plain (Reinit a0) = Join (Number 5) (Join (re_init_plain a0) Empty)
proposal_plain (ExternalInit a0) = Join (Number 6) (Join (external_init_plain a0) Empty)
proposal_plain (GroupContextExtensions a0) = Join (Number 7) (Join (group_context_extensions_plain a0) Empty)

abbrev pub proposal_variants : Variants
proposal_variants =
    variant 1 (fields_format add_format nothing_format)
    (variant 2 (fields_format update_format nothing_format)
    (variant 3 (fields_format remove_format nothing_format)
    (variant 4 (fields_format pre_shared_key_format nothing_format)
    (variant 5 (fields_format re_init_format nothing_format)
    (variant 6 (fields_format external_init_format nothing_format)
    (variant 7 (fields_format group_context_extensions_format nothing_format)
    no_variant))))))

pub proposal_variants_meet : MeetsVariantLaws proposal_variants
proposal_variants_meet =
    variant_meets 1 (fields_meets add_meets nothing_meets)
    (variant_meets 2 (fields_meets update_meets nothing_meets)
    (variant_meets 3 (fields_meets remove_meets nothing_meets)
    (variant_meets 4 (fields_meets pre_shared_key_meets nothing_meets)
    (variant_meets 5 (fields_meets re_init_meets nothing_meets)
    (variant_meets 6 (fields_meets external_init_meets nothing_meets)
    (variant_meets 7 (fields_meets group_context_extensions_meets nothing_meets)
    no_variant_meets))))))

abbrev pub proposal_format : Format
proposal_format = tagged_format 2 proposal_variants

pub proposal_meets : MeetsLaws proposal_format
proposal_meets = tagged_meets 2 (omega arith) proposal_variants_meet
