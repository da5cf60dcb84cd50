-- ProposalOrRef: what it stands for, its format and its law.
use Rattle.std.proofs.Common.{arith}
use Rattle.std.specs.Prelude.{ℕ}
use Rattle.tls_codec.specs.OwnMessages.{Tree, Number, Empty, Join, number_trees, Format, nothing_format, fields_format, bytes_format, Variants, no_variant, variant, tagged_format, MeetsLaws, MeetsVariantLaws, nothing_meets, fields_meets, bytes_meets, no_variant_meets, variant_meets, tagged_meets}
use Rattle.tls_codec.specs.Contents.{bytes_of}
use Rattle.mls_group.specs.Proposal.{proposal_plain, proposal_format, proposal_meets}
use Rattle.mls_group.specs.declared.proposal_or_ref.ProposalOrRef.{ProposalOrRef}
use Rattle.mls_group.specs.declared.proposal_or_ref.ProposalOrRef.TheVariants.{Proposal, Reference}

-- the tag of each case
abbrev pub proposal_or_ref_tag : ProposalOrRef → ℕ
proposal_or_ref_tag (Proposal a0) = 1
proposal_or_ref_tag (Reference a0) = 2

abbrev pub proposal_or_ref_plain : ProposalOrRef → Tree
proposal_or_ref_plain (Proposal a0) = Join (Number 1) (Join (proposal_plain a0) Empty)
proposal_or_ref_plain (Reference a0) = Join (Number 2) (Join (number_trees (bytes_of a0)) Empty)

abbrev pub proposal_or_ref_variants : Variants
proposal_or_ref_variants =
    variant 1 (fields_format proposal_format nothing_format)
    (variant 2 (fields_format bytes_format nothing_format)
    no_variant)

pub proposal_or_ref_variants_meet : MeetsVariantLaws proposal_or_ref_variants
proposal_or_ref_variants_meet =
    variant_meets 1 (fields_meets proposal_meets nothing_meets)
    (variant_meets 2 (fields_meets bytes_meets nothing_meets)
    no_variant_meets)

abbrev pub proposal_or_ref_format : Format
proposal_or_ref_format = tagged_format 1 proposal_or_ref_variants

pub proposal_or_ref_meets : MeetsLaws proposal_or_ref_format
proposal_or_ref_meets = tagged_meets 1 (omega arith) proposal_or_ref_variants_meet
