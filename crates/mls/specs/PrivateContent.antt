-- PrivateContent: what it stands for, its format and its law.
use Rattle.std.specs.Prelude.{ℕ}
use Rattle.tls_codec.specs.OwnMessages.{Tree, Number, Join, number_trees, Format, bytes_format, Variants, no_variant, variant, chosen_format, EachMeetsLaws, MeetsVariantLaws, bytes_meets, no_variant_meets, variant_meets, chosen_meets}
use Rattle.tls_codec.specs.Contents.{bytes_of}
use Rattle.tls_codec_cases.specs.Sums.{either_variants, either_variants_meet}
use Rattle.mls_group.specs.Proposal.{proposal_plain, proposal_format, proposal_meets}
use Rattle.mls_group.specs.Commit.{commit_plain, commit_format, commit_meets}
use Rattle.mls.specs.ContentType.{content_type_selected}
use Rattle.mls.specs.declared.private_content.PrivateContent.{PrivateContent}
use Rattle.mls.specs.declared.private_content.PrivateContent.TheVariants.{Application, Proposal, Commit}

-- the tag of each case
abbrev pub private_content_tag : PrivateContent → ℕ
private_content_tag (Application a0) = 1
private_content_tag (Proposal a0) = 2
private_content_tag (Commit a0) = 3

abbrev pub private_content_plain : PrivateContent → Tree
private_content_plain (Application a0) = Join (Number 1) (number_trees (bytes_of a0))
private_content_plain (Proposal a0) = Join (Number 2) (proposal_plain a0)
private_content_plain (Commit a0) = Join (Number 3) (commit_plain a0)

abbrev pub private_content_variants : Variants
private_content_variants =
    either_variants (either_variants (variant 1 bytes_format no_variant) (variant 2 proposal_format no_variant))
    (variant 3 commit_format no_variant)

pub private_content_variants_meet : MeetsVariantLaws private_content_variants
private_content_variants_meet =
    either_variants_meet (either_variants_meet (variant_meets 1 bytes_meets no_variant_meets)
    (variant_meets 2 proposal_meets no_variant_meets)) (variant_meets 3 commit_meets no_variant_meets)

abbrev pub private_content_format_for : Tree → Format
private_content_format_for c = chosen_format (content_type_selected c) private_content_variants

pub private_content_meets_for : EachMeetsLaws private_content_format_for
private_content_meets_for c = chosen_meets (content_type_selected c) private_content_variants_meet
