-- FramedContentBody: what it stands for, its format and its law.
use Rattle.std.proofs.Common.{arith}
use Rattle.std.specs.Prelude.{ℕ}
use Rattle.tls_codec.specs.OwnMessages.{Tree, Number, Empty, Join, number_trees, Format, nothing_format, fields_format, bytes_format, Variants, no_variant, variant, tagged_format, MeetsLaws, MeetsVariantLaws, nothing_meets, fields_meets, bytes_meets, no_variant_meets, variant_meets, tagged_meets}
use Rattle.tls_codec.specs.Contents.{bytes_of}
use Rattle.mls_group.specs.Proposal.{proposal_plain, proposal_format, proposal_meets}
use Rattle.mls_group.specs.Commit.{commit_plain, commit_format, commit_meets}
use Rattle.mls.specs.declared.framed_content_body.FramedContentBody.{FramedContentBody}
use Rattle.mls.specs.declared.framed_content_body.FramedContentBody.TheVariants.{Application, Proposal, Commit}

-- the tag of each case
abbrev pub framed_content_body_tag : FramedContentBody → ℕ
framed_content_body_tag (Application a0) = 1
framed_content_body_tag (Proposal a0) = 2
framed_content_body_tag (Commit a0) = 3

abbrev pub framed_content_body_plain : FramedContentBody → Tree
framed_content_body_plain (Application a0) = Join (Number 1) (Join (number_trees (bytes_of a0)) Empty)
framed_content_body_plain (Proposal a0) = Join (Number 2) (Join (proposal_plain a0) Empty)
framed_content_body_plain (Commit a0) = Join (Number 3) (Join (commit_plain a0) Empty)

abbrev pub framed_content_body_variants : Variants
framed_content_body_variants =
    variant 1 (fields_format bytes_format nothing_format)
    (variant 2 (fields_format proposal_format nothing_format)
    (variant 3 (fields_format commit_format nothing_format)
    no_variant))

pub framed_content_body_variants_meet : MeetsVariantLaws framed_content_body_variants
framed_content_body_variants_meet =
    variant_meets 1 (fields_meets bytes_meets nothing_meets)
    (variant_meets 2 (fields_meets proposal_meets nothing_meets)
    (variant_meets 3 (fields_meets commit_meets nothing_meets)
    no_variant_meets))

abbrev pub framed_content_body_format : Format
framed_content_body_format = tagged_format 1 framed_content_body_variants

pub framed_content_body_meets : MeetsLaws framed_content_body_format
framed_content_body_meets = tagged_meets 1 (omega arith) framed_content_body_variants_meet

-- the ContentType of a value, from what the value stands for
abbrev pub framed_content_body_content_type : Tree → Tree
framed_content_body_content_type (Join number _) = Join number Empty
framed_content_body_content_type _ = Empty
