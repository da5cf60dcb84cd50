-- Sender: what it stands for, its format and its law.
use Rattle.std.proofs.Common.{arith}
use Rattle.std.specs.Prelude.{ℕ}
use Rattle.tls_codec.specs.OwnMessages.{Tree, Number, Empty, Join, Format, number_format, nothing_format, fields_format, Variants, no_variant, variant, tagged_format, MeetsLaws, MeetsVariantLaws, u32_meets, nothing_meets, fields_meets, no_variant_meets, variant_meets, tagged_meets}
use Rattle.mls.specs.declared.sender.Sender.{Sender}
use Rattle.mls.specs.declared.sender.Sender.TheVariants.{Member, External, NewMemberCommit, NewMemberProposal}

-- the tag of each case
abbrev pub sender_tag : Sender → ℕ
sender_tag (Member a0) = 1
sender_tag (External a0) = 2
sender_tag NewMemberCommit = 4
sender_tag NewMemberProposal = 3

abbrev pub sender_plain : Sender → Tree
sender_plain (Member a0) = Join (Number 1) (Join (Number a0) Empty)
sender_plain (External a0) = Join (Number 2) (Join (Number a0) Empty)
sender_plain NewMemberCommit = Join (Number 4) Empty
sender_plain NewMemberProposal = Join (Number 3) Empty

abbrev pub sender_variants : Variants
sender_variants =
    variant 1 (fields_format (number_format 4) nothing_format)
    (variant 2 (fields_format (number_format 4) nothing_format)
    (variant 4 nothing_format
    (variant 3 nothing_format
    no_variant)))

pub sender_variants_meet : MeetsVariantLaws sender_variants
sender_variants_meet =
    variant_meets 1 (fields_meets u32_meets nothing_meets)
    (variant_meets 2 (fields_meets u32_meets nothing_meets)
    (variant_meets 4 nothing_meets
    (variant_meets 3 nothing_meets
    no_variant_meets)))

abbrev pub sender_format : Format
sender_format = tagged_format 1 sender_variants

pub sender_meets : MeetsLaws sender_format
sender_meets = tagged_meets 1 (omega arith) sender_variants_meet

-- the SenderType of a value, from what the value stands for
abbrev pub sender_sender_type : Tree → Tree
sender_sender_type (Join number _) = Join number Empty
sender_sender_type _ = Empty
