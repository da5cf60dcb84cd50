-- Credential: what it stands for, its format and its law.
use Rattle.std.proofs.Common.{arith}
use Rattle.std.specs.Prelude.{ℕ}
use Rattle.tls_codec.specs.OwnMessages.{Tree, Number, Empty, Join, trees, number_trees, Format, nothing_format, fields_format, list_format, bytes_format, Variants, no_variant, variant, tagged_format, MeetsLaws, MeetsVariantLaws, nothing_meets, fields_meets, list_meets, bytes_meets, no_variant_meets, variant_meets, tagged_meets}
use Rattle.tls_codec.specs.Contents.{bytes_of}
use Rattle.mls_tree.specs.Certificate.{certificate_plain, certificate_format, certificate_meets}
use Rattle.mls_tree.specs.declared.credential.Credential.{Credential}
use Rattle.mls_tree.specs.declared.credential.Credential.TheVariants.{Basic, X509}

-- the tag of each case
abbrev pub credential_tag : Credential → ℕ
credential_tag (Basic a0) = 1
credential_tag (X509 a0) = 2

abbrev pub credential_plain : Credential → Tree
credential_plain (Basic a0) = Join (Number 1) (Join (number_trees (bytes_of a0)) Empty)
credential_plain (X509 a0) = Join (Number 2) (Join (trees certificate_plain a0.items) Empty)

abbrev pub credential_variants : Variants
credential_variants =
    variant 1 (fields_format bytes_format nothing_format)
    (variant 2 (fields_format (list_format certificate_format) nothing_format)
    no_variant)

pub credential_variants_meet : MeetsVariantLaws credential_variants
credential_variants_meet =
    variant_meets 1 (fields_meets bytes_meets nothing_meets)
    (variant_meets 2 (fields_meets (list_meets certificate_meets) nothing_meets)
    no_variant_meets)

abbrev pub credential_format : Format
credential_format = tagged_format 2 credential_variants

pub credential_meets : MeetsLaws credential_format
credential_meets = tagged_meets 2 (omega arith) credential_variants_meet
