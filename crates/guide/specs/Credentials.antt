-- What an enum stands for, a tag and its case's parts, and its format.
use Rattle.std.proofs.Common.{arith}
use Rattle.tls_codec.specs.OwnMessages.{Tree, Number, Join, number_trees, trees, Format, bytes_format, list_format, Variants, no_variant, variant, tagged_format, MeetsLaws, bytes_meets, list_meets, no_variant_meets, variant_meets, tagged_meets}
use Rattle.tls_codec.specs.Contents.{bytes_of}
use Rattle.tls_codec_cases.specs.Sums.{either_variants, either_variants_meet}
use Rattle.guide.specs.declared.credential.Credential.{Credential}
use Rattle.guide.specs.declared.credential.Credential.TheVariants.{Basic, X509}

abbrev pub credential_plain : Credential → Tree
credential_plain (Basic identity) = Join (Number 1) (number_trees (bytes_of identity))
credential_plain (X509 certificates) = Join (Number 2) (trees (λ bytes. number_trees (bytes_of bytes)) certificates.items)

abbrev pub credential_variants : Variants
credential_variants =
    either_variants (variant 1 bytes_format no_variant) (variant 2 (list_format bytes_format) no_variant)

abbrev pub credential_format : Format
credential_format = tagged_format 2 credential_variants

pub credential_meets : MeetsLaws credential_format
credential_meets =
    tagged_meets 2 (omega arith) (either_variants_meet (variant_meets 1 bytes_meets no_variant_meets)
    (variant_meets 2 (list_meets bytes_meets) no_variant_meets))
