-- ClientCertTypeExtension: what it stands for, its format and its law.
use Rattle.std.proofs.Common.{arith}
use Rattle.std.specs.Prelude.{ℕ}
use Rattle.tls_codec.specs.OwnMessages.{Tree, Number, Join, trees, Format, bounded_list_format, Variants, no_variant, variant, chosen_format, EachMeetsLaws, MeetsVariantLaws, bounded_list_meets, no_variant_meets, variant_meets, chosen_meets}
use Rattle.tls_codec.specs.Contents.{elements_of}
use Rattle.tls_codec_cases.specs.Sums.{either_variants, either_variants_meet}
use Rattle.messages_of_each_shape.specs.CertificateType.{certificate_type_plain, certificate_type_format, certificate_type_meets}
use Rattle.messages_of_each_shape.specs.ClientOrServerExtension.{client_or_server_extension_selected}
use Rattle.messages_of_each_shape.specs.declared.client_cert_type_extension.ClientCertTypeExtension.{ClientCertTypeExtension}
use Rattle.messages_of_each_shape.specs.declared.client_cert_type_extension.ClientCertTypeExtension.TheVariants.{Client, Server}

-- the tag of each case
abbrev pub client_cert_type_extension_tag : ClientCertTypeExtension → ℕ
client_cert_type_extension_tag (Client a0) = 0
client_cert_type_extension_tag (Server a0) = 1

abbrev pub client_cert_type_extension_plain : ClientCertTypeExtension → Tree
client_cert_type_extension_plain (Client a0) = Join (Number 0) (trees certificate_type_plain (elements_of a0))
client_cert_type_extension_plain (Server a0) = Join (Number 1) (certificate_type_plain a0)

abbrev pub client_cert_type_extension_variants : Variants
client_cert_type_extension_variants =
    either_variants (variant 0 (bounded_list_format 1 1 255 certificate_type_format) no_variant)
    (variant 1 certificate_type_format no_variant)

pub client_cert_type_extension_variants_meet : MeetsVariantLaws client_cert_type_extension_variants
client_cert_type_extension_variants_meet =
    either_variants_meet (variant_meets 0 (bounded_list_meets 1 1 255 (omega arith) certificate_type_meets) no_variant_meets)
    (variant_meets 1 certificate_type_meets no_variant_meets)

abbrev pub client_cert_type_extension_format_for : Tree → Format
client_cert_type_extension_format_for c = chosen_format (client_or_server_extension_selected c) client_cert_type_extension_variants

pub client_cert_type_extension_meets_for : EachMeetsLaws client_cert_type_extension_format_for
client_cert_type_extension_meets_for c = chosen_meets (client_or_server_extension_selected c) client_cert_type_extension_variants_meet
