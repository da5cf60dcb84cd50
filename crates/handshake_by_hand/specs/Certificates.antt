-- What a certificate message stands for, and which bytes spell it. The certificate type decides what its entries are.
use Rattle.std.proofs.Common.{arith}
use Rattle.tls_codec.specs.OwnMessages.{Tree, Number, Join, trees, number_trees, pair_tree, Format, pair_format, fixed_list_format, fixed_bytes_format, bounded_bytes_format, chosen_format, Variants, no_variant, variant, EachMeetsLaws, MeetsVariantLaws, pair_meets, fixed_list_meets, fixed_bytes_meets, bounded_bytes_meets, chosen_meets, no_variant_meets, variant_meets}
use Rattle.tls_codec.specs.Contents.{elements_of, fixed_bytes_of}
use Rattle.tls_codec_cases.specs.Sums.{either_variants, either_variants_meet}
use Rattle.handshake_by_hand.specs.Extensions.{extension_format, extension_meets, extension_plain}
use Rattle.handshake_by_hand.specs.CertificateTypes.{type_number}
use Rattle.handshake_by_hand.specs.declared.certificate_data.CertificateData.{CertificateData}
use Rattle.handshake_by_hand.specs.declared.certificate_data.CertificateData.TheVariants.{X509, RawPublicKey}
use Rattle.handshake_by_hand.specs.declared.certificate_entry.CertificateEntry.{CertificateEntry}
use Rattle.handshake_by_hand.specs.declared.certificate.Certificate.{Certificate}

-- ---- the select of an entry

abbrev pub certificate_data_plain : CertificateData → Tree
certificate_data_plain (X509 cert_data) = Join (Number 0) (number_trees (fixed_bytes_of cert_data))
certificate_data_plain (RawPublicKey key_info) = Join (Number 2) (number_trees (fixed_bytes_of key_info))

abbrev pub certificate_data_variants : Variants
certificate_data_variants =
    either_variants (variant 0 (bounded_bytes_format 3 1 0xffffff) no_variant)
    (variant 2 (bounded_bytes_format 3 1 0xffffff) no_variant)

pub certificate_data_variants_meet : MeetsVariantLaws certificate_data_variants
certificate_data_variants_meet =
    either_variants_meet (variant_meets 0 (bounded_bytes_meets 3 1 0xffffff (omega arith)) no_variant_meets)
    (variant_meets 2 (bounded_bytes_meets 3 1 0xffffff (omega arith)) no_variant_meets)

abbrev pub certificate_data_format_for : Tree → Format
certificate_data_format_for c = chosen_format (type_number c) certificate_data_variants

pub certificate_data_meets_for : EachMeetsLaws certificate_data_format_for
certificate_data_meets_for c = chosen_meets (type_number c) certificate_data_variants_meet

-- ---- an entry

abbrev pub certificate_entry_plain : CertificateEntry → Tree
certificate_entry_plain v = pair_tree (certificate_data_plain v.certificate) (trees extension_plain (elements_of v.extensions))

abbrev pub certificate_entry_format_for : Tree → Format
certificate_entry_format_for c = pair_format (certificate_data_format_for c) (fixed_list_format 2 extension_format)

pub certificate_entry_meets_for : EachMeetsLaws certificate_entry_format_for
certificate_entry_meets_for c = pair_meets (certificate_data_meets_for c) (fixed_list_meets 2 extension_meets)

-- ---- the message

abbrev pub certificate_plain : Certificate → Tree
certificate_plain v =
    pair_tree (number_trees (fixed_bytes_of v.certificate_request_context))
    (trees certificate_entry_plain (elements_of v.certificate_list))

abbrev pub certificate_format_for : Tree → Format
certificate_format_for c = pair_format (fixed_bytes_format 1) (fixed_list_format 3 (certificate_entry_format_for c))

pub certificate_meets_for : EachMeetsLaws certificate_format_for
certificate_meets_for c = pair_meets (fixed_bytes_meets 1) (fixed_list_meets 3 (certificate_entry_meets_for c))
