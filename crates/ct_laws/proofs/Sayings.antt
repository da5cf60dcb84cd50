-- Why each value says so.
use Rattle.std.specs.Prelude.{ℕ, List, [], ◌∷◌}
use Rattle.tls_codec_grammar.specs.Tree.{Number, Empty, trees, number_trees}
use Rattle.tls_codec_grammar.specs.Grammar.{Direction}
use Rattle.tls_presentation.specs.Definition.{word}
use Rattle.ct_laws.specs.Definitions.{ct}
use Rattle.std.proofs.Common.{◌≡◌, refl}
use Rattle.tls_presentation.specs.Says.{value_number}
use Rattle.std.specs.Prelude.{◌↔◌}
use Rattle.tls_presentation.specs.Says.{called}
use Rattle.tls_presentation.proofs.Flat.{same_iff}
use Rattle.tls_presentation.proofs.Saying.{struct_saying, number_saying, case_saying}
use Rattle.ct.specs.DigitallySigned.{digitally_signed_format, digitally_signed_plain}
use Rattle.ct.specs.HashAlgorithm.{hash_algorithm_format, hash_algorithm_plain}
use Rattle.ct.specs.LogEntry.{log_entry_format, log_entry_plain}
use Rattle.ct.specs.LogEntryTypeData.{log_entry_type_data_format, log_entry_type_data_plain}
use Rattle.ct.specs.LogID.{log_id_format, log_id_plain}
use Rattle.ct.specs.MerkleLeafType.{merkle_leaf_type_code, merkle_leaf_type_format, merkle_leaf_type_name, merkle_leaf_type_plain}
use Rattle.ct.specs.MerkleTreeLeaf.{merkle_tree_leaf_format, merkle_tree_leaf_plain}
use Rattle.ct.specs.PreCert.{pre_cert_format, pre_cert_plain}
use Rattle.ct.specs.PrecertChainEntry.{precert_chain_entry_format, precert_chain_entry_plain}
use Rattle.ct.specs.SignatureAlgorithm.{signature_algorithm_format, signature_algorithm_plain}
use Rattle.ct.specs.SignatureAndHashAlgorithm.{signature_and_hash_algorithm_format, signature_and_hash_algorithm_plain}
use Rattle.ct.specs.SignatureType.{signature_type_format, signature_type_plain}
use Rattle.ct.specs.SignatureTypeCertificateTimestamp.{signature_type_certificate_timestamp_format, signature_type_certificate_timestamp_plain}
use Rattle.ct.specs.SignatureTypeTreeHash.{signature_type_tree_hash_format, signature_type_tree_hash_plain}
use Rattle.ct.specs.SignedCertificateTimestamp.{signed_certificate_timestamp_format, signed_certificate_timestamp_plain}
use Rattle.ct.specs.SignedCertificateTimestampList.{signed_certificate_timestamp_list_format, signed_certificate_timestamp_list_plain}
use Rattle.ct.specs.SignedCertificateTimestampTBS.{signed_certificate_timestamp_tbs_format, signed_certificate_timestamp_tbs_plain}
use Rattle.ct.specs.TimestampedEntry.{timestamped_entry_format, timestamped_entry_plain}
use Rattle.ct.specs.TimestampedEntryLogEntryTypeData.{timestamped_entry_log_entry_type_data_format, timestamped_entry_log_entry_type_data_plain}
use Rattle.ct.specs.TreeHeadSignature.{tree_head_signature_format, tree_head_signature_plain}
use Rattle.ct.specs.Version.{version_code, version_format, version_name, version_plain}
use Rattle.ct.specs.X509ChainEntry.{x509_chain_entry_format, x509_chain_entry_plain}
use Rattle.tls_codec.specs.Contents.{elements_of, fixed_bytes_of}
use Rattle.ct.specs.declared.digitally_signed.DigitallySigned.{DigitallySigned}
use Rattle.ct.specs.declared.hash_algorithm.HashAlgorithm.{HashAlgorithm}
use Rattle.ct.specs.declared.log_entry.LogEntry.{LogEntry}
use Rattle.ct.specs.declared.log_entry_type_data.LogEntryTypeData.{LogEntryTypeData}
use Rattle.ct.specs.declared.log_id.LogID.{LogID}
use Rattle.ct.specs.declared.merkle_leaf_type.MerkleLeafType.{MerkleLeafType}
use Rattle.ct.specs.declared.merkle_tree_leaf.MerkleTreeLeaf.{MerkleTreeLeaf}
use Rattle.ct.specs.declared.pre_cert.PreCert.{PreCert}
use Rattle.ct.specs.declared.precert_chain_entry.PrecertChainEntry.{PrecertChainEntry}
use Rattle.ct.specs.declared.signature_algorithm.SignatureAlgorithm.{SignatureAlgorithm}
use Rattle.ct.specs.declared.signature_and_hash_algorithm.SignatureAndHashAlgorithm.{SignatureAndHashAlgorithm}
use Rattle.ct.specs.declared.signature_type.SignatureType.{SignatureType}
use Rattle.ct.specs.declared.signature_type_certificate_timestamp.SignatureTypeCertificateTimestamp.{SignatureTypeCertificateTimestamp}
use Rattle.ct.specs.declared.signature_type_tree_hash.SignatureTypeTreeHash.{SignatureTypeTreeHash}
use Rattle.ct.specs.declared.signed_certificate_timestamp.SignedCertificateTimestamp.{SignedCertificateTimestamp}
use Rattle.ct.specs.declared.signed_certificate_timestamp_list.SignedCertificateTimestampList.{SignedCertificateTimestampList}
use Rattle.ct.specs.declared.signed_certificate_timestamp_tbs.SignedCertificateTimestampTBS.{SignedCertificateTimestampTBS}
use Rattle.ct.specs.declared.timestamped_entry.TimestampedEntry.{TimestampedEntry}
use Rattle.ct.specs.declared.timestamped_entry_log_entry_type_data.TimestampedEntryLogEntryTypeData.{TimestampedEntryLogEntryTypeData}
use Rattle.ct.specs.declared.tree_head_signature.TreeHeadSignature.{TreeHeadSignature}
use Rattle.ct.specs.declared.version.Version.{Version}
use Rattle.ct.specs.declared.x509_chain_entry.X509ChainEntry.{X509ChainEntry}
use Rattle.ct.specs.declared.log_entry.LogEntry.TheVariants.{X509Entry as LogEntryX509Entry, PrecertEntry as LogEntryPrecertEntry}
use Rattle.ct.specs.declared.log_entry_type_data.LogEntryTypeData.TheVariants.{X509Entry as LogEntryTypeDataX509Entry, PrecertEntry as LogEntryTypeDataPrecertEntry}
use Rattle.ct.specs.declared.timestamped_entry_log_entry_type_data.TimestampedEntryLogEntryTypeData.TheVariants.{X509Entry as TimestampedEntryLogEntryTypeDataX509Entry, PrecertEntry as TimestampedEntryLogEntryTypeDataPrecertEntry}
use Rattle.ct_laws.specs.Says.{DigitallySignedSays, HashAlgorithmSays, LogEntrySays, LogEntryTypeDataSays, LogIDSays, MerkleLeafTypeSays, MerkleTreeLeafSays, PreCertSays, PrecertChainEntrySays, SignatureAlgorithmSays, SignatureAndHashAlgorithmSays, SignatureTypeSays, SignatureTypeCertificateTimestampSays, SignatureTypeTreeHashSays, SignedCertificateTimestampSays, SignedCertificateTimestampListSays, SignedCertificateTimestampTBSSays, TimestampedEntrySays, TimestampedEntryLogEntryTypeDataSays, TreeHeadSignatureSays, VersionSays, X509ChainEntrySays}

pub digitally_signed_saying : (v : DigitallySigned) (d : Direction) (b : List ℕ) → digitally_signed_format.spells d b (digitally_signed_plain v) ↔ DigitallySignedSays v d b
digitally_signed_saying v d b = struct_saying ct "DigitallySigned" Empty (called "algorithm" (signature_and_hash_algorithm_plain v.algorithm) ∷
    called "signature" (number_trees (fixed_bytes_of v.signature)) ∷
    []) d b

pub hash_algorithm_saying : (v : HashAlgorithm) (d : Direction) (b : List ℕ) → hash_algorithm_format.spells d b (hash_algorithm_plain v) ↔ HashAlgorithmSays v d b
hash_algorithm_saying v d b = number_saying ct "HashAlgorithm" v.0 d b

pub log_entry_saying : (v : LogEntry) (d : Direction) (b : List ℕ) → log_entry_format.spells d b (log_entry_plain v) ↔ LogEntrySays v d b
log_entry_saying (LogEntryX509Entry a0) d b = case_saying ct "LogEntry" "entry_type" (word "x509_entry") Empty (called "X509ChainEntry" (x509_chain_entry_plain a0) ∷
    []) d b
log_entry_saying (LogEntryPrecertEntry a0) d b = case_saying ct "LogEntry" "entry_type" (word "precert_entry") Empty (called "PrecertChainEntry" (precert_chain_entry_plain a0) ∷
    []) d b

pub log_entry_type_data_saying : (v : LogEntryTypeData) (d : Direction) (b : List ℕ) → log_entry_type_data_format.spells d b (log_entry_type_data_plain v) ↔ LogEntryTypeDataSays v d b
log_entry_type_data_saying (LogEntryTypeDataX509Entry a0) d b = case_saying ct "SignedCertificateTimestampTBS" "entry_type" (word "x509_entry") Empty (called "ASN.1Cert" (number_trees (fixed_bytes_of a0)) ∷
    []) d b
log_entry_type_data_saying (LogEntryTypeDataPrecertEntry a0) d b = case_saying ct "SignedCertificateTimestampTBS" "entry_type" (word "precert_entry") Empty (called "PreCert" (pre_cert_plain a0) ∷
    []) d b

pub log_id_saying : (v : LogID) (d : Direction) (b : List ℕ) → log_id_format.spells d b (log_id_plain v) ↔ LogIDSays v d b
log_id_saying v d b = struct_saying ct "LogID" Empty (called "key_id" (number_trees v.key_id) ∷
    []) d b

pub merkle_leaf_type_saying : (v : MerkleLeafType) (d : Direction) (b : List ℕ) → merkle_leaf_type_format.spells d b (merkle_leaf_type_plain v) ↔ MerkleLeafTypeSays v d b
merkle_leaf_type_saying v d b = same_iff

pub merkle_leaf_type_naming : (v : MerkleLeafType) → value_number ct "MerkleLeafType" (merkle_leaf_type_name v) ≡ merkle_leaf_type_code v
merkle_leaf_type_naming v = refl

pub merkle_tree_leaf_saying : (v : MerkleTreeLeaf) (d : Direction) (b : List ℕ) → merkle_tree_leaf_format.spells d b (merkle_tree_leaf_plain v) ↔ MerkleTreeLeafSays v d b
merkle_tree_leaf_saying v d b = struct_saying ct "MerkleTreeLeaf" Empty (called "version" (version_plain v.version) ∷
    called "leaf_type" (merkle_leaf_type_plain v.leaf_type) ∷
    called "TimestampedEntry" (timestamped_entry_plain v.timestamped_entry) ∷
    []) d b

pub pre_cert_saying : (v : PreCert) (d : Direction) (b : List ℕ) → pre_cert_format.spells d b (pre_cert_plain v) ↔ PreCertSays v d b
pre_cert_saying v d b = struct_saying ct "PreCert" Empty (called "issuer_key_hash" (number_trees v.issuer_key_hash) ∷
    called "tbs_certificate" (number_trees (fixed_bytes_of v.tbs_certificate)) ∷
    []) d b

pub precert_chain_entry_saying : (v : PrecertChainEntry) (d : Direction) (b : List ℕ) → precert_chain_entry_format.spells d b (precert_chain_entry_plain v) ↔ PrecertChainEntrySays v d b
precert_chain_entry_saying v d b = struct_saying ct "PrecertChainEntry" Empty (called "pre_certificate" (number_trees (fixed_bytes_of v.pre_certificate)) ∷
    called "precertificate_chain" (trees (λ v. number_trees (fixed_bytes_of v)) (elements_of v.precertificate_chain)) ∷
    []) d b

pub signature_algorithm_saying : (v : SignatureAlgorithm) (d : Direction) (b : List ℕ) → signature_algorithm_format.spells d b (signature_algorithm_plain v) ↔ SignatureAlgorithmSays v d b
signature_algorithm_saying v d b = number_saying ct "SignatureAlgorithm" v.0 d b

pub signature_and_hash_algorithm_saying : (v : SignatureAndHashAlgorithm) (d : Direction) (b : List ℕ) → signature_and_hash_algorithm_format.spells d b (signature_and_hash_algorithm_plain v) ↔ SignatureAndHashAlgorithmSays v d b
signature_and_hash_algorithm_saying v d b = struct_saying ct "SignatureAndHashAlgorithm" Empty (called "hash" (hash_algorithm_plain v.hash) ∷
    called "signature" (signature_algorithm_plain v.signature) ∷
    []) d b

pub signature_type_saying : (v : SignatureType) (d : Direction) (b : List ℕ) → signature_type_format.spells d b (signature_type_plain v) ↔ SignatureTypeSays v d b
signature_type_saying v d b = number_saying ct "SignatureType" v.0 d b

pub signature_type_certificate_timestamp_saying : (v : SignatureTypeCertificateTimestamp) (d : Direction) (b : List ℕ) → signature_type_certificate_timestamp_format.spells d b (signature_type_certificate_timestamp_plain v) ↔ SignatureTypeCertificateTimestampSays v d b
signature_type_certificate_timestamp_saying v d b = same_iff

pub signature_type_tree_hash_saying : (v : SignatureTypeTreeHash) (d : Direction) (b : List ℕ) → signature_type_tree_hash_format.spells d b (signature_type_tree_hash_plain v) ↔ SignatureTypeTreeHashSays v d b
signature_type_tree_hash_saying v d b = same_iff

pub signed_certificate_timestamp_saying : (v : SignedCertificateTimestamp) (d : Direction) (b : List ℕ) → signed_certificate_timestamp_format.spells d b (signed_certificate_timestamp_plain v) ↔ SignedCertificateTimestampSays v d b
signed_certificate_timestamp_saying v d b = struct_saying ct "SignedCertificateTimestamp" Empty (called "sct_version" (version_plain v.sct_version) ∷
    called "id" (log_id_plain v.id) ∷
    called "timestamp" (Number v.timestamp) ∷
    called "extensions" (number_trees (fixed_bytes_of v.extensions)) ∷
    called "signature" (digitally_signed_plain v.signature) ∷
    []) d b

pub signed_certificate_timestamp_list_saying : (v : SignedCertificateTimestampList) (d : Direction) (b : List ℕ) → signed_certificate_timestamp_list_format.spells d b (signed_certificate_timestamp_list_plain v) ↔ SignedCertificateTimestampListSays v d b
signed_certificate_timestamp_list_saying v d b = struct_saying ct "SignedCertificateTimestampList" Empty (called "sct_list" (trees (λ v. number_trees (fixed_bytes_of v)) (elements_of v.sct_list)) ∷
    []) d b

pub signed_certificate_timestamp_tbs_saying : (v : SignedCertificateTimestampTBS) (d : Direction) (b : List ℕ) → signed_certificate_timestamp_tbs_format.spells d b (signed_certificate_timestamp_tbs_plain v) ↔ SignedCertificateTimestampTBSSays v d b
signed_certificate_timestamp_tbs_saying v d b = struct_saying ct "SignedCertificateTimestampTBS" Empty (called "sct_version" (version_plain v.sct_version) ∷
    called "signature_type" (signature_type_certificate_timestamp_plain v.signature_type) ∷
    called "timestamp" (Number v.timestamp) ∷
    called "signed_entry" (log_entry_type_data_plain v.signed_entry) ∷
    called "extensions" (number_trees (fixed_bytes_of v.extensions)) ∷
    []) d b

pub timestamped_entry_saying : (v : TimestampedEntry) (d : Direction) (b : List ℕ) → timestamped_entry_format.spells d b (timestamped_entry_plain v) ↔ TimestampedEntrySays v d b
timestamped_entry_saying v d b = struct_saying ct "TimestampedEntry" Empty (called "timestamp" (Number v.timestamp) ∷
    called "signed_entry" (timestamped_entry_log_entry_type_data_plain v.signed_entry) ∷
    called "extensions" (number_trees (fixed_bytes_of v.extensions)) ∷
    []) d b

pub timestamped_entry_log_entry_type_data_saying : (v : TimestampedEntryLogEntryTypeData) (d : Direction) (b : List ℕ) → timestamped_entry_log_entry_type_data_format.spells d b (timestamped_entry_log_entry_type_data_plain v) ↔ TimestampedEntryLogEntryTypeDataSays v d b
timestamped_entry_log_entry_type_data_saying (TimestampedEntryLogEntryTypeDataX509Entry a0) d b = case_saying ct "TimestampedEntry" "entry_type" (word "x509_entry") Empty (called "ASN.1Cert" (number_trees (fixed_bytes_of a0)) ∷
    []) d b
timestamped_entry_log_entry_type_data_saying (TimestampedEntryLogEntryTypeDataPrecertEntry a0) d b = case_saying ct "TimestampedEntry" "entry_type" (word "precert_entry") Empty (called "PreCert" (pre_cert_plain a0) ∷
    []) d b

pub tree_head_signature_saying : (v : TreeHeadSignature) (d : Direction) (b : List ℕ) → tree_head_signature_format.spells d b (tree_head_signature_plain v) ↔ TreeHeadSignatureSays v d b
tree_head_signature_saying v d b = struct_saying ct "TreeHeadSignature" Empty (called "version" (version_plain v.version) ∷
    called "signature_type" (signature_type_tree_hash_plain v.signature_type) ∷
    called "timestamp" (Number v.timestamp) ∷
    called "tree_size" (Number v.tree_size) ∷
    called "sha256_root_hash" (number_trees v.sha256_root_hash) ∷
    []) d b

pub version_saying : (v : Version) (d : Direction) (b : List ℕ) → version_format.spells d b (version_plain v) ↔ VersionSays v d b
version_saying v d b = same_iff

pub version_naming : (v : Version) → value_number ct "Version" (version_name v) ≡ version_code v
version_naming v = refl

pub x509_chain_entry_saying : (v : X509ChainEntry) (d : Direction) (b : List ℕ) → x509_chain_entry_format.spells d b (x509_chain_entry_plain v) ↔ X509ChainEntrySays v d b
x509_chain_entry_saying v d b = struct_saying ct "X509ChainEntry" Empty (called "leaf_certificate" (number_trees (fixed_bytes_of v.leaf_certificate)) ∷
    called "certificate_chain" (trees (λ v. number_trees (fixed_bytes_of v)) (elements_of v.certificate_chain)) ∷
    []) d b
