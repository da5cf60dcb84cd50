-- What each type's values say: their parts by the names in the text.
use Rattle.std.specs.Prelude.{ℕ, List, [], ◌∷◌}
use Rattle.tls_codec_grammar.specs.Tree.{Number, Empty, trees, number_trees}
use Rattle.tls_codec_grammar.specs.Grammar.{Direction}
use Rattle.tls_presentation.specs.Definition.{word}
use Rattle.ct_laws.specs.Definitions.{ct}
use Rattle.tls_presentation.specs.Says.{called, says, value_says, constant_says, number_says, case_says}
use Rattle.ct.specs.DigitallySigned.{digitally_signed_plain}
use Rattle.ct.specs.HashAlgorithm.{hash_algorithm_plain}
use Rattle.ct.specs.LogEntryTypeData.{log_entry_type_data_plain}
use Rattle.ct.specs.LogID.{log_id_plain}
use Rattle.ct.specs.MerkleLeafType.{merkle_leaf_type_plain}
use Rattle.ct.specs.PreCert.{pre_cert_plain}
use Rattle.ct.specs.PrecertChainEntry.{precert_chain_entry_plain}
use Rattle.ct.specs.SignatureAlgorithm.{signature_algorithm_plain}
use Rattle.ct.specs.SignatureAndHashAlgorithm.{signature_and_hash_algorithm_plain}
use Rattle.ct.specs.SignatureTypeCertificateTimestamp.{signature_type_certificate_timestamp_plain}
use Rattle.ct.specs.SignatureTypeTreeHash.{signature_type_tree_hash_plain}
use Rattle.ct.specs.TimestampedEntry.{timestamped_entry_plain}
use Rattle.ct.specs.TimestampedEntryLogEntryTypeData.{timestamped_entry_log_entry_type_data_plain}
use Rattle.ct.specs.Version.{version_plain}
use Rattle.ct.specs.X509ChainEntry.{x509_chain_entry_plain}
use Rattle.tls_codec.specs.Contents.{elements_of, fixed_bytes_of}
use Rattle.ct.specs.declared.digitally_signed.DigitallySigned.{DigitallySigned}
use Rattle.ct.specs.declared.hash_algorithm.HashAlgorithm.{HashAlgorithm}
use Rattle.ct.specs.declared.log_entry.LogEntry.{LogEntry}
use Rattle.ct.specs.declared.log_entry_type_data.LogEntryTypeData.{LogEntryTypeData}
use Rattle.ct.specs.declared.log_id.LogID.{LogID}
use Rattle.ct.specs.declared.merkle_leaf_type.MerkleLeafType.{MerkleLeafType}
use Rattle.ct.specs.declared.merkle_tree_leaf.MerkleTreeLeaf.{MerkleTreeLeaf}
use Rattle.ct.specs.declared.pre_cert.PreCert.{PreCert}
use Rattle.ct.specs.declared.precert_chain_entry.PrecertChainEntry.{PrecertChainEntry}
use Rattle.ct.specs.declared.signature_algorithm.SignatureAlgorithm.{SignatureAlgorithm}
use Rattle.ct.specs.declared.signature_and_hash_algorithm.SignatureAndHashAlgorithm.{SignatureAndHashAlgorithm}
use Rattle.ct.specs.declared.signature_type.SignatureType.{SignatureType}
use Rattle.ct.specs.declared.signature_type_certificate_timestamp.SignatureTypeCertificateTimestamp.{SignatureTypeCertificateTimestamp}
use Rattle.ct.specs.declared.signature_type_tree_hash.SignatureTypeTreeHash.{SignatureTypeTreeHash}
use Rattle.ct.specs.declared.signed_certificate_timestamp.SignedCertificateTimestamp.{SignedCertificateTimestamp}
use Rattle.ct.specs.declared.signed_certificate_timestamp_list.SignedCertificateTimestampList.{SignedCertificateTimestampList}
use Rattle.ct.specs.declared.signed_certificate_timestamp_tbs.SignedCertificateTimestampTBS.{SignedCertificateTimestampTBS}
use Rattle.ct.specs.declared.timestamped_entry.TimestampedEntry.{TimestampedEntry}
use Rattle.ct.specs.declared.timestamped_entry_log_entry_type_data.TimestampedEntryLogEntryTypeData.{TimestampedEntryLogEntryTypeData}
use Rattle.ct.specs.declared.tree_head_signature.TreeHeadSignature.{TreeHeadSignature}
use Rattle.ct.specs.declared.version.Version.{Version}
use Rattle.ct.specs.declared.x509_chain_entry.X509ChainEntry.{X509ChainEntry}
use Rattle.ct.specs.declared.log_entry.LogEntry.TheVariants.{X509Entry as LogEntryX509Entry, PrecertEntry as LogEntryPrecertEntry}
use Rattle.ct.specs.declared.log_entry_type_data.LogEntryTypeData.TheVariants.{X509Entry as LogEntryTypeDataX509Entry, PrecertEntry as LogEntryTypeDataPrecertEntry}
use Rattle.ct.specs.declared.timestamped_entry_log_entry_type_data.TimestampedEntryLogEntryTypeData.TheVariants.{X509Entry as TimestampedEntryLogEntryTypeDataX509Entry, PrecertEntry as TimestampedEntryLogEntryTypeDataPrecertEntry}

abbrev pub DigitallySignedSays : DigitallySigned → Direction → List ℕ → Type 0
DigitallySignedSays v = says ct "DigitallySigned" Empty (called "algorithm" (signature_and_hash_algorithm_plain v.algorithm) ∷
    called "signature" (number_trees (fixed_bytes_of v.signature)) ∷
    [])

abbrev pub HashAlgorithmSays : HashAlgorithm → Direction → List ℕ → Type 0
HashAlgorithmSays v = number_says ct "HashAlgorithm" v.0

abbrev pub LogEntrySays : LogEntry → Direction → List ℕ → Type 0
LogEntrySays (LogEntryX509Entry a0) = case_says ct "LogEntry" "entry_type" (word "x509_entry") Empty (called "X509ChainEntry" (x509_chain_entry_plain a0) ∷
    [])
LogEntrySays (LogEntryPrecertEntry a0) = case_says ct "LogEntry" "entry_type" (word "precert_entry") Empty (called "PrecertChainEntry" (precert_chain_entry_plain a0) ∷
    [])

abbrev pub LogEntryTypeDataSays : LogEntryTypeData → Direction → List ℕ → Type 0
LogEntryTypeDataSays (LogEntryTypeDataX509Entry a0) = case_says ct "SignedCertificateTimestampTBS" "entry_type" (word "x509_entry") Empty (called "ASN.1Cert" (number_trees (fixed_bytes_of a0)) ∷
    [])
LogEntryTypeDataSays (LogEntryTypeDataPrecertEntry a0) = case_says ct "SignedCertificateTimestampTBS" "entry_type" (word "precert_entry") Empty (called "PreCert" (pre_cert_plain a0) ∷
    [])

abbrev pub LogIDSays : LogID → Direction → List ℕ → Type 0
LogIDSays v = says ct "LogID" Empty (called "key_id" (number_trees v.key_id) ∷
    [])

abbrev pub MerkleLeafTypeSays : MerkleLeafType → Direction → List ℕ → Type 0
MerkleLeafTypeSays v = value_says ct "MerkleLeafType" "timestamped_entry"

abbrev pub MerkleTreeLeafSays : MerkleTreeLeaf → Direction → List ℕ → Type 0
MerkleTreeLeafSays v = says ct "MerkleTreeLeaf" Empty (called "version" (version_plain v.version) ∷
    called "leaf_type" (merkle_leaf_type_plain v.leaf_type) ∷
    called "TimestampedEntry" (timestamped_entry_plain v.timestamped_entry) ∷
    [])

abbrev pub PreCertSays : PreCert → Direction → List ℕ → Type 0
PreCertSays v = says ct "PreCert" Empty (called "issuer_key_hash" (number_trees v.issuer_key_hash) ∷
    called "tbs_certificate" (number_trees (fixed_bytes_of v.tbs_certificate)) ∷
    [])

abbrev pub PrecertChainEntrySays : PrecertChainEntry → Direction → List ℕ → Type 0
PrecertChainEntrySays v = says ct "PrecertChainEntry" Empty (called "pre_certificate" (number_trees (fixed_bytes_of v.pre_certificate)) ∷
    called "precertificate_chain" (trees (λ v. number_trees (fixed_bytes_of v)) (elements_of v.precertificate_chain)) ∷
    [])

abbrev pub SignatureAlgorithmSays : SignatureAlgorithm → Direction → List ℕ → Type 0
SignatureAlgorithmSays v = number_says ct "SignatureAlgorithm" v.0

abbrev pub SignatureAndHashAlgorithmSays : SignatureAndHashAlgorithm → Direction → List ℕ → Type 0
SignatureAndHashAlgorithmSays v = says ct "SignatureAndHashAlgorithm" Empty (called "hash" (hash_algorithm_plain v.hash) ∷
    called "signature" (signature_algorithm_plain v.signature) ∷
    [])

abbrev pub SignatureTypeSays : SignatureType → Direction → List ℕ → Type 0
SignatureTypeSays v = number_says ct "SignatureType" v.0

abbrev pub SignatureTypeCertificateTimestampSays : SignatureTypeCertificateTimestamp → Direction → List ℕ → Type 0
SignatureTypeCertificateTimestampSays v = constant_says ct "SignedCertificateTimestampTBS" "signature_type"

abbrev pub SignatureTypeTreeHashSays : SignatureTypeTreeHash → Direction → List ℕ → Type 0
SignatureTypeTreeHashSays v = constant_says ct "TreeHeadSignature" "signature_type"

abbrev pub SignedCertificateTimestampSays : SignedCertificateTimestamp → Direction → List ℕ → Type 0
SignedCertificateTimestampSays v = says ct "SignedCertificateTimestamp" Empty (called "sct_version" (version_plain v.sct_version) ∷
    called "id" (log_id_plain v.id) ∷
    called "timestamp" (Number v.timestamp) ∷
    called "extensions" (number_trees (fixed_bytes_of v.extensions)) ∷
    called "signature" (digitally_signed_plain v.signature) ∷
    [])

abbrev pub SignedCertificateTimestampListSays : SignedCertificateTimestampList → Direction → List ℕ → Type 0
SignedCertificateTimestampListSays v = says ct "SignedCertificateTimestampList" Empty (called "sct_list" (trees (λ v. number_trees (fixed_bytes_of v)) (elements_of v.sct_list)) ∷
    [])

abbrev pub SignedCertificateTimestampTBSSays : SignedCertificateTimestampTBS → Direction → List ℕ → Type 0
SignedCertificateTimestampTBSSays v = says ct "SignedCertificateTimestampTBS" Empty (called "sct_version" (version_plain v.sct_version) ∷
    called "signature_type" (signature_type_certificate_timestamp_plain v.signature_type) ∷
    called "timestamp" (Number v.timestamp) ∷
    called "signed_entry" (log_entry_type_data_plain v.signed_entry) ∷
    called "extensions" (number_trees (fixed_bytes_of v.extensions)) ∷
    [])

abbrev pub TimestampedEntrySays : TimestampedEntry → Direction → List ℕ → Type 0
TimestampedEntrySays v = says ct "TimestampedEntry" Empty (called "timestamp" (Number v.timestamp) ∷
    called "signed_entry" (timestamped_entry_log_entry_type_data_plain v.signed_entry) ∷
    called "extensions" (number_trees (fixed_bytes_of v.extensions)) ∷
    [])

abbrev pub TimestampedEntryLogEntryTypeDataSays : TimestampedEntryLogEntryTypeData → Direction → List ℕ → Type 0
TimestampedEntryLogEntryTypeDataSays (TimestampedEntryLogEntryTypeDataX509Entry a0) = case_says ct "TimestampedEntry" "entry_type" (word "x509_entry") Empty (called "ASN.1Cert" (number_trees (fixed_bytes_of a0)) ∷
    [])
TimestampedEntryLogEntryTypeDataSays (TimestampedEntryLogEntryTypeDataPrecertEntry a0) = case_says ct "TimestampedEntry" "entry_type" (word "precert_entry") Empty (called "PreCert" (pre_cert_plain a0) ∷
    [])

abbrev pub TreeHeadSignatureSays : TreeHeadSignature → Direction → List ℕ → Type 0
TreeHeadSignatureSays v = says ct "TreeHeadSignature" Empty (called "version" (version_plain v.version) ∷
    called "signature_type" (signature_type_tree_hash_plain v.signature_type) ∷
    called "timestamp" (Number v.timestamp) ∷
    called "tree_size" (Number v.tree_size) ∷
    called "sha256_root_hash" (number_trees v.sha256_root_hash) ∷
    [])

abbrev pub VersionSays : Version → Direction → List ℕ → Type 0
VersionSays v = value_says ct "Version" "v1"

abbrev pub X509ChainEntrySays : X509ChainEntry → Direction → List ℕ → Type 0
X509ChainEntrySays v = says ct "X509ChainEntry" Empty (called "leaf_certificate" (number_trees (fixed_bytes_of v.leaf_certificate)) ∷
    called "certificate_chain" (trees (λ v. number_trees (fixed_bytes_of v)) (elements_of v.certificate_chain)) ∷
    [])
