-- The types of Certificate Transparency.
use Rattle.std.specs.Prelude.{List, [], ◌∷◌, codes}
use Rattle.ct.specs.DigitallySigned.{digitally_signed_format}
use Rattle.ct.specs.LogEntry.{log_entry_format}
use Rattle.ct.specs.LogID.{log_id_format}
use Rattle.ct.specs.MerkleTreeLeaf.{merkle_tree_leaf_format}
use Rattle.ct.specs.PreCert.{pre_cert_format}
use Rattle.ct.specs.PrecertChainEntry.{precert_chain_entry_format}
use Rattle.ct.specs.SignatureAndHashAlgorithm.{signature_and_hash_algorithm_format}
use Rattle.ct.specs.SignedCertificateTimestamp.{signed_certificate_timestamp_format}
use Rattle.ct.specs.SignedCertificateTimestampList.{signed_certificate_timestamp_list_format}
use Rattle.ct.specs.SignedCertificateTimestampTBS.{signed_certificate_timestamp_tbs_format}
use Rattle.ct.specs.TimestampedEntry.{timestamped_entry_format}
use Rattle.ct.specs.TreeHeadSignature.{tree_head_signature_format}
use Rattle.ct.specs.X509ChainEntry.{x509_chain_entry_format}
use Rattle.tlsdump.specs.Kinds.{Kind, kind}

-- each type's name, and its format
abbrev pub ct_kinds : List Kind
ct_kinds =
    kind (codes "DigitallySigned") digitally_signed_format
    ∷ kind (codes "LogEntry") log_entry_format
    ∷ kind (codes "LogID") log_id_format
    ∷ kind (codes "MerkleTreeLeaf") merkle_tree_leaf_format
    ∷ kind (codes "PreCert") pre_cert_format
    ∷ kind (codes "PrecertChainEntry") precert_chain_entry_format
    ∷ kind (codes "SignatureAndHashAlgorithm") signature_and_hash_algorithm_format
    ∷ kind (codes "SignedCertificateTimestamp") signed_certificate_timestamp_format
    ∷ kind (codes "SignedCertificateTimestampList") signed_certificate_timestamp_list_format
    ∷ kind (codes "SignedCertificateTimestampTBS") signed_certificate_timestamp_tbs_format
    ∷ kind (codes "TimestampedEntry") timestamped_entry_format
    ∷ kind (codes "TreeHeadSignature") tree_head_signature_format
    ∷ kind (codes "X509ChainEntry") x509_chain_entry_format
    ∷ []
