-- What ct.tls says: the definitions, the notes, and the text that they are.
use Rattle.std.specs.Prelude.{List, [], ◌∷◌, None, codes}
use Rattle.tls_presentation.specs.Definition.{One, Array, Bounded, Is, Width, Bare, Plain, Own, Signed, Definition, SignedStruct, Alias, Note, IsClosed, field, is_a, constant, word, value, case, select, called, enum, struct, struct_of}
use Rattle.tls_presentation.specs.Meaning.{Text, text_of}

abbrev pub digitally_signed_definition : Definition
digitally_signed_definition = struct
    (Plain (field "SignatureAndHashAlgorithm" "algorithm" One) ∷
    Plain (field "opaque" "signature" (Bounded 0 65535)) ∷
    [])
    "DigitallySigned"

abbrev pub hash_algorithm_definition : Definition
hash_algorithm_definition = enum
    (value "none" 0 ∷
    value "md5" 1 ∷
    value "sha1" 2 ∷
    value "sha224" 3 ∷
    value "sha256" 4 ∷
    value "sha384" 5 ∷
    value "sha512" 6 ∷
    Width 255 ∷
    [])
    "HashAlgorithm"

abbrev pub signature_algorithm_definition : Definition
signature_algorithm_definition = enum
    (value "anonymous" 0 ∷ value "rsa" 1 ∷ value "dsa" 2 ∷ value "ecdsa" 3 ∷ Width 255 ∷ [])
    "SignatureAlgorithm"

abbrev pub signature_and_hash_algorithm_definition : Definition
signature_and_hash_algorithm_definition = struct
    (Plain (field "HashAlgorithm" "hash" One) ∷
    Plain (field "SignatureAlgorithm" "signature" One) ∷
    [])
    "SignatureAndHashAlgorithm"

abbrev pub log_entry_type_definition : Definition
log_entry_type_definition = enum
    (value "x509_entry" 0 ∷ value "precert_entry" 1 ∷ Width 65535 ∷ [])
    "LogEntryType"

abbrev pub log_entry_definition : Definition
log_entry_definition = struct
    (Plain (field "LogEntryType" "entry_type" One) ∷
    select "entry_type"
    (case "x509_entry" (is_a "X509ChainEntry" ∷ []) ∷
    case "precert_entry" (is_a "PrecertChainEntry" ∷ []) ∷
    [])
    (called "entry") ∷
    [])
    "LogEntry"

abbrev pub asn_1_cert_definition : Definition
asn_1_cert_definition = Alias (field "opaque" "ASN.1Cert" (Bounded 1 16777215))

abbrev pub x509_chain_entry_definition : Definition
x509_chain_entry_definition = struct
    (Plain (field "ASN.1Cert" "leaf_certificate" One) ∷
    Plain (field "ASN.1Cert" "certificate_chain" (Bounded 0 16777215)) ∷
    [])
    "X509ChainEntry"

abbrev pub precert_chain_entry_definition : Definition
precert_chain_entry_definition = struct
    (Plain (field "ASN.1Cert" "pre_certificate" One) ∷
    Plain (field "ASN.1Cert" "precertificate_chain" (Bounded 0 16777215)) ∷
    [])
    "PrecertChainEntry"

abbrev pub signature_type_definition : Definition
signature_type_definition = enum
    (value "certificate_timestamp" 0 ∷ value "tree_hash" 1 ∷ Width 255 ∷ [])
    "SignatureType"

abbrev pub version_definition : Definition
version_definition = enum
    (value "v1" 0 ∷ Width 255 ∷ [])
    "Version"

abbrev pub log_id_definition : Definition
log_id_definition = struct
    (Plain (field "opaque" "key_id" (Array 32)) ∷
    [])
    "LogID"

abbrev pub tbs_certificate_definition : Definition
tbs_certificate_definition = Alias (field "opaque" "TBSCertificate" (Bounded 1 16777215))

abbrev pub pre_cert_definition : Definition
pre_cert_definition = struct
    (Plain (field "opaque" "issuer_key_hash" (Array 32)) ∷
    Plain (field "TBSCertificate" "tbs_certificate" One) ∷
    [])
    "PreCert"

abbrev pub ct_extensions_definition : Definition
ct_extensions_definition = Alias (field "opaque" "CtExtensions" (Bounded 0 65535))

abbrev pub signed_certificate_timestamp_definition : Definition
signed_certificate_timestamp_definition = struct_of
    (Own (Plain (field "Version" "sct_version" One)) ∷
    Own (Plain (field "LogID" "id" One)) ∷
    Own (Plain (field "uint64" "timestamp" One)) ∷
    Own (Plain (field "CtExtensions" "extensions" One)) ∷
    Signed
    (Plain (field "Version" "sct_version" One) ∷
    Plain (constant "SignatureType" "signature_type" One (Is (word "certificate_timestamp"))) ∷
    Plain (field "uint64" "timestamp" One) ∷
    Plain (field "LogEntryType" "entry_type" One) ∷
    select "entry_type"
    (case "x509_entry" (is_a "ASN.1Cert" ∷ []) ∷
    case "precert_entry" (is_a "PreCert" ∷ []) ∷
    [])
    (called "signed_entry") ∷
    Plain (field "CtExtensions" "extensions" One) ∷
    [])
    None ∷
    [])
    "SignedCertificateTimestamp"

abbrev pub serialized_sct_definition : Definition
serialized_sct_definition = Alias (field "opaque" "SerializedSCT" (Bounded 1 65535))

abbrev pub signed_certificate_timestamp_list_definition : Definition
signed_certificate_timestamp_list_definition = struct
    (Plain (field "SerializedSCT" "sct_list" (Bounded 1 65535)) ∷
    [])
    "SignedCertificateTimestampList"

abbrev pub merkle_leaf_type_definition : Definition
merkle_leaf_type_definition = enum
    (value "timestamped_entry" 0 ∷ Width 255 ∷ [])
    "MerkleLeafType"

abbrev pub timestamped_entry_definition : Definition
timestamped_entry_definition = struct
    (Plain (field "uint64" "timestamp" One) ∷
    Plain (field "LogEntryType" "entry_type" One) ∷
    select "entry_type"
    (case "x509_entry" (is_a "ASN.1Cert" ∷ []) ∷
    case "precert_entry" (is_a "PreCert" ∷ []) ∷
    [])
    (called "signed_entry") ∷
    Plain (field "CtExtensions" "extensions" One) ∷
    [])
    "TimestampedEntry"

abbrev pub merkle_tree_leaf_definition : Definition
merkle_tree_leaf_definition = struct
    (Plain (field "Version" "version" One) ∷
    Plain (field "MerkleLeafType" "leaf_type" One) ∷
    select "leaf_type"
    (case "timestamped_entry" (is_a "TimestampedEntry" ∷ []) ∷
    [])
    Bare ∷
    [])
    "MerkleTreeLeaf"

abbrev pub tree_head_signature_definition : Definition
tree_head_signature_definition = SignedStruct
    (Plain (field "Version" "version" One) ∷
    Plain (constant "SignatureType" "signature_type" One (Is (word "tree_hash"))) ∷
    Plain (field "uint64" "timestamp" One) ∷
    Plain (field "uint64" "tree_size" One) ∷
    Plain (field "opaque" "sha256_root_hash" (Array 32)) ∷
    [])
    (codes "TreeHeadSignature")

abbrev pub definitions : List Definition
definitions =
    digitally_signed_definition ∷ hash_algorithm_definition ∷ signature_algorithm_definition ∷ signature_and_hash_algorithm_definition ∷
    log_entry_type_definition ∷ log_entry_definition ∷ asn_1_cert_definition ∷ x509_chain_entry_definition ∷
    precert_chain_entry_definition ∷ signature_type_definition ∷ version_definition ∷ log_id_definition ∷
    tbs_certificate_definition ∷ pre_cert_definition ∷ ct_extensions_definition ∷ signed_certificate_timestamp_definition ∷
    serialized_sct_definition ∷ signed_certificate_timestamp_list_definition ∷ merkle_leaf_type_definition ∷ timestamped_entry_definition ∷
    merkle_tree_leaf_definition ∷ tree_head_signature_definition ∷
    []

abbrev pub notes : List Note
notes =
    IsClosed (codes "Version") ∷
    []

abbrev pub ct : Text
ct = text_of notes definitions
