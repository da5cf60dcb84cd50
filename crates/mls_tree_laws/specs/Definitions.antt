-- What mls_tree.tls says: the definitions, the notes, and the text that they are.
use Rattle.std.specs.Prelude.{List, [], ◌∷◌, codes}
use Rattle.tls_presentation.specs.Definition.{Numeral, One, Variable, Width, Ended, Plain, Definition, Alias, Note, Equals, IsBorrowed, field, optional, has, value, case, select, called, enum, struct}
use Rattle.tls_presentation.specs.Meaning.{Text, text_of}

abbrev pub cipher_suite_definition : Definition
cipher_suite_definition = Alias (field "uint16" "CipherSuite" One)

abbrev pub hpke_public_key_definition : Definition
hpke_public_key_definition = Alias (field "opaque" "HPKEPublicKey" Variable)

abbrev pub signature_public_key_definition : Definition
signature_public_key_definition = Alias (field "opaque" "SignaturePublicKey" Variable)

abbrev pub sign_content_definition : Definition
sign_content_definition = struct
    (Plain (field "opaque" "label" Variable) ∷
    Plain (field "opaque" "content" Variable) ∷
    [])
    "SignContent"

abbrev pub encrypt_context_definition : Definition
encrypt_context_definition = struct
    (Plain (field "opaque" "label" Variable) ∷
    Plain (field "opaque" "context" Variable) ∷
    [])
    "EncryptContext"

abbrev pub credential_type_definition : Definition
credential_type_definition = Alias (field "uint16" "CredentialType" One)

abbrev pub certificate_definition : Definition
certificate_definition = struct
    (Plain (field "opaque" "cert_data" Variable) ∷
    [])
    "Certificate"

abbrev pub credential_definition : Definition
credential_definition = struct
    (Plain (field "CredentialType" "credential_type" One) ∷
    select "Credential.credential_type"
    (case "basic" (has "opaque" "identity" Variable ∷ []) ∷
    case "x509" (has "Certificate" "certificates" Variable ∷ []) ∷
    [])
    Ended ∷
    [])
    "Credential"

abbrev pub protocol_version_definition : Definition
protocol_version_definition = enum
    (value "reserved" 0 ∷ value "mls10" 1 ∷ Width 65535 ∷ [])
    "ProtocolVersion"

abbrev pub parent_node_definition : Definition
parent_node_definition = struct
    (Plain (field "HPKEPublicKey" "encryption_key" One) ∷
    Plain (field "opaque" "parent_hash" Variable) ∷
    Plain (field "uint32" "unmerged_leaves" Variable) ∷
    [])
    "ParentNode"

abbrev pub leaf_node_source_definition : Definition
leaf_node_source_definition = enum
    (value "reserved" 0 ∷ value "key_package" 1 ∷ value "update" 2 ∷ value "commit" 3 ∷ Width 255 ∷ [])
    "LeafNodeSource"

abbrev pub extension_type_definition : Definition
extension_type_definition = Alias (field "uint16" "ExtensionType" One)

abbrev pub proposal_type_definition : Definition
proposal_type_definition = Alias (field "uint16" "ProposalType" One)

abbrev pub capabilities_definition : Definition
capabilities_definition = struct
    (Plain (field "ProtocolVersion" "versions" Variable) ∷
    Plain (field "CipherSuite" "cipher_suites" Variable) ∷
    Plain (field "ExtensionType" "extensions" Variable) ∷
    Plain (field "ProposalType" "proposals" Variable) ∷
    Plain (field "CredentialType" "credentials" Variable) ∷
    [])
    "Capabilities"

abbrev pub lifetime_definition : Definition
lifetime_definition = struct
    (Plain (field "uint64" "not_before" One) ∷
    Plain (field "uint64" "not_after" One) ∷
    [])
    "Lifetime"

abbrev pub extension_definition : Definition
extension_definition = struct
    (Plain (field "ExtensionType" "extension_type" One) ∷
    Plain (field "opaque" "extension_data" Variable) ∷
    [])
    "Extension"

abbrev pub leaf_node_definition : Definition
leaf_node_definition = struct
    (Plain (field "HPKEPublicKey" "encryption_key" One) ∷
    Plain (field "SignaturePublicKey" "signature_key" One) ∷
    Plain (field "Credential" "credential" One) ∷
    Plain (field "Capabilities" "capabilities" One) ∷
    Plain (field "LeafNodeSource" "leaf_node_source" One) ∷
    select "LeafNode.leaf_node_source"
    (case "key_package" (has "Lifetime" "lifetime" One ∷ []) ∷
    case "update" [] ∷
    case "commit" (has "opaque" "parent_hash" Variable ∷ []) ∷
    [])
    (called "LeafNodeOrigin") ∷
    Plain (field "Extension" "extensions" Variable) ∷
    Plain (field "opaque" "signature" Variable) ∷
    [])
    "LeafNode"

abbrev pub leaf_node_tbs_definition : Definition
leaf_node_tbs_definition = struct
    (Plain (field "HPKEPublicKey" "encryption_key" One) ∷
    Plain (field "SignaturePublicKey" "signature_key" One) ∷
    Plain (field "Credential" "credential" One) ∷
    Plain (field "Capabilities" "capabilities" One) ∷
    Plain (field "LeafNodeSource" "leaf_node_source" One) ∷
    select "LeafNodeTBS.leaf_node_source"
    (case "key_package" (has "Lifetime" "lifetime" One ∷ []) ∷
    case "update" [] ∷
    case "commit" (has "opaque" "parent_hash" Variable ∷ []) ∷
    [])
    (called "LeafNodeTBSOrigin") ∷
    Plain (field "Extension" "extensions" Variable) ∷
    select "LeafNodeTBS.leaf_node_source"
    (case "key_package" [] ∷
    case "update" (has "opaque" "group_id" Variable ∷ has "uint32" "leaf_index" One ∷ []) ∷
    case "commit" (has "opaque" "group_id" Variable ∷ has "uint32" "leaf_index" One ∷ []) ∷
    [])
    Ended ∷
    [])
    "LeafNodeTBS"

abbrev pub node_type_definition : Definition
node_type_definition = enum
    (value "reserved" 0 ∷ value "leaf" 1 ∷ value "parent" 2 ∷ Width 255 ∷ [])
    "NodeType"

abbrev pub leaf_node_hash_input_definition : Definition
leaf_node_hash_input_definition = struct
    (Plain (field "uint32" "leaf_index" One) ∷
    Plain (optional "LeafNode" "leaf_node" One) ∷
    [])
    "LeafNodeHashInput"

abbrev pub parent_node_hash_input_definition : Definition
parent_node_hash_input_definition = struct
    (Plain (optional "ParentNode" "parent_node" One) ∷
    Plain (field "opaque" "left_hash" Variable) ∷
    Plain (field "opaque" "right_hash" Variable) ∷
    [])
    "ParentNodeHashInput"

abbrev pub tree_hash_input_definition : Definition
tree_hash_input_definition = struct
    (Plain (field "NodeType" "node_type" One) ∷
    select "TreeHashInput.node_type"
    (case "leaf" (has "LeafNodeHashInput" "leaf_node" One ∷ []) ∷
    case "parent" (has "ParentNodeHashInput" "parent_node" One ∷ []) ∷
    [])
    Ended ∷
    [])
    "TreeHashInput"

abbrev pub parent_hash_input_definition : Definition
parent_hash_input_definition = struct
    (Plain (field "HPKEPublicKey" "encryption_key" One) ∷
    Plain (field "opaque" "parent_hash" Variable) ∷
    Plain (field "opaque" "original_sibling_tree_hash" Variable) ∷
    [])
    "ParentHashInput"

abbrev pub key_package_definition : Definition
key_package_definition = struct
    (Plain (field "ProtocolVersion" "version" One) ∷
    Plain (field "CipherSuite" "cipher_suite" One) ∷
    Plain (field "HPKEPublicKey" "init_key" One) ∷
    Plain (field "LeafNode" "leaf_node" One) ∷
    Plain (field "Extension" "extensions" Variable) ∷
    Plain (field "opaque" "signature" Variable) ∷
    [])
    "KeyPackage"

abbrev pub key_package_tbs_definition : Definition
key_package_tbs_definition = struct
    (Plain (field "ProtocolVersion" "version" One) ∷
    Plain (field "CipherSuite" "cipher_suite" One) ∷
    Plain (field "HPKEPublicKey" "init_key" One) ∷
    Plain (field "LeafNode" "leaf_node" One) ∷
    Plain (field "Extension" "extensions" Variable) ∷
    [])
    "KeyPackageTBS"

abbrev pub node_definition : Definition
node_definition = struct
    (Plain (field "NodeType" "node_type" One) ∷
    select "Node.node_type"
    (case "leaf" (has "LeafNode" "leaf_node" One ∷ []) ∷
    case "parent" (has "ParentNode" "parent_node" One ∷ []) ∷
    [])
    Ended ∷
    [])
    "Node"

abbrev pub ratchet_tree_definition : Definition
ratchet_tree_definition = struct
    (Plain (optional "Node" "ratchet_tree" Variable) ∷
    [])
    "RatchetTree"

abbrev pub definitions : List Definition
definitions =
    cipher_suite_definition ∷ hpke_public_key_definition ∷ signature_public_key_definition ∷ sign_content_definition ∷
    encrypt_context_definition ∷ credential_type_definition ∷ certificate_definition ∷ credential_definition ∷
    protocol_version_definition ∷ parent_node_definition ∷ leaf_node_source_definition ∷ extension_type_definition ∷
    proposal_type_definition ∷ capabilities_definition ∷ lifetime_definition ∷ extension_definition ∷
    leaf_node_definition ∷ leaf_node_tbs_definition ∷ node_type_definition ∷ leaf_node_hash_input_definition ∷
    parent_node_hash_input_definition ∷ tree_hash_input_definition ∷ parent_hash_input_definition ∷ key_package_definition ∷
    key_package_tbs_definition ∷ node_definition ∷ ratchet_tree_definition ∷
    []

abbrev pub notes : List Note
notes =
    Equals (codes "CipherSuite.MLS_128_DHKEMX25519_AES128GCM_SHA256_Ed25519") (Numeral 1) ∷
    Equals (codes "CipherSuite.MLS_128_DHKEMP256_AES128GCM_SHA256_P256") (Numeral 2) ∷
    Equals (codes "CipherSuite.MLS_128_DHKEMX25519_CHACHA20POLY1305_SHA256_Ed25519") (Numeral 3) ∷
    Equals (codes "CipherSuite.MLS_256_DHKEMX448_AES256GCM_SHA512_Ed448") (Numeral 4) ∷
    Equals (codes "CipherSuite.MLS_256_DHKEMP521_AES256GCM_SHA512_P521") (Numeral 5) ∷
    Equals (codes "CipherSuite.MLS_256_DHKEMX448_CHACHA20POLY1305_SHA512_Ed448") (Numeral 6) ∷
    Equals (codes "CipherSuite.MLS_256_DHKEMP384_AES256GCM_SHA384_P384") (Numeral 7) ∷
    Equals (codes "CredentialType.basic") (Numeral 1) ∷
    Equals (codes "CredentialType.x509") (Numeral 2) ∷
    Equals (codes "ExtensionType.application_id") (Numeral 1) ∷
    Equals (codes "ExtensionType.ratchet_tree") (Numeral 2) ∷
    Equals (codes "ExtensionType.required_capabilities") (Numeral 3) ∷
    Equals (codes "ExtensionType.external_pub") (Numeral 4) ∷
    Equals (codes "ExtensionType.external_senders") (Numeral 5) ∷
    Equals (codes "ProposalType.add") (Numeral 1) ∷
    Equals (codes "ProposalType.update") (Numeral 2) ∷
    Equals (codes "ProposalType.remove") (Numeral 3) ∷
    Equals (codes "ProposalType.psk") (Numeral 4) ∷
    Equals (codes "ProposalType.reinit") (Numeral 5) ∷
    Equals (codes "ProposalType.external_init") (Numeral 6) ∷
    Equals (codes "ProposalType.group_context_extensions") (Numeral 7) ∷
    IsBorrowed (codes "SignContent") ∷
    IsBorrowed (codes "EncryptContext") ∷
    IsBorrowed (codes "LeafNodeTBS") ∷
    IsBorrowed (codes "ParentHashInput") ∷
    IsBorrowed (codes "KeyPackageTBS") ∷
    []

abbrev pub mls_tree : Text
mls_tree = text_of notes definitions
