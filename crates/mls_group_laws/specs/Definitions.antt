-- What mls_group.tls says: the definitions, the notes, and the text that they are.
use Rattle.std.specs.Prelude.{List, [], ◌∷◌, codes}
use Rattle.tls_presentation.specs.Definition.{One, Variable, Is, Width, Ended, Plain, Definition, Alias, Note, IsClosed, IsBorrowed, field, optional, has, constant, word, value, case, select, called, enum, struct}
use Rattle.tls_presentation.specs.Meaning.{Text, text_over}
use Rattle.mls_tree_laws.specs.Definitions.{mls_tree}

abbrev pub hash_reference_definition : Definition
hash_reference_definition = Alias (field "opaque" "HashReference" Variable)

abbrev pub key_package_ref_definition : Definition
key_package_ref_definition = Alias (field "HashReference" "KeyPackageRef" One)

abbrev pub proposal_ref_definition : Definition
proposal_ref_definition = Alias (field "HashReference" "ProposalRef" One)

abbrev pub ref_hash_input_definition : Definition
ref_hash_input_definition = struct
    (Plain (field "opaque" "label" Variable) ∷
    Plain (field "opaque" "value" Variable) ∷
    [])
    "RefHashInput"

abbrev pub mac_definition : Definition
mac_definition = Alias (field "opaque" "MAC" Variable)

abbrev pub hpke_ciphertext_definition : Definition
hpke_ciphertext_definition = struct
    (Plain (field "opaque" "kem_output" Variable) ∷
    Plain (field "opaque" "ciphertext" Variable) ∷
    [])
    "HPKECiphertext"

abbrev pub update_path_node_definition : Definition
update_path_node_definition = struct
    (Plain (field "HPKEPublicKey" "encryption_key" One) ∷
    Plain (field "HPKECiphertext" "encrypted_path_secret" Variable) ∷
    [])
    "UpdatePathNode"

abbrev pub update_path_definition : Definition
update_path_definition = struct
    (Plain (field "LeafNode" "leaf_node" One) ∷
    Plain (field "UpdatePathNode" "nodes" Variable) ∷
    [])
    "UpdatePath"

abbrev pub kdf_label_definition : Definition
kdf_label_definition = struct
    (Plain (field "uint16" "length" One) ∷
    Plain (field "opaque" "label" Variable) ∷
    Plain (field "opaque" "context" Variable) ∷
    [])
    "KDFLabel"

abbrev pub group_context_definition : Definition
group_context_definition = struct
    (Plain (constant "ProtocolVersion" "version" One (Is (word "mls10"))) ∷
    Plain (field "CipherSuite" "cipher_suite" One) ∷
    Plain (field "opaque" "group_id" Variable) ∷
    Plain (field "uint64" "epoch" One) ∷
    Plain (field "opaque" "tree_hash" Variable) ∷
    Plain (field "opaque" "confirmed_transcript_hash" Variable) ∷
    Plain (field "Extension" "extensions" Variable) ∷
    [])
    "GroupContext"

abbrev pub psk_type_definition : Definition
psk_type_definition = enum
    (value "reserved" 0 ∷ value "external" 1 ∷ value "resumption" 2 ∷ Width 255 ∷ [])
    "PSKType"

abbrev pub resumption_psk_usage_definition : Definition
resumption_psk_usage_definition = enum
    (value "reserved" 0 ∷ value "application" 1 ∷ value "reinit" 2 ∷ value "branch" 3 ∷ Width 255 ∷ [])
    "ResumptionPSKUsage"

abbrev pub pre_shared_key_id_definition : Definition
pre_shared_key_id_definition = struct
    (Plain (field "PSKType" "psktype" One) ∷
    select "PreSharedKeyID.psktype"
    (case "external" (has "opaque" "psk_id" Variable ∷ []) ∷
    case "resumption" (has "ResumptionPSKUsage" "usage" One ∷ has "opaque" "psk_group_id" Variable ∷ has "uint64" "psk_epoch" One ∷ []) ∷
    [])
    (called "PSKOrigin") ∷
    Plain (field "opaque" "psk_nonce" Variable) ∷
    [])
    "PreSharedKeyID"

abbrev pub psk_label_definition : Definition
psk_label_definition = struct
    (Plain (field "PreSharedKeyID" "id" One) ∷
    Plain (field "uint16" "index" One) ∷
    Plain (field "uint16" "count" One) ∷
    [])
    "PSKLabel"

abbrev pub required_capabilities_definition : Definition
required_capabilities_definition = struct
    (Plain (field "ExtensionType" "extension_types" Variable) ∷
    Plain (field "ProposalType" "proposal_types" Variable) ∷
    Plain (field "CredentialType" "credential_types" Variable) ∷
    [])
    "RequiredCapabilities"

abbrev pub add_definition : Definition
add_definition = struct
    (Plain (field "KeyPackage" "key_package" One) ∷
    [])
    "Add"

abbrev pub update_definition : Definition
update_definition = struct
    (Plain (field "LeafNode" "leaf_node" One) ∷
    [])
    "Update"

abbrev pub remove_definition : Definition
remove_definition = struct
    (Plain (field "uint32" "removed" One) ∷
    [])
    "Remove"

abbrev pub pre_shared_key_definition : Definition
pre_shared_key_definition = struct
    (Plain (field "PreSharedKeyID" "psk" One) ∷
    [])
    "PreSharedKey"

abbrev pub re_init_definition : Definition
re_init_definition = struct
    (Plain (field "opaque" "group_id" Variable) ∷
    Plain (field "ProtocolVersion" "version" One) ∷
    Plain (field "CipherSuite" "cipher_suite" One) ∷
    Plain (field "Extension" "extensions" Variable) ∷
    [])
    "ReInit"

abbrev pub external_init_definition : Definition
external_init_definition = struct
    (Plain (field "opaque" "kem_output" Variable) ∷
    [])
    "ExternalInit"

abbrev pub group_context_extensions_definition : Definition
group_context_extensions_definition = struct
    (Plain (field "Extension" "extensions" Variable) ∷
    [])
    "GroupContextExtensions"

abbrev pub external_sender_definition : Definition
external_sender_definition = struct
    (Plain (field "SignaturePublicKey" "signature_key" One) ∷
    Plain (field "Credential" "credential" One) ∷
    [])
    "ExternalSender"

abbrev pub external_senders_definition : Definition
external_senders_definition = struct
    (Plain (field "ExternalSender" "external_senders" Variable) ∷
    [])
    "ExternalSenders"

abbrev pub proposal_definition : Definition
proposal_definition = struct
    (Plain (field "ProposalType" "proposal_type" One) ∷
    select "Proposal.proposal_type"
    (case "add" (has "Add" "add" One ∷ []) ∷
    case "update" (has "Update" "update" One ∷ []) ∷
    case "remove" (has "Remove" "remove" One ∷ []) ∷
    case "psk" (has "PreSharedKey" "psk" One ∷ []) ∷
    case "reinit" (has "ReInit" "reinit" One ∷ []) ∷
    case "external_init" (has "ExternalInit" "external_init" One ∷ []) ∷
    case "group_context_extensions" (has "GroupContextExtensions" "group_context_extensions" One ∷ []) ∷
    [])
    Ended ∷
    [])
    "Proposal"

abbrev pub proposal_or_ref_type_definition : Definition
proposal_or_ref_type_definition = enum
    (value "reserved" 0 ∷ value "proposal" 1 ∷ value "reference" 2 ∷ Width 255 ∷ [])
    "ProposalOrRefType"

abbrev pub proposal_or_ref_definition : Definition
proposal_or_ref_definition = struct
    (Plain (field "ProposalOrRefType" "type" One) ∷
    select "ProposalOrRef.type"
    (case "proposal" (has "Proposal" "proposal" One ∷ []) ∷
    case "reference" (has "ProposalRef" "reference" One ∷ []) ∷
    [])
    Ended ∷
    [])
    "ProposalOrRef"

abbrev pub commit_definition : Definition
commit_definition = struct
    (Plain (field "ProposalOrRef" "proposals" Variable) ∷
    Plain (optional "UpdatePath" "path" One) ∷
    [])
    "Commit"

abbrev pub group_info_definition : Definition
group_info_definition = struct
    (Plain (field "GroupContext" "group_context" One) ∷
    Plain (field "Extension" "extensions" Variable) ∷
    Plain (field "MAC" "confirmation_tag" One) ∷
    Plain (field "uint32" "signer" One) ∷
    Plain (field "opaque" "signature" Variable) ∷
    [])
    "GroupInfo"

abbrev pub group_info_tbs_definition : Definition
group_info_tbs_definition = struct
    (Plain (field "GroupContext" "group_context" One) ∷
    Plain (field "Extension" "extensions" Variable) ∷
    Plain (field "MAC" "confirmation_tag" One) ∷
    Plain (field "uint32" "signer" One) ∷
    [])
    "GroupInfoTBS"

abbrev pub path_secret_definition : Definition
path_secret_definition = struct
    (Plain (field "opaque" "path_secret" Variable) ∷
    [])
    "PathSecret"

abbrev pub group_secrets_definition : Definition
group_secrets_definition = struct
    (Plain (field "opaque" "joiner_secret" Variable) ∷
    Plain (optional "PathSecret" "path_secret" One) ∷
    Plain (field "PreSharedKeyID" "psks" Variable) ∷
    [])
    "GroupSecrets"

abbrev pub encrypted_group_secrets_definition : Definition
encrypted_group_secrets_definition = struct
    (Plain (field "KeyPackageRef" "new_member" One) ∷
    Plain (field "HPKECiphertext" "encrypted_group_secrets" One) ∷
    [])
    "EncryptedGroupSecrets"

abbrev pub welcome_definition : Definition
welcome_definition = struct
    (Plain (field "CipherSuite" "cipher_suite" One) ∷
    Plain (field "EncryptedGroupSecrets" "secrets" Variable) ∷
    Plain (field "opaque" "encrypted_group_info" Variable) ∷
    [])
    "Welcome"

abbrev pub external_pub_definition : Definition
external_pub_definition = struct
    (Plain (field "HPKEPublicKey" "external_pub" One) ∷
    [])
    "ExternalPub"

abbrev pub definitions : List Definition
definitions =
    hash_reference_definition ∷ key_package_ref_definition ∷ proposal_ref_definition ∷ ref_hash_input_definition ∷
    mac_definition ∷ hpke_ciphertext_definition ∷ update_path_node_definition ∷ update_path_definition ∷
    kdf_label_definition ∷ group_context_definition ∷ psk_type_definition ∷ resumption_psk_usage_definition ∷
    pre_shared_key_id_definition ∷ psk_label_definition ∷ required_capabilities_definition ∷ add_definition ∷
    update_definition ∷ remove_definition ∷ pre_shared_key_definition ∷ re_init_definition ∷
    external_init_definition ∷ group_context_extensions_definition ∷ external_sender_definition ∷ external_senders_definition ∷
    proposal_definition ∷ proposal_or_ref_type_definition ∷ proposal_or_ref_definition ∷ commit_definition ∷
    group_info_definition ∷ group_info_tbs_definition ∷ path_secret_definition ∷ group_secrets_definition ∷
    encrypted_group_secrets_definition ∷ welcome_definition ∷ external_pub_definition ∷
    []

abbrev pub notes : List Note
notes =
    IsClosed (codes "ResumptionPSKUsage") ∷
    IsBorrowed (codes "RefHashInput") ∷
    IsBorrowed (codes "KDFLabel") ∷
    IsBorrowed (codes "PSKLabel") ∷
    IsBorrowed (codes "GroupInfoTBS") ∷
    []

abbrev pub mls_group : Text
mls_group = text_over mls_tree.names notes definitions
