-- The text, line by line: mls_tree.tls.
use Rattle.std.specs.Prelude.{ℕ, List, [], ◌∷◌}
use Rattle.tls_presentation.specs.Cut.{lines}

abbrev pub text : List ℕ
text = lines (
    "// Messages of MLS (RFC 9420): credentials, leaf nodes, key packages and the tree. Definitions are in the order of the" ∷
    "// RFC's sections, under its names." ∷
    "" ∷
    "// ---- section 5.1, cipher suites. They are a registry (section 17.1): numbers without a name are kept." ∷
    "uint16 CipherSuite;" ∷
    "" ∷
    "// ---- section 5.1.1, public keys" ∷
    "opaque HPKEPublicKey<V>;" ∷
    "opaque SignaturePublicKey<V>;" ∷
    "" ∷
    "// ---- section 5.1.2, signing" ∷
    "struct {" ∷
    "    opaque label<V>;" ∷
    "    opaque content<V>;" ∷
    "} SignContent;" ∷
    "" ∷
    "// ---- section 5.1.3, public key encryption" ∷
    "struct {" ∷
    "    opaque label<V>;" ∷
    "    opaque context<V>;" ∷
    "} EncryptContext;" ∷
    "" ∷
    "// ---- section 5.3, credentials. Their types are a registry (section 17.5)." ∷
    "uint16 CredentialType;" ∷
    "" ∷
    "struct {" ∷
    "    opaque cert_data<V>;" ∷
    "} Certificate;" ∷
    "" ∷
    "struct {" ∷
    "    CredentialType credential_type;" ∷
    "    select (Credential.credential_type) {" ∷
    "        case basic:" ∷
    "            opaque identity<V>;" ∷
    "        case x509:" ∷
    "            Certificate certificates<V>;" ∷
    "    };" ∷
    "} Credential;" ∷
    "" ∷
    "// ---- section 6, here since capabilities and key packages name it. Versions of a later protocol are kept in lists." ∷
    "enum {" ∷
    "    reserved(0)," ∷
    "    mls10(1)," ∷
    "    (65535)" ∷
    "} ProtocolVersion;" ∷
    "" ∷
    "// ---- section 7.1, parent nodes" ∷
    "struct {" ∷
    "    HPKEPublicKey encryption_key;" ∷
    "    opaque parent_hash<V>;" ∷
    "    uint32 unmerged_leaves<V>;" ∷
    "} ParentNode;" ∷
    "" ∷
    "// ---- section 7.2, leaf nodes" ∷
    "enum {" ∷
    "    reserved(0)," ∷
    "    key_package(1)," ∷
    "    update(2)," ∷
    "    commit(3)," ∷
    "    (255)" ∷
    "} LeafNodeSource;" ∷
    "" ∷
    "// ---- section 17.3, here since capabilities name it" ∷
    "uint16 ExtensionType;" ∷
    "" ∷
    "// ---- section 17.4, likewise" ∷
    "uint16 ProposalType;" ∷
    "" ∷
    "// ---- section 7.2, leaf nodes again" ∷
    "struct {" ∷
    "    ProtocolVersion versions<V>;" ∷
    "    CipherSuite cipher_suites<V>;" ∷
    "    ExtensionType extensions<V>;" ∷
    "    ProposalType proposals<V>;" ∷
    "    CredentialType credentials<V>;" ∷
    "} Capabilities;" ∷
    "" ∷
    "struct {" ∷
    "    uint64 not_before;" ∷
    "    uint64 not_after;" ∷
    "} Lifetime;" ∷
    "" ∷
    "struct {" ∷
    "    ExtensionType extension_type;" ∷
    "    opaque extension_data<V>;" ∷
    "} Extension;" ∷
    "" ∷
    "struct {" ∷
    "    HPKEPublicKey encryption_key;" ∷
    "    SignaturePublicKey signature_key;" ∷
    "    Credential credential;" ∷
    "    Capabilities capabilities;" ∷
    "" ∷
    "    LeafNodeSource leaf_node_source;" ∷
    "    select (LeafNode.leaf_node_source) {" ∷
    "        case key_package:" ∷
    "            Lifetime lifetime;" ∷
    "" ∷
    "        case update:" ∷
    "            struct{};" ∷
    "" ∷
    "        case commit:" ∷
    "            opaque parent_hash<V>;" ∷
    "    } LeafNodeOrigin;" ∷
    "" ∷
    "    Extension extensions<V>;" ∷
    "    /* SignWithLabel(., \"LeafNodeTBS\", LeafNodeTBS) */" ∷
    "    opaque signature<V>;" ∷
    "} LeafNode;" ∷
    "" ∷
    "// What the signature of a leaf node is over. Its second select is on a tag that was read earlier." ∷
    "struct {" ∷
    "    HPKEPublicKey encryption_key;" ∷
    "    SignaturePublicKey signature_key;" ∷
    "    Credential credential;" ∷
    "    Capabilities capabilities;" ∷
    "" ∷
    "    LeafNodeSource leaf_node_source;" ∷
    "    select (LeafNodeTBS.leaf_node_source) {" ∷
    "        case key_package:" ∷
    "            Lifetime lifetime;" ∷
    "" ∷
    "        case update:" ∷
    "            struct{};" ∷
    "" ∷
    "        case commit:" ∷
    "            opaque parent_hash<V>;" ∷
    "    } LeafNodeTBSOrigin;" ∷
    "" ∷
    "    Extension extensions<V>;" ∷
    "" ∷
    "    select (LeafNodeTBS.leaf_node_source) {" ∷
    "        case key_package:" ∷
    "            struct{};" ∷
    "" ∷
    "        case update:" ∷
    "            opaque group_id<V>;" ∷
    "            uint32 leaf_index;" ∷
    "" ∷
    "        case commit:" ∷
    "            opaque group_id<V>;" ∷
    "            uint32 leaf_index;" ∷
    "    };" ∷
    "} LeafNodeTBS;" ∷
    "" ∷
    "// ---- section 7.8, tree hashes" ∷
    "enum {" ∷
    "    reserved(0)," ∷
    "    leaf(1)," ∷
    "    parent(2)," ∷
    "    (255)" ∷
    "} NodeType;" ∷
    "" ∷
    "struct {" ∷
    "    uint32 leaf_index;" ∷
    "    optional<LeafNode> leaf_node;" ∷
    "} LeafNodeHashInput;" ∷
    "" ∷
    "struct {" ∷
    "    optional<ParentNode> parent_node;" ∷
    "    opaque left_hash<V>;" ∷
    "    opaque right_hash<V>;" ∷
    "} ParentNodeHashInput;" ∷
    "" ∷
    "struct {" ∷
    "    NodeType node_type;" ∷
    "    select (TreeHashInput.node_type) {" ∷
    "        case leaf:" ∷
    "            LeafNodeHashInput leaf_node;" ∷
    "        case parent:" ∷
    "            ParentNodeHashInput parent_node;" ∷
    "    };" ∷
    "} TreeHashInput;" ∷
    "" ∷
    "// ---- section 7.9, parent hashes" ∷
    "struct {" ∷
    "    HPKEPublicKey encryption_key;" ∷
    "    opaque parent_hash<V>;" ∷
    "    opaque original_sibling_tree_hash<V>;" ∷
    "} ParentHashInput;" ∷
    "" ∷
    "// ---- section 10, key packages" ∷
    "struct {" ∷
    "    ProtocolVersion version;" ∷
    "    CipherSuite cipher_suite;" ∷
    "    HPKEPublicKey init_key;" ∷
    "    LeafNode leaf_node;" ∷
    "    Extension extensions<V>;" ∷
    "    /* SignWithLabel(., \"KeyPackageTBS\", KeyPackageTBS) */" ∷
    "    opaque signature<V>;" ∷
    "} KeyPackage;" ∷
    "" ∷
    "struct {" ∷
    "    ProtocolVersion version;" ∷
    "    CipherSuite cipher_suite;" ∷
    "    HPKEPublicKey init_key;" ∷
    "    LeafNode leaf_node;" ∷
    "    Extension extensions<V>;" ∷
    "} KeyPackageTBS;" ∷
    "" ∷
    "// ---- section 12.4.3.3, the tree of the extension ratchet_tree" ∷
    "struct {" ∷
    "    NodeType node_type;" ∷
    "    select (Node.node_type) {" ∷
    "        case leaf:" ∷
    "            LeafNode leaf_node;" ∷
    "        case parent:" ∷
    "            ParentNode parent_node;" ∷
    "    };" ∷
    "} Node;" ∷
    "" ∷
    "struct {" ∷
    "    optional<Node> ratchet_tree<V>;" ∷
    "} RatchetTree;" ∷
    [])
