-- Why each value says so.
use Rattle.std.specs.Prelude.{ℕ, List, [], ◌∷◌}
use Rattle.tls_codec_grammar.specs.Tree.{Number, Empty, trees, number_trees, option_plain}
use Rattle.tls_codec_grammar.specs.Grammar.{Direction}
use Rattle.tls_presentation.specs.Definition.{word}
use Rattle.mls_tree_laws.specs.Definitions.{mls_tree}
use Rattle.std.specs.Prelude.{◌↔◌}
use Rattle.tls_presentation.specs.Says.{called}
use Rattle.tls_presentation.proofs.Saying.{struct_saying, borrowed_saying, number_saying, case_saying}
use Rattle.mls_tree.specs.Capabilities.{capabilities_format, capabilities_plain}
use Rattle.mls_tree.specs.Certificate.{certificate_format, certificate_plain}
use Rattle.mls_tree.specs.CipherSuite.{cipher_suite_format, cipher_suite_plain}
use Rattle.mls_tree.specs.Credential.{credential_format, credential_plain}
use Rattle.mls_tree.specs.CredentialType.{credential_type_format, credential_type_plain}
use Rattle.mls_tree.specs.EncryptContext.{encrypt_context_format, encrypt_context_plain}
use Rattle.mls_tree.specs.Extension.{extension_format, extension_plain}
use Rattle.mls_tree.specs.ExtensionType.{extension_type_format, extension_type_plain}
use Rattle.mls_tree.specs.KeyPackage.{key_package_format, key_package_plain}
use Rattle.mls_tree.specs.KeyPackageTBS.{key_package_tbs_format, key_package_tbs_plain}
use Rattle.mls_tree.specs.LeafNode.{leaf_node_format, leaf_node_plain}
use Rattle.mls_tree.specs.LeafNodeHashInput.{leaf_node_hash_input_format, leaf_node_hash_input_plain}
use Rattle.mls_tree.specs.LeafNodeOrigin.{leaf_node_origin_format, leaf_node_origin_plain}
use Rattle.mls_tree.specs.LeafNodeTBS.{leaf_node_tbs_format, leaf_node_tbs_plain}
use Rattle.mls_tree.specs.LeafNodeTBSOrigin.{leaf_node_tbs_origin_format, leaf_node_tbs_origin_plain}
use Rattle.mls_tree.specs.Lifetime.{lifetime_format, lifetime_plain}
use Rattle.mls_tree.specs.Node.{node_format, node_plain}
use Rattle.mls_tree.specs.ParentHashInput.{parent_hash_input_format, parent_hash_input_plain}
use Rattle.mls_tree.specs.ParentNode.{parent_node_format, parent_node_plain}
use Rattle.mls_tree.specs.ParentNodeHashInput.{parent_node_hash_input_format, parent_node_hash_input_plain}
use Rattle.mls_tree.specs.ProposalType.{proposal_type_format, proposal_type_plain}
use Rattle.mls_tree.specs.ProtocolVersion.{protocol_version_format, protocol_version_plain}
use Rattle.mls_tree.specs.RatchetTree.{ratchet_tree_format, ratchet_tree_plain}
use Rattle.mls_tree.specs.SignContent.{sign_content_format, sign_content_plain}
use Rattle.mls_tree.specs.TreeHashInput.{tree_hash_input_format, tree_hash_input_plain}
use Rattle.tls_codec.specs.Contents.{bytes_of}
use Rattle.mls_tree.specs.declared.capabilities.Capabilities.{Capabilities}
use Rattle.mls_tree.specs.declared.certificate.Certificate.{Certificate}
use Rattle.mls_tree.specs.declared.cipher_suite.CipherSuite.{CipherSuite}
use Rattle.mls_tree.specs.declared.credential.Credential.{Credential}
use Rattle.mls_tree.specs.declared.credential_type.CredentialType.{CredentialType}
use Rattle.mls_tree.specs.declared.encrypt_context.EncryptContext.{EncryptContext}
use Rattle.mls_tree.specs.declared.extension.Extension.{Extension}
use Rattle.mls_tree.specs.declared.extension_type.ExtensionType.{ExtensionType}
use Rattle.mls_tree.specs.declared.key_package.KeyPackage.{KeyPackage}
use Rattle.mls_tree.specs.declared.key_package_tbs.KeyPackageTBS.{KeyPackageTBS}
use Rattle.mls_tree.specs.declared.leaf_node.LeafNode.{LeafNode}
use Rattle.mls_tree.specs.declared.leaf_node_hash_input.LeafNodeHashInput.{LeafNodeHashInput}
use Rattle.mls_tree.specs.declared.leaf_node_origin.LeafNodeOrigin.{LeafNodeOrigin}
use Rattle.mls_tree.specs.declared.leaf_node_tbs.LeafNodeTBS.{LeafNodeTBS}
use Rattle.mls_tree.specs.declared.leaf_node_tbs_origin.LeafNodeTBSOrigin.{LeafNodeTBSOrigin}
use Rattle.mls_tree.specs.declared.lifetime.Lifetime.{Lifetime}
use Rattle.mls_tree.specs.declared.node.Node.{Node}
use Rattle.mls_tree.specs.declared.parent_hash_input.ParentHashInput.{ParentHashInput}
use Rattle.mls_tree.specs.declared.parent_node.ParentNode.{ParentNode}
use Rattle.mls_tree.specs.declared.parent_node_hash_input.ParentNodeHashInput.{ParentNodeHashInput}
use Rattle.mls_tree.specs.declared.proposal_type.ProposalType.{ProposalType}
use Rattle.mls_tree.specs.declared.protocol_version.ProtocolVersion.{ProtocolVersion}
use Rattle.mls_tree.specs.declared.ratchet_tree.RatchetTree.{RatchetTree}
use Rattle.mls_tree.specs.declared.sign_content.SignContent.{SignContent}
use Rattle.mls_tree.specs.declared.tree_hash_input.TreeHashInput.{TreeHashInput}
use Rattle.mls_tree.specs.declared.credential.Credential.TheVariants.{Basic as CredentialBasic, X509 as CredentialX509}
use Rattle.mls_tree.specs.declared.leaf_node_origin.LeafNodeOrigin.TheVariants.{KeyPackage as LeafNodeOriginKeyPackage, Update as LeafNodeOriginUpdate, Commit as LeafNodeOriginCommit}
use Rattle.mls_tree.specs.declared.leaf_node_tbs_origin.LeafNodeTBSOrigin.TheVariants.{KeyPackage as LeafNodeTBSOriginKeyPackage, Update as LeafNodeTBSOriginUpdate, Commit as LeafNodeTBSOriginCommit}
use Rattle.mls_tree.specs.declared.node.Node.TheVariants.{Leaf as NodeLeaf, Parent as NodeParent}
use Rattle.mls_tree.specs.declared.tree_hash_input.TreeHashInput.TheVariants.{Leaf as TreeHashInputLeaf, Parent as TreeHashInputParent}
use Rattle.mls_tree_laws.specs.Says.{CapabilitiesSays, CertificateSays, CipherSuiteSays, CredentialSays, CredentialTypeSays, EncryptContextSays, ExtensionSays, ExtensionTypeSays, KeyPackageSays, KeyPackageTBSSays, LeafNodeSays, LeafNodeHashInputSays, LeafNodeOriginSays, LeafNodeTBSSays, LeafNodeTBSOriginSays, LifetimeSays, NodeSays, ParentHashInputSays, ParentNodeSays, ParentNodeHashInputSays, ProposalTypeSays, ProtocolVersionSays, RatchetTreeSays, SignContentSays, TreeHashInputSays}

pub capabilities_saying : (v : Capabilities) (d : Direction) (b : List ℕ) → capabilities_format.spells d b (capabilities_plain v) ↔ CapabilitiesSays v d b
capabilities_saying v d b = struct_saying mls_tree "Capabilities" Empty (called "versions" (trees protocol_version_plain v.versions.items) ∷
    called "cipher_suites" (trees cipher_suite_plain v.cipher_suites.items) ∷
    called "extensions" (trees extension_type_plain v.extensions.items) ∷
    called "proposals" (trees proposal_type_plain v.proposals.items) ∷
    called "credentials" (trees credential_type_plain v.credentials.items) ∷
    []) d b

pub certificate_saying : (v : Certificate) (d : Direction) (b : List ℕ) → certificate_format.spells d b (certificate_plain v) ↔ CertificateSays v d b
certificate_saying v d b = struct_saying mls_tree "Certificate" Empty (called "cert_data" (number_trees (bytes_of v.cert_data)) ∷
    []) d b

pub cipher_suite_saying : (v : CipherSuite) (d : Direction) (b : List ℕ) → cipher_suite_format.spells d b (cipher_suite_plain v) ↔ CipherSuiteSays v d b
cipher_suite_saying v d b = number_saying mls_tree "CipherSuite" v.0 d b

pub credential_saying : (v : Credential) (d : Direction) (b : List ℕ) → credential_format.spells d b (credential_plain v) ↔ CredentialSays v d b
credential_saying (CredentialBasic a0) d b = case_saying mls_tree "Credential" "credential_type" (word "basic") Empty (called "identity" (number_trees (bytes_of a0)) ∷
    []) d b
credential_saying (CredentialX509 a0) d b = case_saying mls_tree "Credential" "credential_type" (word "x509") Empty (called "certificates" (trees certificate_plain a0.items) ∷
    []) d b

pub credential_type_saying : (v : CredentialType) (d : Direction) (b : List ℕ) → credential_type_format.spells d b (credential_type_plain v) ↔ CredentialTypeSays v d b
credential_type_saying v d b = number_saying mls_tree "CredentialType" v.0 d b

pub encrypt_context_saying : (v : EncryptContext) (d : Direction) (b : List ℕ) → encrypt_context_format.spells d b (encrypt_context_plain v) ↔ EncryptContextSays v d b
encrypt_context_saying v d b = borrowed_saying mls_tree "EncryptContext" Empty (called "label" (number_trees (bytes_of v.label.now)) ∷
    called "context" (number_trees (bytes_of v.context.now)) ∷
    []) d b

pub extension_saying : (v : Extension) (d : Direction) (b : List ℕ) → extension_format.spells d b (extension_plain v) ↔ ExtensionSays v d b
extension_saying v d b = struct_saying mls_tree "Extension" Empty (called "extension_type" (extension_type_plain v.extension_type) ∷
    called "extension_data" (number_trees (bytes_of v.extension_data)) ∷
    []) d b

pub extension_type_saying : (v : ExtensionType) (d : Direction) (b : List ℕ) → extension_type_format.spells d b (extension_type_plain v) ↔ ExtensionTypeSays v d b
extension_type_saying v d b = number_saying mls_tree "ExtensionType" v.0 d b

pub key_package_saying : (v : KeyPackage) (d : Direction) (b : List ℕ) → key_package_format.spells d b (key_package_plain v) ↔ KeyPackageSays v d b
key_package_saying v d b = struct_saying mls_tree "KeyPackage" Empty (called "version" (protocol_version_plain v.version) ∷
    called "cipher_suite" (cipher_suite_plain v.cipher_suite) ∷
    called "init_key" (number_trees (bytes_of v.init_key)) ∷
    called "leaf_node" (leaf_node_plain v.leaf_node) ∷
    called "extensions" (trees extension_plain v.extensions.items) ∷
    called "signature" (number_trees (bytes_of v.signature)) ∷
    []) d b

pub key_package_tbs_saying : (v : KeyPackageTBS) (d : Direction) (b : List ℕ) → key_package_tbs_format.spells d b (key_package_tbs_plain v) ↔ KeyPackageTBSSays v d b
key_package_tbs_saying v d b = borrowed_saying mls_tree "KeyPackageTBS" Empty (called "version" (protocol_version_plain v.version.now) ∷
    called "cipher_suite" (cipher_suite_plain v.cipher_suite.now) ∷
    called "init_key" (number_trees (bytes_of v.init_key.now)) ∷
    called "leaf_node" (leaf_node_plain v.leaf_node.now) ∷
    called "extensions" (trees extension_plain v.extensions.now.items) ∷
    []) d b

pub leaf_node_saying : (v : LeafNode) (d : Direction) (b : List ℕ) → leaf_node_format.spells d b (leaf_node_plain v) ↔ LeafNodeSays v d b
leaf_node_saying v d b = struct_saying mls_tree "LeafNode" Empty (called "encryption_key" (number_trees (bytes_of v.encryption_key)) ∷
    called "signature_key" (number_trees (bytes_of v.signature_key)) ∷
    called "credential" (credential_plain v.credential) ∷
    called "capabilities" (capabilities_plain v.capabilities) ∷
    called "leaf_node_source" (leaf_node_origin_plain v.leaf_node_source) ∷
    called "extensions" (trees extension_plain v.extensions.items) ∷
    called "signature" (number_trees (bytes_of v.signature)) ∷
    []) d b

pub leaf_node_hash_input_saying : (v : LeafNodeHashInput) (d : Direction) (b : List ℕ) → leaf_node_hash_input_format.spells d b (leaf_node_hash_input_plain v) ↔ LeafNodeHashInputSays v d b
leaf_node_hash_input_saying v d b = struct_saying mls_tree "LeafNodeHashInput" Empty (called "leaf_index" (Number v.leaf_index) ∷
    called "leaf_node" (option_plain leaf_node_plain v.leaf_node) ∷
    []) d b

pub leaf_node_origin_saying : (v : LeafNodeOrigin) (d : Direction) (b : List ℕ) → leaf_node_origin_format.spells d b (leaf_node_origin_plain v) ↔ LeafNodeOriginSays v d b
leaf_node_origin_saying (LeafNodeOriginKeyPackage a0) d b = case_saying mls_tree "LeafNode" "leaf_node_source" (word "key_package") Empty (called "lifetime" (lifetime_plain a0) ∷
    []) d b
leaf_node_origin_saying LeafNodeOriginUpdate d b = case_saying mls_tree "LeafNode" "leaf_node_source" (word "update") Empty [] d b
leaf_node_origin_saying (LeafNodeOriginCommit a0) d b = case_saying mls_tree "LeafNode" "leaf_node_source" (word "commit") Empty (called "parent_hash" (number_trees (bytes_of a0)) ∷
    []) d b

pub leaf_node_tbs_saying : (v : LeafNodeTBS) (d : Direction) (b : List ℕ) → leaf_node_tbs_format.spells d b (leaf_node_tbs_plain v) ↔ LeafNodeTBSSays v d b
leaf_node_tbs_saying v d b = borrowed_saying mls_tree "LeafNodeTBS" Empty (called "encryption_key" (number_trees (bytes_of v.encryption_key.now)) ∷
    called "signature_key" (number_trees (bytes_of v.signature_key.now)) ∷
    called "credential" (credential_plain v.credential.now) ∷
    called "capabilities" (capabilities_plain v.capabilities.now) ∷
    called "leaf_node_source" (leaf_node_tbs_origin_plain v.leaf_node_source) ∷
    []) d b

pub leaf_node_tbs_origin_saying : (v : LeafNodeTBSOrigin) (d : Direction) (b : List ℕ) → leaf_node_tbs_origin_format.spells d b (leaf_node_tbs_origin_plain v) ↔ LeafNodeTBSOriginSays v d b
leaf_node_tbs_origin_saying (LeafNodeTBSOriginKeyPackage a0 a1) d b = case_saying mls_tree "LeafNodeTBS" "leaf_node_source" (word "key_package") Empty (called "lifetime" (lifetime_plain a0.now) ∷
    called "extensions" (trees extension_plain a1.now.items) ∷
    []) d b
leaf_node_tbs_origin_saying (LeafNodeTBSOriginUpdate a0 a1 a2) d b = case_saying mls_tree "LeafNodeTBS" "leaf_node_source" (word "update") Empty (called "extensions" (trees extension_plain a0.now.items) ∷
    called "group_id" (number_trees (bytes_of a1.now)) ∷
    called "leaf_index" (Number a2.now) ∷
    []) d b
leaf_node_tbs_origin_saying (LeafNodeTBSOriginCommit a0 a1 a2 a3) d b = case_saying mls_tree "LeafNodeTBS" "leaf_node_source" (word "commit") Empty (called "parent_hash" (number_trees (bytes_of a0.now)) ∷
    called "extensions" (trees extension_plain a1.now.items) ∷
    called "group_id" (number_trees (bytes_of a2.now)) ∷
    called "leaf_index" (Number a3.now) ∷
    []) d b

pub lifetime_saying : (v : Lifetime) (d : Direction) (b : List ℕ) → lifetime_format.spells d b (lifetime_plain v) ↔ LifetimeSays v d b
lifetime_saying v d b = struct_saying mls_tree "Lifetime" Empty (called "not_before" (Number v.not_before) ∷
    called "not_after" (Number v.not_after) ∷
    []) d b

pub node_saying : (v : Node) (d : Direction) (b : List ℕ) → node_format.spells d b (node_plain v) ↔ NodeSays v d b
node_saying (NodeLeaf a0) d b = case_saying mls_tree "Node" "node_type" (word "leaf") Empty (called "leaf_node" (leaf_node_plain a0) ∷
    []) d b
node_saying (NodeParent a0) d b = case_saying mls_tree "Node" "node_type" (word "parent") Empty (called "parent_node" (parent_node_plain a0) ∷
    []) d b

pub parent_hash_input_saying : (v : ParentHashInput) (d : Direction) (b : List ℕ) → parent_hash_input_format.spells d b (parent_hash_input_plain v) ↔ ParentHashInputSays v d b
parent_hash_input_saying v d b = borrowed_saying mls_tree "ParentHashInput" Empty (called "encryption_key" (number_trees (bytes_of v.encryption_key.now)) ∷
    called "parent_hash" (number_trees (bytes_of v.parent_hash.now)) ∷
    called "original_sibling_tree_hash" (number_trees (bytes_of v.original_sibling_tree_hash.now)) ∷
    []) d b

pub parent_node_saying : (v : ParentNode) (d : Direction) (b : List ℕ) → parent_node_format.spells d b (parent_node_plain v) ↔ ParentNodeSays v d b
parent_node_saying v d b = struct_saying mls_tree "ParentNode" Empty (called "encryption_key" (number_trees (bytes_of v.encryption_key)) ∷
    called "parent_hash" (number_trees (bytes_of v.parent_hash)) ∷
    called "unmerged_leaves" (trees Number v.unmerged_leaves.items) ∷
    []) d b

pub parent_node_hash_input_saying : (v : ParentNodeHashInput) (d : Direction) (b : List ℕ) → parent_node_hash_input_format.spells d b (parent_node_hash_input_plain v) ↔ ParentNodeHashInputSays v d b
parent_node_hash_input_saying v d b = struct_saying mls_tree "ParentNodeHashInput" Empty (called "parent_node" (option_plain parent_node_plain v.parent_node) ∷
    called "left_hash" (number_trees (bytes_of v.left_hash)) ∷
    called "right_hash" (number_trees (bytes_of v.right_hash)) ∷
    []) d b

pub proposal_type_saying : (v : ProposalType) (d : Direction) (b : List ℕ) → proposal_type_format.spells d b (proposal_type_plain v) ↔ ProposalTypeSays v d b
proposal_type_saying v d b = number_saying mls_tree "ProposalType" v.0 d b

pub protocol_version_saying : (v : ProtocolVersion) (d : Direction) (b : List ℕ) → protocol_version_format.spells d b (protocol_version_plain v) ↔ ProtocolVersionSays v d b
protocol_version_saying v d b = number_saying mls_tree "ProtocolVersion" v.0 d b

pub ratchet_tree_saying : (v : RatchetTree) (d : Direction) (b : List ℕ) → ratchet_tree_format.spells d b (ratchet_tree_plain v) ↔ RatchetTreeSays v d b
ratchet_tree_saying v d b = struct_saying mls_tree "RatchetTree" Empty (called "ratchet_tree" (trees (option_plain node_plain) v.ratchet_tree.items) ∷
    []) d b

pub sign_content_saying : (v : SignContent) (d : Direction) (b : List ℕ) → sign_content_format.spells d b (sign_content_plain v) ↔ SignContentSays v d b
sign_content_saying v d b = borrowed_saying mls_tree "SignContent" Empty (called "label" (number_trees (bytes_of v.label.now)) ∷
    called "content" (number_trees (bytes_of v.content.now)) ∷
    []) d b

pub tree_hash_input_saying : (v : TreeHashInput) (d : Direction) (b : List ℕ) → tree_hash_input_format.spells d b (tree_hash_input_plain v) ↔ TreeHashInputSays v d b
tree_hash_input_saying (TreeHashInputLeaf a0) d b = case_saying mls_tree "TreeHashInput" "node_type" (word "leaf") Empty (called "leaf_node" (leaf_node_hash_input_plain a0) ∷
    []) d b
tree_hash_input_saying (TreeHashInputParent a0) d b = case_saying mls_tree "TreeHashInput" "node_type" (word "parent") Empty (called "parent_node" (parent_node_hash_input_plain a0) ∷
    []) d b
