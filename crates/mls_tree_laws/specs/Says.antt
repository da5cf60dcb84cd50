-- What each type's values say: their parts by the names in the text.
use Rattle.std.specs.Prelude.{ℕ, List, [], ◌∷◌}
use Rattle.tls_codec_grammar.specs.Tree.{Number, Empty, trees, number_trees, option_plain}
use Rattle.tls_codec_grammar.specs.Grammar.{Direction}
use Rattle.tls_presentation.specs.Definition.{word}
use Rattle.mls_tree_laws.specs.Definitions.{mls_tree}
use Rattle.tls_presentation.specs.Says.{called, says, number_says, case_says}
use Rattle.mls_tree.specs.Capabilities.{capabilities_plain}
use Rattle.mls_tree.specs.Certificate.{certificate_plain}
use Rattle.mls_tree.specs.CipherSuite.{cipher_suite_plain}
use Rattle.mls_tree.specs.Credential.{credential_plain}
use Rattle.mls_tree.specs.CredentialType.{credential_type_plain}
use Rattle.mls_tree.specs.Extension.{extension_plain}
use Rattle.mls_tree.specs.ExtensionType.{extension_type_plain}
use Rattle.mls_tree.specs.LeafNode.{leaf_node_plain}
use Rattle.mls_tree.specs.LeafNodeHashInput.{leaf_node_hash_input_plain}
use Rattle.mls_tree.specs.LeafNodeOrigin.{leaf_node_origin_plain}
use Rattle.mls_tree.specs.LeafNodeTBSOrigin.{leaf_node_tbs_origin_plain}
use Rattle.mls_tree.specs.Lifetime.{lifetime_plain}
use Rattle.mls_tree.specs.Node.{node_plain}
use Rattle.mls_tree.specs.ParentNode.{parent_node_plain}
use Rattle.mls_tree.specs.ParentNodeHashInput.{parent_node_hash_input_plain}
use Rattle.mls_tree.specs.ProposalType.{proposal_type_plain}
use Rattle.mls_tree.specs.ProtocolVersion.{protocol_version_plain}
use Rattle.tls_codec.specs.Contents.{bytes_of}
use Rattle.mls_tree.specs.declared.capabilities.Capabilities.{Capabilities}
use Rattle.mls_tree.specs.declared.certificate.Certificate.{Certificate}
use Rattle.mls_tree.specs.declared.cipher_suite.CipherSuite.{CipherSuite}
use Rattle.mls_tree.specs.declared.credential.Credential.{Credential}
use Rattle.mls_tree.specs.declared.credential_type.CredentialType.{CredentialType}
use Rattle.mls_tree.specs.declared.encrypt_context.EncryptContext.{EncryptContext}
use Rattle.mls_tree.specs.declared.extension.Extension.{Extension}
use Rattle.mls_tree.specs.declared.extension_type.ExtensionType.{ExtensionType}
use Rattle.mls_tree.specs.declared.key_package.KeyPackage.{KeyPackage}
use Rattle.mls_tree.specs.declared.key_package_tbs.KeyPackageTBS.{KeyPackageTBS}
use Rattle.mls_tree.specs.declared.leaf_node.LeafNode.{LeafNode}
use Rattle.mls_tree.specs.declared.leaf_node_hash_input.LeafNodeHashInput.{LeafNodeHashInput}
use Rattle.mls_tree.specs.declared.leaf_node_origin.LeafNodeOrigin.{LeafNodeOrigin}
use Rattle.mls_tree.specs.declared.leaf_node_tbs.LeafNodeTBS.{LeafNodeTBS}
use Rattle.mls_tree.specs.declared.leaf_node_tbs_origin.LeafNodeTBSOrigin.{LeafNodeTBSOrigin}
use Rattle.mls_tree.specs.declared.lifetime.Lifetime.{Lifetime}
use Rattle.mls_tree.specs.declared.node.Node.{Node}
use Rattle.mls_tree.specs.declared.parent_hash_input.ParentHashInput.{ParentHashInput}
use Rattle.mls_tree.specs.declared.parent_node.ParentNode.{ParentNode}
use Rattle.mls_tree.specs.declared.parent_node_hash_input.ParentNodeHashInput.{ParentNodeHashInput}
use Rattle.mls_tree.specs.declared.proposal_type.ProposalType.{ProposalType}
use Rattle.mls_tree.specs.declared.protocol_version.ProtocolVersion.{ProtocolVersion}
use Rattle.mls_tree.specs.declared.ratchet_tree.RatchetTree.{RatchetTree}
use Rattle.mls_tree.specs.declared.sign_content.SignContent.{SignContent}
use Rattle.mls_tree.specs.declared.tree_hash_input.TreeHashInput.{TreeHashInput}
use Rattle.mls_tree.specs.declared.credential.Credential.TheVariants.{Basic as CredentialBasic, X509 as CredentialX509}
use Rattle.mls_tree.specs.declared.leaf_node_origin.LeafNodeOrigin.TheVariants.{KeyPackage as LeafNodeOriginKeyPackage, Update as LeafNodeOriginUpdate, Commit as LeafNodeOriginCommit}
use Rattle.mls_tree.specs.declared.leaf_node_tbs_origin.LeafNodeTBSOrigin.TheVariants.{KeyPackage as LeafNodeTBSOriginKeyPackage, Update as LeafNodeTBSOriginUpdate, Commit as LeafNodeTBSOriginCommit}
use Rattle.mls_tree.specs.declared.node.Node.TheVariants.{Leaf as NodeLeaf, Parent as NodeParent}
use Rattle.mls_tree.specs.declared.tree_hash_input.TreeHashInput.TheVariants.{Leaf as TreeHashInputLeaf, Parent as TreeHashInputParent}

abbrev pub CapabilitiesSays : Capabilities → Direction → List ℕ → Type 0
CapabilitiesSays v = says mls_tree "Capabilities" Empty (called "versions" (trees protocol_version_plain v.versions.items) ∷
    called "cipher_suites" (trees cipher_suite_plain v.cipher_suites.items) ∷
    called "extensions" (trees extension_type_plain v.extensions.items) ∷
    called "proposals" (trees proposal_type_plain v.proposals.items) ∷
    called "credentials" (trees credential_type_plain v.credentials.items) ∷
    [])

abbrev pub CertificateSays : Certificate → Direction → List ℕ → Type 0
CertificateSays v = says mls_tree "Certificate" Empty (called "cert_data" (number_trees (bytes_of v.cert_data)) ∷
    [])

abbrev pub CipherSuiteSays : CipherSuite → Direction → List ℕ → Type 0
CipherSuiteSays v = number_says mls_tree "CipherSuite" v.0

abbrev pub CredentialSays : Credential → Direction → List ℕ → Type 0
CredentialSays (CredentialBasic a0) = case_says mls_tree "Credential" "credential_type" (word "basic") Empty (called "identity" (number_trees (bytes_of a0)) ∷
    [])
CredentialSays (CredentialX509 a0) = case_says mls_tree "Credential" "credential_type" (word "x509") Empty (called "certificates" (trees certificate_plain a0.items) ∷
    [])

abbrev pub CredentialTypeSays : CredentialType → Direction → List ℕ → Type 0
CredentialTypeSays v = number_says mls_tree "CredentialType" v.0

abbrev pub EncryptContextSays : EncryptContext → Direction → List ℕ → Type 0
EncryptContextSays v = says mls_tree "EncryptContext" Empty (called "label" (number_trees (bytes_of v.label.now)) ∷
    called "context" (number_trees (bytes_of v.context.now)) ∷
    [])

abbrev pub ExtensionSays : Extension → Direction → List ℕ → Type 0
ExtensionSays v = says mls_tree "Extension" Empty (called "extension_type" (extension_type_plain v.extension_type) ∷
    called "extension_data" (number_trees (bytes_of v.extension_data)) ∷
    [])

abbrev pub ExtensionTypeSays : ExtensionType → Direction → List ℕ → Type 0
ExtensionTypeSays v = number_says mls_tree "ExtensionType" v.0

abbrev pub KeyPackageSays : KeyPackage → Direction → List ℕ → Type 0
KeyPackageSays v = says mls_tree "KeyPackage" Empty (called "version" (protocol_version_plain v.version) ∷
    called "cipher_suite" (cipher_suite_plain v.cipher_suite) ∷
    called "init_key" (number_trees (bytes_of v.init_key)) ∷
    called "leaf_node" (leaf_node_plain v.leaf_node) ∷
    called "extensions" (trees extension_plain v.extensions.items) ∷
    called "signature" (number_trees (bytes_of v.signature)) ∷
    [])

abbrev pub KeyPackageTBSSays : KeyPackageTBS → Direction → List ℕ → Type 0
KeyPackageTBSSays v = says mls_tree "KeyPackageTBS" Empty (called "version" (protocol_version_plain v.version.now) ∷
    called "cipher_suite" (cipher_suite_plain v.cipher_suite.now) ∷
    called "init_key" (number_trees (bytes_of v.init_key.now)) ∷
    called "leaf_node" (leaf_node_plain v.leaf_node.now) ∷
    called "extensions" (trees extension_plain v.extensions.now.items) ∷
    [])

abbrev pub LeafNodeSays : LeafNode → Direction → List ℕ → Type 0
LeafNodeSays v = says mls_tree "LeafNode" Empty (called "encryption_key" (number_trees (bytes_of v.encryption_key)) ∷
    called "signature_key" (number_trees (bytes_of v.signature_key)) ∷
    called "credential" (credential_plain v.credential) ∷
    called "capabilities" (capabilities_plain v.capabilities) ∷
    called "leaf_node_source" (leaf_node_origin_plain v.leaf_node_source) ∷
    called "extensions" (trees extension_plain v.extensions.items) ∷
    called "signature" (number_trees (bytes_of v.signature)) ∷
    [])

abbrev pub LeafNodeHashInputSays : LeafNodeHashInput → Direction → List ℕ → Type 0
LeafNodeHashInputSays v = says mls_tree "LeafNodeHashInput" Empty (called "leaf_index" (Number v.leaf_index) ∷
    called "leaf_node" (option_plain leaf_node_plain v.leaf_node) ∷
    [])

abbrev pub LeafNodeOriginSays : LeafNodeOrigin → Direction → List ℕ → Type 0
LeafNodeOriginSays (LeafNodeOriginKeyPackage a0) = case_says mls_tree "LeafNode" "leaf_node_source" (word "key_package") Empty (called "lifetime" (lifetime_plain a0) ∷
    [])
LeafNodeOriginSays LeafNodeOriginUpdate = case_says mls_tree "LeafNode" "leaf_node_source" (word "update") Empty []
LeafNodeOriginSays (LeafNodeOriginCommit a0) = case_says mls_tree "LeafNode" "leaf_node_source" (word "commit") Empty (called "parent_hash" (number_trees (bytes_of a0)) ∷
    [])

abbrev pub LeafNodeTBSSays : LeafNodeTBS → Direction → List ℕ → Type 0
LeafNodeTBSSays v = says mls_tree "LeafNodeTBS" Empty (called "encryption_key" (number_trees (bytes_of v.encryption_key.now)) ∷
    called "signature_key" (number_trees (bytes_of v.signature_key.now)) ∷
    called "credential" (credential_plain v.credential.now) ∷
    called "capabilities" (capabilities_plain v.capabilities.now) ∷
    called "leaf_node_source" (leaf_node_tbs_origin_plain v.leaf_node_source) ∷
    [])

abbrev pub LeafNodeTBSOriginSays : LeafNodeTBSOrigin → Direction → List ℕ → Type 0
LeafNodeTBSOriginSays (LeafNodeTBSOriginKeyPackage a0 a1) = case_says mls_tree "LeafNodeTBS" "leaf_node_source" (word "key_package") Empty (called "lifetime" (lifetime_plain a0.now) ∷
    called "extensions" (trees extension_plain a1.now.items) ∷
    [])
LeafNodeTBSOriginSays (LeafNodeTBSOriginUpdate a0 a1 a2) = case_says mls_tree "LeafNodeTBS" "leaf_node_source" (word "update") Empty (called "extensions" (trees extension_plain a0.now.items) ∷
    called "group_id" (number_trees (bytes_of a1.now)) ∷
    called "leaf_index" (Number a2.now) ∷
    [])
LeafNodeTBSOriginSays (LeafNodeTBSOriginCommit a0 a1 a2 a3) = case_says mls_tree "LeafNodeTBS" "leaf_node_source" (word "commit") Empty (called "parent_hash" (number_trees (bytes_of a0.now)) ∷
    called "extensions" (trees extension_plain a1.now.items) ∷
    called "group_id" (number_trees (bytes_of a2.now)) ∷
    called "leaf_index" (Number a3.now) ∷
    [])

abbrev pub LifetimeSays : Lifetime → Direction → List ℕ → Type 0
LifetimeSays v = says mls_tree "Lifetime" Empty (called "not_before" (Number v.not_before) ∷
    called "not_after" (Number v.not_after) ∷
    [])

abbrev pub NodeSays : Node → Direction → List ℕ → Type 0
NodeSays (NodeLeaf a0) = case_says mls_tree "Node" "node_type" (word "leaf") Empty (called "leaf_node" (leaf_node_plain a0) ∷
    [])
NodeSays (NodeParent a0) = case_says mls_tree "Node" "node_type" (word "parent") Empty (called "parent_node" (parent_node_plain a0) ∷
    [])

abbrev pub ParentHashInputSays : ParentHashInput → Direction → List ℕ → Type 0
ParentHashInputSays v = says mls_tree "ParentHashInput" Empty (called "encryption_key" (number_trees (bytes_of v.encryption_key.now)) ∷
    called "parent_hash" (number_trees (bytes_of v.parent_hash.now)) ∷
    called "original_sibling_tree_hash" (number_trees (bytes_of v.original_sibling_tree_hash.now)) ∷
    [])

abbrev pub ParentNodeSays : ParentNode → Direction → List ℕ → Type 0
ParentNodeSays v = says mls_tree "ParentNode" Empty (called "encryption_key" (number_trees (bytes_of v.encryption_key)) ∷
    called "parent_hash" (number_trees (bytes_of v.parent_hash)) ∷
    called "unmerged_leaves" (trees Number v.unmerged_leaves.items) ∷
    [])

abbrev pub ParentNodeHashInputSays : ParentNodeHashInput → Direction → List ℕ → Type 0
ParentNodeHashInputSays v = says mls_tree "ParentNodeHashInput" Empty (called "parent_node" (option_plain parent_node_plain v.parent_node) ∷
    called "left_hash" (number_trees (bytes_of v.left_hash)) ∷
    called "right_hash" (number_trees (bytes_of v.right_hash)) ∷
    [])

abbrev pub ProposalTypeSays : ProposalType → Direction → List ℕ → Type 0
ProposalTypeSays v = number_says mls_tree "ProposalType" v.0

abbrev pub ProtocolVersionSays : ProtocolVersion → Direction → List ℕ → Type 0
ProtocolVersionSays v = number_says mls_tree "ProtocolVersion" v.0

abbrev pub RatchetTreeSays : RatchetTree → Direction → List ℕ → Type 0
RatchetTreeSays v = says mls_tree "RatchetTree" Empty (called "ratchet_tree" (trees (option_plain node_plain) v.ratchet_tree.items) ∷
    [])

abbrev pub SignContentSays : SignContent → Direction → List ℕ → Type 0
SignContentSays v = says mls_tree "SignContent" Empty (called "label" (number_trees (bytes_of v.label.now)) ∷
    called "content" (number_trees (bytes_of v.content.now)) ∷
    [])

abbrev pub TreeHashInputSays : TreeHashInput → Direction → List ℕ → Type 0
TreeHashInputSays (TreeHashInputLeaf a0) = case_says mls_tree "TreeHashInput" "node_type" (word "leaf") Empty (called "leaf_node" (leaf_node_hash_input_plain a0) ∷
    [])
TreeHashInputSays (TreeHashInputParent a0) = case_says mls_tree "TreeHashInput" "node_type" (word "parent") Empty (called "parent_node" (parent_node_hash_input_plain a0) ∷
    [])
