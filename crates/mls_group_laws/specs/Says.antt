-- What each type's values say: their parts by the names in the text.
use Rattle.std.specs.Prelude.{ℕ, List, [], ◌∷◌}
use Rattle.tls_codec_grammar.specs.Tree.{Number, Empty, trees, number_trees, option_plain}
use Rattle.tls_codec_grammar.specs.Grammar.{Direction}
use Rattle.tls_presentation.specs.Definition.{word}
use Rattle.mls_group_laws.specs.Definitions.{mls_group}
use Rattle.tls_presentation.specs.Says.{called, says, value_says, constant_says, case_says}
use Rattle.mls_tree.specs.CipherSuite.{cipher_suite_plain}
use Rattle.mls_tree.specs.Credential.{credential_plain}
use Rattle.mls_tree.specs.CredentialType.{credential_type_plain}
use Rattle.mls_tree.specs.Extension.{extension_plain}
use Rattle.mls_tree.specs.ExtensionType.{extension_type_plain}
use Rattle.mls_tree.specs.KeyPackage.{key_package_plain}
use Rattle.mls_tree.specs.LeafNode.{leaf_node_plain}
use Rattle.mls_tree.specs.ProposalType.{proposal_type_plain}
use Rattle.mls_tree.specs.ProtocolVersion.{protocol_version_plain}
use Rattle.mls_group.specs.Add.{add_plain}
use Rattle.mls_group.specs.EncryptedGroupSecrets.{encrypted_group_secrets_plain}
use Rattle.mls_group.specs.ExternalInit.{external_init_plain}
use Rattle.mls_group.specs.ExternalSender.{external_sender_plain}
use Rattle.mls_group.specs.GroupContext.{group_context_plain}
use Rattle.mls_group.specs.GroupContextExtensions.{group_context_extensions_plain}
use Rattle.mls_group.specs.HPKECiphertext.{hpke_ciphertext_plain}
use Rattle.mls_group.specs.PSKOrigin.{psk_origin_plain}
use Rattle.mls_group.specs.PathSecret.{path_secret_plain}
use Rattle.mls_group.specs.PreSharedKey.{pre_shared_key_plain}
use Rattle.mls_group.specs.PreSharedKeyID.{pre_shared_key_id_plain}
use Rattle.mls_group.specs.Proposal.{proposal_plain}
use Rattle.mls_group.specs.ProposalOrRef.{proposal_or_ref_plain}
use Rattle.mls_group.specs.ProtocolVersionMls10.{protocol_version_mls10_plain}
use Rattle.mls_group.specs.ReInit.{re_init_plain}
use Rattle.mls_group.specs.Remove.{remove_plain}
use Rattle.mls_group.specs.ResumptionPSKUsage.{resumption_psk_usage_plain}
use Rattle.mls_group.specs.Update.{update_plain}
use Rattle.mls_group.specs.UpdatePath.{update_path_plain}
use Rattle.mls_group.specs.UpdatePathNode.{update_path_node_plain}
use Rattle.tls_codec.specs.Contents.{bytes_of}
use Rattle.mls_group.specs.declared.add.Add.{Add}
use Rattle.mls_group.specs.declared.commit.Commit.{Commit}
use Rattle.mls_group.specs.declared.encrypted_group_secrets.EncryptedGroupSecrets.{EncryptedGroupSecrets}
use Rattle.mls_group.specs.declared.external_init.ExternalInit.{ExternalInit}
use Rattle.mls_group.specs.declared.external_pub.ExternalPub.{ExternalPub}
use Rattle.mls_group.specs.declared.external_sender.ExternalSender.{ExternalSender}
use Rattle.mls_group.specs.declared.external_senders.ExternalSenders.{ExternalSenders}
use Rattle.mls_group.specs.declared.group_context.GroupContext.{GroupContext}
use Rattle.mls_group.specs.declared.group_context_extensions.GroupContextExtensions.{GroupContextExtensions}
use Rattle.mls_group.specs.declared.group_info.GroupInfo.{GroupInfo}
use Rattle.mls_group.specs.declared.group_info_tbs.GroupInfoTBS.{GroupInfoTBS}
use Rattle.mls_group.specs.declared.group_secrets.GroupSecrets.{GroupSecrets}
use Rattle.mls_group.specs.declared.hpke_ciphertext.HPKECiphertext.{HPKECiphertext}
use Rattle.mls_group.specs.declared.kdf_label.KDFLabel.{KDFLabel}
use Rattle.mls_group.specs.declared.psk_label.PSKLabel.{PSKLabel}
use Rattle.mls_group.specs.declared.psk_origin.PSKOrigin.{PSKOrigin}
use Rattle.mls_group.specs.declared.path_secret.PathSecret.{PathSecret}
use Rattle.mls_group.specs.declared.pre_shared_key.PreSharedKey.{PreSharedKey}
use Rattle.mls_group.specs.declared.pre_shared_key_id.PreSharedKeyID.{PreSharedKeyID}
use Rattle.mls_group.specs.declared.proposal.Proposal.{Proposal}
use Rattle.mls_group.specs.declared.proposal_or_ref.ProposalOrRef.{ProposalOrRef}
use Rattle.mls_group.specs.declared.protocol_version_mls10.ProtocolVersionMls10.{ProtocolVersionMls10}
use Rattle.mls_group.specs.declared.re_init.ReInit.{ReInit}
use Rattle.mls_group.specs.declared.ref_hash_input.RefHashInput.{RefHashInput}
use Rattle.mls_group.specs.declared.remove.Remove.{Remove}
use Rattle.mls_group.specs.declared.required_capabilities.RequiredCapabilities.{RequiredCapabilities}
use Rattle.mls_group.specs.declared.resumption_psk_usage.ResumptionPSKUsage.{ResumptionPSKUsage}
use Rattle.mls_group.specs.declared.update.Update.{Update}
use Rattle.mls_group.specs.declared.update_path.UpdatePath.{UpdatePath}
use Rattle.mls_group.specs.declared.update_path_node.UpdatePathNode.{UpdatePathNode}
use Rattle.mls_group.specs.declared.welcome.Welcome.{Welcome}
use Rattle.mls_group.specs.declared.psk_origin.PSKOrigin.TheVariants.{External as PSKOriginExternal, Resumption as PSKOriginResumption}
use Rattle.mls_group.specs.declared.proposal.Proposal.TheVariants.{Add as ProposalAdd, Update as ProposalUpdate, Remove as ProposalRemove, Psk as ProposalPsk, Reinit as ProposalReinit, ExternalInit as ProposalExternalInit, GroupContextExtensions as ProposalGroupContextExtensions}
use Rattle.mls_group.specs.declared.proposal_or_ref.ProposalOrRef.TheVariants.{Proposal as ProposalOrRefProposal, Reference as ProposalOrRefReference}
use Rattle.mls_group.specs.declared.resumption_psk_usage.ResumptionPSKUsage.TheVariants.{Application as ResumptionPSKUsageApplication, Reinit as ResumptionPSKUsageReinit, Branch as ResumptionPSKUsageBranch}

abbrev pub AddSays : Add → Direction → List ℕ → Type 0
AddSays v = says mls_group "Add" Empty (called "key_package" (key_package_plain v.key_package) ∷
    [])

abbrev pub CommitSays : Commit → Direction → List ℕ → Type 0
CommitSays v = says mls_group "Commit" Empty (called "proposals" (trees proposal_or_ref_plain v.proposals.items) ∷
    called "path" (option_plain update_path_plain v.path) ∷
    [])

abbrev pub EncryptedGroupSecretsSays : EncryptedGroupSecrets → Direction → List ℕ → Type 0
EncryptedGroupSecretsSays v = says mls_group "EncryptedGroupSecrets" Empty (called "new_member" (number_trees (bytes_of v.new_member)) ∷
    called "encrypted_group_secrets" (hpke_ciphertext_plain v.encrypted_group_secrets) ∷
    [])

abbrev pub ExternalInitSays : ExternalInit → Direction → List ℕ → Type 0
ExternalInitSays v = says mls_group "ExternalInit" Empty (called "kem_output" (number_trees (bytes_of v.kem_output)) ∷
    [])

abbrev pub ExternalPubSays : ExternalPub → Direction → List ℕ → Type 0
ExternalPubSays v = says mls_group "ExternalPub" Empty (called "external_pub" (number_trees (bytes_of v.external_pub)) ∷
    [])

abbrev pub ExternalSenderSays : ExternalSender → Direction → List ℕ → Type 0
ExternalSenderSays v = says mls_group "ExternalSender" Empty (called "signature_key" (number_trees (bytes_of v.signature_key)) ∷
    called "credential" (credential_plain v.credential) ∷
    [])

abbrev pub ExternalSendersSays : ExternalSenders → Direction → List ℕ → Type 0
ExternalSendersSays v = says mls_group "ExternalSenders" Empty (called "external_senders" (trees external_sender_plain v.external_senders.items) ∷
    [])

abbrev pub GroupContextSays : GroupContext → Direction → List ℕ → Type 0
GroupContextSays v = says mls_group "GroupContext" Empty (called "version" (protocol_version_mls10_plain v.version) ∷
    called "cipher_suite" (cipher_suite_plain v.cipher_suite) ∷
    called "group_id" (number_trees (bytes_of v.group_id)) ∷
    called "epoch" (Number v.epoch) ∷
    called "tree_hash" (number_trees (bytes_of v.tree_hash)) ∷
    called "confirmed_transcript_hash" (number_trees (bytes_of v.confirmed_transcript_hash)) ∷
    called "extensions" (trees extension_plain v.extensions.items) ∷
    [])

abbrev pub GroupContextExtensionsSays : GroupContextExtensions → Direction → List ℕ → Type 0
GroupContextExtensionsSays v = says mls_group "GroupContextExtensions" Empty (called "extensions" (trees extension_plain v.extensions.items) ∷
    [])

abbrev pub GroupInfoSays : GroupInfo → Direction → List ℕ → Type 0
GroupInfoSays v = says mls_group "GroupInfo" Empty (called "group_context" (group_context_plain v.group_context) ∷
    called "extensions" (trees extension_plain v.extensions.items) ∷
    called "confirmation_tag" (number_trees (bytes_of v.confirmation_tag)) ∷
    called "signer" (Number v.signer) ∷
    called "signature" (number_trees (bytes_of v.signature)) ∷
    [])

abbrev pub GroupInfoTBSSays : GroupInfoTBS → Direction → List ℕ → Type 0
GroupInfoTBSSays v = says mls_group "GroupInfoTBS" Empty (called "group_context" (group_context_plain v.group_context.now) ∷
    called "extensions" (trees extension_plain v.extensions.now.items) ∷
    called "confirmation_tag" (number_trees (bytes_of v.confirmation_tag.now)) ∷
    called "signer" (Number v.signer.now) ∷
    [])

abbrev pub GroupSecretsSays : GroupSecrets → Direction → List ℕ → Type 0
GroupSecretsSays v = says mls_group "GroupSecrets" Empty (called "joiner_secret" (number_trees (bytes_of v.joiner_secret)) ∷
    called "path_secret" (option_plain path_secret_plain v.path_secret) ∷
    called "psks" (trees pre_shared_key_id_plain v.psks.items) ∷
    [])

abbrev pub HPKECiphertextSays : HPKECiphertext → Direction → List ℕ → Type 0
HPKECiphertextSays v = says mls_group "HPKECiphertext" Empty (called "kem_output" (number_trees (bytes_of v.kem_output)) ∷
    called "ciphertext" (number_trees (bytes_of v.ciphertext)) ∷
    [])

abbrev pub KDFLabelSays : KDFLabel → Direction → List ℕ → Type 0
KDFLabelSays v = says mls_group "KDFLabel" Empty (called "length" (Number v.length.now) ∷
    called "label" (number_trees (bytes_of v.label.now)) ∷
    called "context" (number_trees (bytes_of v.context.now)) ∷
    [])

abbrev pub PSKLabelSays : PSKLabel → Direction → List ℕ → Type 0
PSKLabelSays v = says mls_group "PSKLabel" Empty (called "id" (pre_shared_key_id_plain v.id.now) ∷
    called "index" (Number v.index.now) ∷
    called "count" (Number v.count.now) ∷
    [])

abbrev pub PSKOriginSays : PSKOrigin → Direction → List ℕ → Type 0
PSKOriginSays (PSKOriginExternal a0) = case_says mls_group "PreSharedKeyID" "psktype" (word "external") Empty (called "psk_id" (number_trees (bytes_of a0)) ∷
    [])
PSKOriginSays (PSKOriginResumption a0 a1 a2) = case_says mls_group "PreSharedKeyID" "psktype" (word "resumption") Empty (called "usage" (resumption_psk_usage_plain a0) ∷
    called "psk_group_id" (number_trees (bytes_of a1)) ∷
    called "psk_epoch" (Number a2) ∷
    [])

abbrev pub PathSecretSays : PathSecret → Direction → List ℕ → Type 0
PathSecretSays v = says mls_group "PathSecret" Empty (called "path_secret" (number_trees (bytes_of v.path_secret)) ∷
    [])

abbrev pub PreSharedKeySays : PreSharedKey → Direction → List ℕ → Type 0
PreSharedKeySays v = says mls_group "PreSharedKey" Empty (called "psk" (pre_shared_key_id_plain v.psk) ∷
    [])

abbrev pub PreSharedKeyIDSays : PreSharedKeyID → Direction → List ℕ → Type 0
PreSharedKeyIDSays v = says mls_group "PreSharedKeyID" Empty (called "psktype" (psk_origin_plain v.psktype) ∷
    called "psk_nonce" (number_trees (bytes_of v.psk_nonce)) ∷
    [])

abbrev pub ProposalSays : Proposal → Direction → List ℕ → Type 0
ProposalSays (ProposalAdd a0) = case_says mls_group "Proposal" "proposal_type" (word "add") Empty (called "add" (add_plain a0) ∷
    [])
ProposalSays (ProposalUpdate a0) = case_says mls_group "Proposal" "proposal_type" (word "update") Empty (called "update" (update_plain a0) ∷
    [])
ProposalSays (ProposalRemove a0) = case_says mls_group "Proposal" "proposal_type" (word "remove") Empty (called "remove" (remove_plain a0) ∷
    [])
ProposalSays (ProposalPsk a0) = case_says mls_group "Proposal" "proposal_type" (word "psk") Empty (called "psk" (pre_shared_key_plain a0) ∷
    [])
ProposalSays (ProposalReinit a0) = case_says mls_group "Proposal" "proposal_type" (word "reinit") Empty (called "reinit" (re_init_plain a0) ∷
    [])
ProposalSays (ProposalExternalInit a0) = case_says mls_group "Proposal" "proposal_type" (word "external_init") Empty (called "external_init" (external_init_plain a0) ∷
    [])
ProposalSays (ProposalGroupContextExtensions a0) = case_says mls_group "Proposal" "proposal_type" (word "group_context_extensions") Empty (called "group_context_extensions" (group_context_extensions_plain a0) ∷
    [])

abbrev pub ProposalOrRefSays : ProposalOrRef → Direction → List ℕ → Type 0
ProposalOrRefSays (ProposalOrRefProposal a0) = case_says mls_group "ProposalOrRef" "type" (word "proposal") Empty (called "proposal" (proposal_plain a0) ∷
    [])
ProposalOrRefSays (ProposalOrRefReference a0) = case_says mls_group "ProposalOrRef" "type" (word "reference") Empty (called "reference" (number_trees (bytes_of a0)) ∷
    [])

abbrev pub ProtocolVersionMls10Says : ProtocolVersionMls10 → Direction → List ℕ → Type 0
ProtocolVersionMls10Says v = constant_says mls_group "GroupContext" "version"

abbrev pub ReInitSays : ReInit → Direction → List ℕ → Type 0
ReInitSays v = says mls_group "ReInit" Empty (called "group_id" (number_trees (bytes_of v.group_id)) ∷
    called "version" (protocol_version_plain v.version) ∷
    called "cipher_suite" (cipher_suite_plain v.cipher_suite) ∷
    called "extensions" (trees extension_plain v.extensions.items) ∷
    [])

abbrev pub RefHashInputSays : RefHashInput → Direction → List ℕ → Type 0
RefHashInputSays v = says mls_group "RefHashInput" Empty (called "label" (number_trees (bytes_of v.label.now)) ∷
    called "value" (number_trees (bytes_of v.value.now)) ∷
    [])

abbrev pub RemoveSays : Remove → Direction → List ℕ → Type 0
RemoveSays v = says mls_group "Remove" Empty (called "removed" (Number v.removed) ∷
    [])

abbrev pub RequiredCapabilitiesSays : RequiredCapabilities → Direction → List ℕ → Type 0
RequiredCapabilitiesSays v = says mls_group "RequiredCapabilities" Empty (called "extension_types" (trees extension_type_plain v.extension_types.items) ∷
    called "proposal_types" (trees proposal_type_plain v.proposal_types.items) ∷
    called "credential_types" (trees credential_type_plain v.credential_types.items) ∷
    [])

abbrev pub ResumptionPSKUsageSays : ResumptionPSKUsage → Direction → List ℕ → Type 0
ResumptionPSKUsageSays ResumptionPSKUsageApplication = value_says mls_group "ResumptionPSKUsage" "application"
ResumptionPSKUsageSays ResumptionPSKUsageReinit = value_says mls_group "ResumptionPSKUsage" "reinit"
ResumptionPSKUsageSays ResumptionPSKUsageBranch = value_says mls_group "ResumptionPSKUsage" "branch"

abbrev pub UpdateSays : Update → Direction → List ℕ → Type 0
UpdateSays v = says mls_group "Update" Empty (called "leaf_node" (leaf_node_plain v.leaf_node) ∷
    [])

abbrev pub UpdatePathSays : UpdatePath → Direction → List ℕ → Type 0
UpdatePathSays v = says mls_group "UpdatePath" Empty (called "leaf_node" (leaf_node_plain v.leaf_node) ∷
    called "nodes" (trees update_path_node_plain v.nodes.items) ∷
    [])

abbrev pub UpdatePathNodeSays : UpdatePathNode → Direction → List ℕ → Type 0
UpdatePathNodeSays v = says mls_group "UpdatePathNode" Empty (called "encryption_key" (number_trees (bytes_of v.encryption_key)) ∷
    called "encrypted_path_secret" (trees hpke_ciphertext_plain v.encrypted_path_secret.items) ∷
    [])

abbrev pub WelcomeSays : Welcome → Direction → List ℕ → Type 0
WelcomeSays v = says mls_group "Welcome" Empty (called "cipher_suite" (cipher_suite_plain v.cipher_suite) ∷
    called "secrets" (trees encrypted_group_secrets_plain v.secrets.items) ∷
    called "encrypted_group_info" (number_trees (bytes_of v.encrypted_group_info)) ∷
    [])
