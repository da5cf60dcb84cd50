-- Why each value says so.
use Rattle.std.specs.Prelude.{ℕ, List, [], ◌∷◌}
use Rattle.tls_codec_grammar.specs.Tree.{Number, Empty, trees, number_trees, option_plain}
use Rattle.tls_codec_grammar.specs.Grammar.{Direction}
use Rattle.tls_presentation.specs.Definition.{word}
use Rattle.mls_group_laws.specs.Definitions.{mls_group}
use Rattle.std.proofs.Common.{◌≡◌, refl}
use Rattle.tls_presentation.specs.Says.{value_number}
use Rattle.std.specs.Prelude.{◌↔◌}
use Rattle.tls_presentation.specs.Says.{called}
use Rattle.tls_presentation.proofs.Flat.{same_iff}
use Rattle.tls_presentation.proofs.Saying.{struct_saying, borrowed_saying, case_saying}
use Rattle.mls_tree.specs.CipherSuite.{cipher_suite_plain}
use Rattle.mls_tree.specs.Credential.{credential_plain}
use Rattle.mls_tree.specs.CredentialType.{credential_type_plain}
use Rattle.mls_tree.specs.Extension.{extension_plain}
use Rattle.mls_tree.specs.ExtensionType.{extension_type_plain}
use Rattle.mls_tree.specs.KeyPackage.{key_package_plain}
use Rattle.mls_tree.specs.LeafNode.{leaf_node_plain}
use Rattle.mls_tree.specs.ProposalType.{proposal_type_plain}
use Rattle.mls_tree.specs.ProtocolVersion.{protocol_version_plain}
use Rattle.mls_group.specs.Add.{add_format, add_plain}
use Rattle.mls_group.specs.Commit.{commit_format, commit_plain}
use Rattle.mls_group.specs.EncryptedGroupSecrets.{encrypted_group_secrets_format, encrypted_group_secrets_plain}
use Rattle.mls_group.specs.ExternalInit.{external_init_format, external_init_plain}
use Rattle.mls_group.specs.ExternalPub.{external_pub_format, external_pub_plain}
use Rattle.mls_group.specs.ExternalSender.{external_sender_format, external_sender_plain}
use Rattle.mls_group.specs.ExternalSenders.{external_senders_format, external_senders_plain}
use Rattle.mls_group.specs.GroupContext.{group_context_format, group_context_plain}
use Rattle.mls_group.specs.GroupContextExtensions.{group_context_extensions_format, group_context_extensions_plain}
use Rattle.mls_group.specs.GroupInfo.{group_info_format, group_info_plain}
use Rattle.mls_group.specs.GroupInfoTBS.{group_info_tbs_format, group_info_tbs_plain}
use Rattle.mls_group.specs.GroupSecrets.{group_secrets_format, group_secrets_plain}
use Rattle.mls_group.specs.HPKECiphertext.{hpke_ciphertext_format, hpke_ciphertext_plain}
use Rattle.mls_group.specs.KDFLabel.{kdf_label_format, kdf_label_plain}
use Rattle.mls_group.specs.PSKLabel.{psk_label_format, psk_label_plain}
use Rattle.mls_group.specs.PSKOrigin.{psk_origin_format, psk_origin_plain}
use Rattle.mls_group.specs.PathSecret.{path_secret_format, path_secret_plain}
use Rattle.mls_group.specs.PreSharedKey.{pre_shared_key_format, pre_shared_key_plain}
use Rattle.mls_group.specs.PreSharedKeyID.{pre_shared_key_id_format, pre_shared_key_id_plain}
use Rattle.mls_group.specs.Proposal.{proposal_format, proposal_plain}
use Rattle.mls_group.specs.ProposalOrRef.{proposal_or_ref_format, proposal_or_ref_plain}
use Rattle.mls_group.specs.ProtocolVersionMls10.{protocol_version_mls10_format, protocol_version_mls10_plain}
use Rattle.mls_group.specs.ReInit.{re_init_format, re_init_plain}
use Rattle.mls_group.specs.RefHashInput.{ref_hash_input_format, ref_hash_input_plain}
use Rattle.mls_group.specs.Remove.{remove_format, remove_plain}
use Rattle.mls_group.specs.RequiredCapabilities.{required_capabilities_format, required_capabilities_plain}
use Rattle.mls_group.specs.ResumptionPSKUsage.{resumption_psk_usage_code, resumption_psk_usage_format, resumption_psk_usage_name, resumption_psk_usage_plain}
use Rattle.mls_group.specs.Update.{update_format, update_plain}
use Rattle.mls_group.specs.UpdatePath.{update_path_format, update_path_plain}
use Rattle.mls_group.specs.UpdatePathNode.{update_path_node_format, update_path_node_plain}
use Rattle.mls_group.specs.Welcome.{welcome_format, welcome_plain}
use Rattle.tls_codec.specs.Contents.{bytes_of}
use Rattle.mls_group.specs.declared.add.Add.{Add}
use Rattle.mls_group.specs.declared.commit.Commit.{Commit}
use Rattle.mls_group.specs.declared.encrypted_group_secrets.EncryptedGroupSecrets.{EncryptedGroupSecrets}
use Rattle.mls_group.specs.declared.external_init.ExternalInit.{ExternalInit}
use Rattle.mls_group.specs.declared.external_pub.ExternalPub.{ExternalPub}
use Rattle.mls_group.specs.declared.external_sender.ExternalSender.{ExternalSender}
use Rattle.mls_group.specs.declared.external_senders.ExternalSenders.{ExternalSenders}
use Rattle.mls_group.specs.declared.group_context.GroupContext.{GroupContext}
use Rattle.mls_group.specs.declared.group_context_extensions.GroupContextExtensions.{GroupContextExtensions}
use Rattle.mls_group.specs.declared.group_info.GroupInfo.{GroupInfo}
use Rattle.mls_group.specs.declared.group_info_tbs.GroupInfoTBS.{GroupInfoTBS}
use Rattle.mls_group.specs.declared.group_secrets.GroupSecrets.{GroupSecrets}
use Rattle.mls_group.specs.declared.hpke_ciphertext.HPKECiphertext.{HPKECiphertext}
use Rattle.mls_group.specs.declared.kdf_label.KDFLabel.{KDFLabel}
use Rattle.mls_group.specs.declared.psk_label.PSKLabel.{PSKLabel}
use Rattle.mls_group.specs.declared.psk_origin.PSKOrigin.{PSKOrigin}
use Rattle.mls_group.specs.declared.path_secret.PathSecret.{PathSecret}
use Rattle.mls_group.specs.declared.pre_shared_key.PreSharedKey.{PreSharedKey}
use Rattle.mls_group.specs.declared.pre_shared_key_id.PreSharedKeyID.{PreSharedKeyID}
use Rattle.mls_group.specs.declared.proposal.Proposal.{Proposal}
use Rattle.mls_group.specs.declared.proposal_or_ref.ProposalOrRef.{ProposalOrRef}
use Rattle.mls_group.specs.declared.protocol_version_mls10.ProtocolVersionMls10.{ProtocolVersionMls10}
use Rattle.mls_group.specs.declared.re_init.ReInit.{ReInit}
use Rattle.mls_group.specs.declared.ref_hash_input.RefHashInput.{RefHashInput}
use Rattle.mls_group.specs.declared.remove.Remove.{Remove}
use Rattle.mls_group.specs.declared.required_capabilities.RequiredCapabilities.{RequiredCapabilities}
use Rattle.mls_group.specs.declared.resumption_psk_usage.ResumptionPSKUsage.{ResumptionPSKUsage}
use Rattle.mls_group.specs.declared.update.Update.{Update}
use Rattle.mls_group.specs.declared.update_path.UpdatePath.{UpdatePath}
use Rattle.mls_group.specs.declared.update_path_node.UpdatePathNode.{UpdatePathNode}
use Rattle.mls_group.specs.declared.welcome.Welcome.{Welcome}
use Rattle.mls_group.specs.declared.psk_origin.PSKOrigin.TheVariants.{External as PSKOriginExternal, Resumption as PSKOriginResumption}
use Rattle.mls_group.specs.declared.proposal.Proposal.TheVariants.{Add as ProposalAdd, Update as ProposalUpdate, Remove as ProposalRemove, Psk as ProposalPsk, Reinit as ProposalReinit, ExternalInit as ProposalExternalInit, GroupContextExtensions as ProposalGroupContextExtensions}
use Rattle.mls_group.specs.declared.proposal_or_ref.ProposalOrRef.TheVariants.{Proposal as ProposalOrRefProposal, Reference as ProposalOrRefReference}
use Rattle.mls_group.specs.declared.resumption_psk_usage.ResumptionPSKUsage.TheVariants.{Application as ResumptionPSKUsageApplication, Reinit as ResumptionPSKUsageReinit, Branch as ResumptionPSKUsageBranch}
use Rattle.mls_group_laws.specs.Says.{AddSays, CommitSays, EncryptedGroupSecretsSays, ExternalInitSays, ExternalPubSays, ExternalSenderSays, ExternalSendersSays, GroupContextSays, GroupContextExtensionsSays, GroupInfoSays, GroupInfoTBSSays, GroupSecretsSays, HPKECiphertextSays, KDFLabelSays, PSKLabelSays, PSKOriginSays, PathSecretSays, PreSharedKeySays, PreSharedKeyIDSays, ProposalSays, ProposalOrRefSays, ProtocolVersionMls10Says, ReInitSays, RefHashInputSays, RemoveSays, RequiredCapabilitiesSays, ResumptionPSKUsageSays, UpdateSays, UpdatePathSays, UpdatePathNodeSays, WelcomeSays}

pub add_saying : (v : Add) (d : Direction) (b : List ℕ) → add_format.spells d b (add_plain v) ↔ AddSays v d b
add_saying v d b = struct_saying mls_group "Add" Empty (called "key_package" (key_package_plain v.key_package) ∷
    []) d b

pub commit_saying : (v : Commit) (d : Direction) (b : List ℕ) → commit_format.spells d b (commit_plain v) ↔ CommitSays v d b
commit_saying v d b = struct_saying mls_group "Commit" Empty (called "proposals" (trees proposal_or_ref_plain v.proposals.items) ∷
    called "path" (option_plain update_path_plain v.path) ∷
    []) d b

pub encrypted_group_secrets_saying : (v : EncryptedGroupSecrets) (d : Direction) (b : List ℕ) → encrypted_group_secrets_format.spells d b (encrypted_group_secrets_plain v) ↔ EncryptedGroupSecretsSays v d b
encrypted_group_secrets_saying v d b = struct_saying mls_group "EncryptedGroupSecrets" Empty (called "new_member" (number_trees (bytes_of v.new_member)) ∷
    called "encrypted_group_secrets" (hpke_ciphertext_plain v.encrypted_group_secrets) ∷
    []) d b

pub external_init_saying : (v : ExternalInit) (d : Direction) (b : List ℕ) → external_init_format.spells d b (external_init_plain v) ↔ ExternalInitSays v d b
external_init_saying v d b = struct_saying mls_group "ExternalInit" Empty (called "kem_output" (number_trees (bytes_of v.kem_output)) ∷
    []) d b

pub external_pub_saying : (v : ExternalPub) (d : Direction) (b : List ℕ) → external_pub_format.spells d b (external_pub_plain v) ↔ ExternalPubSays v d b
external_pub_saying v d b = struct_saying mls_group "ExternalPub" Empty (called "external_pub" (number_trees (bytes_of v.external_pub)) ∷
    []) d b

pub external_sender_saying : (v : ExternalSender) (d : Direction) (b : List ℕ) → external_sender_format.spells d b (external_sender_plain v) ↔ ExternalSenderSays v d b
external_sender_saying v d b = struct_saying mls_group "ExternalSender" Empty (called "signature_key" (number_trees (bytes_of v.signature_key)) ∷
    called "credential" (credential_plain v.credential) ∷
    []) d b

pub external_senders_saying : (v : ExternalSenders) (d : Direction) (b : List ℕ) → external_senders_format.spells d b (external_senders_plain v) ↔ ExternalSendersSays v d b
external_senders_saying v d b = struct_saying mls_group "ExternalSenders" Empty (called "external_senders" (trees external_sender_plain v.external_senders.items) ∷
    []) d b

pub group_context_saying : (v : GroupContext) (d : Direction) (b : List ℕ) → group_context_format.spells d b (group_context_plain v) ↔ GroupContextSays v d b
group_context_saying v d b = struct_saying mls_group "GroupContext" Empty (called "version" (protocol_version_mls10_plain v.version) ∷
    called "cipher_suite" (cipher_suite_plain v.cipher_suite) ∷
    called "group_id" (number_trees (bytes_of v.group_id)) ∷
    called "epoch" (Number v.epoch) ∷
    called "tree_hash" (number_trees (bytes_of v.tree_hash)) ∷
    called "confirmed_transcript_hash" (number_trees (bytes_of v.confirmed_transcript_hash)) ∷
    called "extensions" (trees extension_plain v.extensions.items) ∷
    []) d b

pub group_context_extensions_saying : (v : GroupContextExtensions) (d : Direction) (b : List ℕ) → group_context_extensions_format.spells d b (group_context_extensions_plain v) ↔ GroupContextExtensionsSays v d b
group_context_extensions_saying v d b = struct_saying mls_group "GroupContextExtensions" Empty (called "extensions" (trees extension_plain v.extensions.items) ∷
    []) d b

pub group_info_saying : (v : GroupInfo) (d : Direction) (b : List ℕ) → group_info_format.spells d b (group_info_plain v) ↔ GroupInfoSays v d b
group_info_saying v d b = struct_saying mls_group "GroupInfo" Empty (called "group_context" (group_context_plain v.group_context) ∷
    called "extensions" (trees extension_plain v.extensions.items) ∷
    called "confirmation_tag" (number_trees (bytes_of v.confirmation_tag)) ∷
    called "signer" (Number v.signer) ∷
    called "signature" (number_trees (bytes_of v.signature)) ∷
    []) d b

pub group_info_tbs_saying : (v : GroupInfoTBS) (d : Direction) (b : List ℕ) → group_info_tbs_format.spells d b (group_info_tbs_plain v) ↔ GroupInfoTBSSays v d b
group_info_tbs_saying v d b = borrowed_saying mls_group "GroupInfoTBS" Empty (called "group_context" (group_context_plain v.group_context.now) ∷
    called "extensions" (trees extension_plain v.extensions.now.items) ∷
    called "confirmation_tag" (number_trees (bytes_of v.confirmation_tag.now)) ∷
    called "signer" (Number v.signer.now) ∷
    []) d b

pub group_secrets_saying : (v : GroupSecrets) (d : Direction) (b : List ℕ) → group_secrets_format.spells d b (group_secrets_plain v) ↔ GroupSecretsSays v d b
group_secrets_saying v d b = struct_saying mls_group "GroupSecrets" Empty (called "joiner_secret" (number_trees (bytes_of v.joiner_secret)) ∷
    called "path_secret" (option_plain path_secret_plain v.path_secret) ∷
    called "psks" (trees pre_shared_key_id_plain v.psks.items) ∷
    []) d b

pub hpke_ciphertext_saying : (v : HPKECiphertext) (d : Direction) (b : List ℕ) → hpke_ciphertext_format.spells d b (hpke_ciphertext_plain v) ↔ HPKECiphertextSays v d b
hpke_ciphertext_saying v d b = struct_saying mls_group "HPKECiphertext" Empty (called "kem_output" (number_trees (bytes_of v.kem_output)) ∷
    called "ciphertext" (number_trees (bytes_of v.ciphertext)) ∷
    []) d b

pub kdf_label_saying : (v : KDFLabel) (d : Direction) (b : List ℕ) → kdf_label_format.spells d b (kdf_label_plain v) ↔ KDFLabelSays v d b
kdf_label_saying v d b = borrowed_saying mls_group "KDFLabel" Empty (called "length" (Number v.length.now) ∷
    called "label" (number_trees (bytes_of v.label.now)) ∷
    called "context" (number_trees (bytes_of v.context.now)) ∷
    []) d b

pub psk_label_saying : (v : PSKLabel) (d : Direction) (b : List ℕ) → psk_label_format.spells d b (psk_label_plain v) ↔ PSKLabelSays v d b
psk_label_saying v d b = borrowed_saying mls_group "PSKLabel" Empty (called "id" (pre_shared_key_id_plain v.id.now) ∷
    called "index" (Number v.index.now) ∷
    called "count" (Number v.count.now) ∷
    []) d b

pub psk_origin_saying : (v : PSKOrigin) (d : Direction) (b : List ℕ) → psk_origin_format.spells d b (psk_origin_plain v) ↔ PSKOriginSays v d b
psk_origin_saying (PSKOriginExternal a0) d b = case_saying mls_group "PreSharedKeyID" "psktype" (word "external") Empty (called "psk_id" (number_trees (bytes_of a0)) ∷
    []) d b
psk_origin_saying (PSKOriginResumption a0 a1 a2) d b = case_saying mls_group "PreSharedKeyID" "psktype" (word "resumption") Empty (called "usage" (resumption_psk_usage_plain a0) ∷
    called "psk_group_id" (number_trees (bytes_of a1)) ∷
    called "psk_epoch" (Number a2) ∷
    []) d b

pub path_secret_saying : (v : PathSecret) (d : Direction) (b : List ℕ) → path_secret_format.spells d b (path_secret_plain v) ↔ PathSecretSays v d b
path_secret_saying v d b = struct_saying mls_group "PathSecret" Empty (called "path_secret" (number_trees (bytes_of v.path_secret)) ∷
    []) d b

pub pre_shared_key_saying : (v : PreSharedKey) (d : Direction) (b : List ℕ) → pre_shared_key_format.spells d b (pre_shared_key_plain v) ↔ PreSharedKeySays v d b
pre_shared_key_saying v d b = struct_saying mls_group "PreSharedKey" Empty (called "psk" (pre_shared_key_id_plain v.psk) ∷
    []) d b

pub pre_shared_key_id_saying : (v : PreSharedKeyID) (d : Direction) (b : List ℕ) → pre_shared_key_id_format.spells d b (pre_shared_key_id_plain v) ↔ PreSharedKeyIDSays v d b
pre_shared_key_id_saying v d b = struct_saying mls_group "PreSharedKeyID" Empty (called "psktype" (psk_origin_plain v.psktype) ∷
    called "psk_nonce" (number_trees (bytes_of v.psk_nonce)) ∷
    []) d b

pub proposal_saying : (v : Proposal) (d : Direction) (b : List ℕ) → proposal_format.spells d b (proposal_plain v) ↔ ProposalSays v d b
proposal_saying (ProposalAdd a0) d b = case_saying mls_group "Proposal" "proposal_type" (word "add") Empty (called "add" (add_plain a0) ∷
    []) d b
proposal_saying (ProposalUpdate a0) d b = case_saying mls_group "Proposal" "proposal_type" (word "update") Empty (called "update" (update_plain a0) ∷
    []) d b
proposal_saying (ProposalRemove a0) d b = case_saying mls_group "Proposal" "proposal_type" (word "remove") Empty (called "remove" (remove_plain a0) ∷
    []) d b
proposal_saying (ProposalPsk a0) d b = case_saying mls_group "Proposal" "proposal_type" (word "psk") Empty (called "psk" (pre_shared_key_plain a0) ∷
    []) d b
proposal_saying (ProposalReinit a0) d b = case_saying mls_group "Proposal" "proposal_type" (word "reinit") Empty (called "reinit" (re_init_plain a0) ∷
    []) d b
proposal_saying (ProposalExternalInit a0) d b = case_saying mls_group "Proposal" "proposal_type" (word "external_init") Empty (called "external_init" (external_init_plain a0) ∷
    []) d b
proposal_saying (ProposalGroupContextExtensions a0) d b = case_saying mls_group "Proposal" "proposal_type" (word "group_context_extensions") Empty (called "group_context_extensions" (group_context_extensions_plain a0) ∷
    []) d b

pub proposal_or_ref_saying : (v : ProposalOrRef) (d : Direction) (b : List ℕ) → proposal_or_ref_format.spells d b (proposal_or_ref_plain v) ↔ ProposalOrRefSays v d b
proposal_or_ref_saying (ProposalOrRefProposal a0) d b = case_saying mls_group "ProposalOrRef" "type" (word "proposal") Empty (called "proposal" (proposal_plain a0) ∷
    []) d b
proposal_or_ref_saying (ProposalOrRefReference a0) d b = case_saying mls_group "ProposalOrRef" "type" (word "reference") Empty (called "reference" (number_trees (bytes_of a0)) ∷
    []) d b

pub protocol_version_mls10_saying : (v : ProtocolVersionMls10) (d : Direction) (b : List ℕ) → protocol_version_mls10_format.spells d b (protocol_version_mls10_plain v) ↔ ProtocolVersionMls10Says v d b
protocol_version_mls10_saying v d b = same_iff

pub re_init_saying : (v : ReInit) (d : Direction) (b : List ℕ) → re_init_format.spells d b (re_init_plain v) ↔ ReInitSays v d b
re_init_saying v d b = struct_saying mls_group "ReInit" Empty (called "group_id" (number_trees (bytes_of v.group_id)) ∷
    called "version" (protocol_version_plain v.version) ∷
    called "cipher_suite" (cipher_suite_plain v.cipher_suite) ∷
    called "extensions" (trees extension_plain v.extensions.items) ∷
    []) d b

pub ref_hash_input_saying : (v : RefHashInput) (d : Direction) (b : List ℕ) → ref_hash_input_format.spells d b (ref_hash_input_plain v) ↔ RefHashInputSays v d b
ref_hash_input_saying v d b = borrowed_saying mls_group "RefHashInput" Empty (called "label" (number_trees (bytes_of v.label.now)) ∷
    called "value" (number_trees (bytes_of v.value.now)) ∷
    []) d b

pub remove_saying : (v : Remove) (d : Direction) (b : List ℕ) → remove_format.spells d b (remove_plain v) ↔ RemoveSays v d b
remove_saying v d b = struct_saying mls_group "Remove" Empty (called "removed" (Number v.removed) ∷
    []) d b

pub required_capabilities_saying : (v : RequiredCapabilities) (d : Direction) (b : List ℕ) → required_capabilities_format.spells d b (required_capabilities_plain v) ↔ RequiredCapabilitiesSays v d b
required_capabilities_saying v d b = struct_saying mls_group "RequiredCapabilities" Empty (called "extension_types" (trees extension_type_plain v.extension_types.items) ∷
    called "proposal_types" (trees proposal_type_plain v.proposal_types.items) ∷
    called "credential_types" (trees credential_type_plain v.credential_types.items) ∷
    []) d b

pub resumption_psk_usage_saying : (v : ResumptionPSKUsage) (d : Direction) (b : List ℕ) → resumption_psk_usage_format.spells d b (resumption_psk_usage_plain v) ↔ ResumptionPSKUsageSays v d b
resumption_psk_usage_saying ResumptionPSKUsageApplication d b = same_iff
resumption_psk_usage_saying ResumptionPSKUsageReinit d b = same_iff
resumption_psk_usage_saying ResumptionPSKUsageBranch d b = same_iff

pub resumption_psk_usage_naming : (v : ResumptionPSKUsage) → value_number mls_group "ResumptionPSKUsage" (resumption_psk_usage_name v) ≡ resumption_psk_usage_code v
resumption_psk_usage_naming ResumptionPSKUsageApplication = refl
resumption_psk_usage_naming ResumptionPSKUsageReinit = refl
resumption_psk_usage_naming ResumptionPSKUsageBranch = refl

pub update_saying : (v : Update) (d : Direction) (b : List ℕ) → update_format.spells d b (update_plain v) ↔ UpdateSays v d b
update_saying v d b = struct_saying mls_group "Update" Empty (called "leaf_node" (leaf_node_plain v.leaf_node) ∷
    []) d b

pub update_path_saying : (v : UpdatePath) (d : Direction) (b : List ℕ) → update_path_format.spells d b (update_path_plain v) ↔ UpdatePathSays v d b
update_path_saying v d b = struct_saying mls_group "UpdatePath" Empty (called "leaf_node" (leaf_node_plain v.leaf_node) ∷
    called "nodes" (trees update_path_node_plain v.nodes.items) ∷
    []) d b

pub update_path_node_saying : (v : UpdatePathNode) (d : Direction) (b : List ℕ) → update_path_node_format.spells d b (update_path_node_plain v) ↔ UpdatePathNodeSays v d b
update_path_node_saying v d b = struct_saying mls_group "UpdatePathNode" Empty (called "encryption_key" (number_trees (bytes_of v.encryption_key)) ∷
    called "encrypted_path_secret" (trees hpke_ciphertext_plain v.encrypted_path_secret.items) ∷
    []) d b

pub welcome_saying : (v : Welcome) (d : Direction) (b : List ℕ) → welcome_format.spells d b (welcome_plain v) ↔ WelcomeSays v d b
welcome_saying v d b = struct_saying mls_group "Welcome" Empty (called "cipher_suite" (cipher_suite_plain v.cipher_suite) ∷
    called "secrets" (trees encrypted_group_secrets_plain v.secrets.items) ∷
    called "encrypted_group_info" (number_trees (bytes_of v.encrypted_group_info)) ∷
    []) d b
