-- The types of MLS.
use Rattle.std.specs.Prelude.{List, [], ◌∷◌, codes}
use Rattle.mls.specs.AuthenticatedContent.{authenticated_content_format}
use Rattle.mls.specs.FramedContent.{framed_content_format}
use Rattle.mls.specs.MLSMessage.{mls_message_format}
use Rattle.mls.specs.PrivateMessage.{private_message_format}
use Rattle.mls.specs.PublicMessage.{public_message_format}
use Rattle.mls.specs.Sender.{sender_format}
use Rattle.mls.specs.SenderData.{sender_data_format}
use Rattle.mls_tree.specs.Capabilities.{capabilities_format}
use Rattle.mls_tree.specs.Certificate.{certificate_format}
use Rattle.mls_tree.specs.Credential.{credential_format}
use Rattle.mls_tree.specs.Extension.{extension_format}
use Rattle.mls_tree.specs.KeyPackage.{key_package_format}
use Rattle.mls_tree.specs.LeafNode.{leaf_node_format}
use Rattle.mls_tree.specs.LeafNodeHashInput.{leaf_node_hash_input_format}
use Rattle.mls_tree.specs.Lifetime.{lifetime_format}
use Rattle.mls_tree.specs.Node.{node_format}
use Rattle.mls_tree.specs.ParentNode.{parent_node_format}
use Rattle.mls_tree.specs.ParentNodeHashInput.{parent_node_hash_input_format}
use Rattle.mls_tree.specs.RatchetTree.{ratchet_tree_format}
use Rattle.mls_tree.specs.TreeHashInput.{tree_hash_input_format}
use Rattle.mls_group.specs.Add.{add_format}
use Rattle.mls_group.specs.Commit.{commit_format}
use Rattle.mls_group.specs.EncryptedGroupSecrets.{encrypted_group_secrets_format}
use Rattle.mls_group.specs.ExternalInit.{external_init_format}
use Rattle.mls_group.specs.ExternalPub.{external_pub_format}
use Rattle.mls_group.specs.ExternalSender.{external_sender_format}
use Rattle.mls_group.specs.ExternalSenders.{external_senders_format}
use Rattle.mls_group.specs.GroupContext.{group_context_format}
use Rattle.mls_group.specs.GroupContextExtensions.{group_context_extensions_format}
use Rattle.mls_group.specs.GroupInfo.{group_info_format}
use Rattle.mls_group.specs.GroupSecrets.{group_secrets_format}
use Rattle.mls_group.specs.HPKECiphertext.{hpke_ciphertext_format}
use Rattle.mls_group.specs.PathSecret.{path_secret_format}
use Rattle.mls_group.specs.PreSharedKey.{pre_shared_key_format}
use Rattle.mls_group.specs.PreSharedKeyID.{pre_shared_key_id_format}
use Rattle.mls_group.specs.Proposal.{proposal_format}
use Rattle.mls_group.specs.ProposalOrRef.{proposal_or_ref_format}
use Rattle.mls_group.specs.ReInit.{re_init_format}
use Rattle.mls_group.specs.Remove.{remove_format}
use Rattle.mls_group.specs.RequiredCapabilities.{required_capabilities_format}
use Rattle.mls_group.specs.Update.{update_format}
use Rattle.mls_group.specs.UpdatePath.{update_path_format}
use Rattle.mls_group.specs.UpdatePathNode.{update_path_node_format}
use Rattle.mls_group.specs.Welcome.{welcome_format}
use Rattle.tlsdump.specs.Kinds.{Kind, kind}

-- each type's name, and its format
abbrev pub mls_kinds : List Kind
mls_kinds =
    kind (codes "Add") add_format
    ∷ kind (codes "AuthenticatedContent") authenticated_content_format
    ∷ kind (codes "Capabilities") capabilities_format
    ∷ kind (codes "Certificate") certificate_format
    ∷ kind (codes "Commit") commit_format
    ∷ kind (codes "Credential") credential_format
    ∷ kind (codes "EncryptedGroupSecrets") encrypted_group_secrets_format
    ∷ kind (codes "Extension") extension_format
    ∷ kind (codes "ExternalInit") external_init_format
    ∷ kind (codes "ExternalPub") external_pub_format
    ∷ kind (codes "ExternalSender") external_sender_format
    ∷ kind (codes "ExternalSenders") external_senders_format
    ∷ kind (codes "FramedContent") framed_content_format
    ∷ kind (codes "GroupContext") group_context_format
    ∷ kind (codes "GroupContextExtensions") group_context_extensions_format
    ∷ kind (codes "GroupInfo") group_info_format
    ∷ kind (codes "GroupSecrets") group_secrets_format
    ∷ kind (codes "HPKECiphertext") hpke_ciphertext_format
    ∷ kind (codes "KeyPackage") key_package_format
    ∷ kind (codes "LeafNode") leaf_node_format
    ∷ kind (codes "LeafNodeHashInput") leaf_node_hash_input_format
    ∷ kind (codes "Lifetime") lifetime_format
    ∷ kind (codes "MLSMessage") mls_message_format
    ∷ kind (codes "Node") node_format
    ∷ kind (codes "ParentNode") parent_node_format
    ∷ kind (codes "ParentNodeHashInput") parent_node_hash_input_format
    ∷ kind (codes "PathSecret") path_secret_format
    ∷ kind (codes "PreSharedKey") pre_shared_key_format
    ∷ kind (codes "PreSharedKeyID") pre_shared_key_id_format
    ∷ kind (codes "PrivateMessage") private_message_format
    ∷ kind (codes "Proposal") proposal_format
    ∷ kind (codes "ProposalOrRef") proposal_or_ref_format
    ∷ kind (codes "PublicMessage") public_message_format
    ∷ kind (codes "RatchetTree") ratchet_tree_format
    ∷ kind (codes "ReInit") re_init_format
    ∷ kind (codes "Remove") remove_format
    ∷ kind (codes "RequiredCapabilities") required_capabilities_format
    ∷ kind (codes "Sender") sender_format
    ∷ kind (codes "SenderData") sender_data_format
    ∷ kind (codes "TreeHashInput") tree_hash_input_format
    ∷ kind (codes "Update") update_format
    ∷ kind (codes "UpdatePath") update_path_format
    ∷ kind (codes "UpdatePathNode") update_path_node_format
    ∷ kind (codes "Welcome") welcome_format
    ∷ []
