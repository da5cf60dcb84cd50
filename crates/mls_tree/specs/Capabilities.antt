-- Capabilities: what it stands for, its format and its law.
use Rattle.tls_codec.specs.OwnMessages.{Tree, trees, Format, list_format, pair_tree, triple_tree, pair_format, triple_format, MeetsLaws, list_meets, pair_meets, triple_meets}
use Rattle.mls_tree.specs.ProtocolVersion.{protocol_version_plain, protocol_version_format, protocol_version_meets}
use Rattle.mls_tree.specs.CipherSuite.{cipher_suite_plain, cipher_suite_format, cipher_suite_meets}
use Rattle.mls_tree.specs.ExtensionType.{extension_type_plain, extension_type_format, extension_type_meets}
use Rattle.mls_tree.specs.ProposalType.{proposal_type_plain, proposal_type_format, proposal_type_meets}
use Rattle.mls_tree.specs.CredentialType.{credential_type_plain, credential_type_format, credential_type_meets}
use Rattle.mls_tree.specs.declared.capabilities.Capabilities.{Capabilities}

abbrev pub capabilities_plain : Capabilities → Tree
capabilities_plain v =
    pair_tree
    (triple_tree (trees protocol_version_plain v.versions.items) (trees cipher_suite_plain v.cipher_suites.items)
    (trees extension_type_plain v.extensions.items))
    (pair_tree (trees proposal_type_plain v.proposals.items) (trees credential_type_plain v.credentials.items))

abbrev pub capabilities_format : Format
capabilities_format =
    pair_format
    (triple_format (list_format protocol_version_format) (list_format cipher_suite_format) (list_format extension_type_format))
    (pair_format (list_format proposal_type_format) (list_format credential_type_format))

pub capabilities_meets : MeetsLaws capabilities_format
capabilities_meets =
    pair_meets
    (triple_meets (list_meets protocol_version_meets) (list_meets cipher_suite_meets) (list_meets extension_type_meets))
    (pair_meets (list_meets proposal_type_meets) (list_meets credential_type_meets))
