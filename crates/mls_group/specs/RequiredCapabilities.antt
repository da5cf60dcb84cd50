-- RequiredCapabilities: what it stands for, its format and its law.
use Rattle.tls_codec.specs.OwnMessages.{Tree, trees, Format, list_format, triple_tree, triple_format, MeetsLaws, list_meets, triple_meets}
use Rattle.mls_tree.specs.ExtensionType.{extension_type_plain, extension_type_format, extension_type_meets}
use Rattle.mls_tree.specs.ProposalType.{proposal_type_plain, proposal_type_format, proposal_type_meets}
use Rattle.mls_tree.specs.CredentialType.{credential_type_plain, credential_type_format, credential_type_meets}
use Rattle.mls_group.specs.declared.required_capabilities.RequiredCapabilities.{RequiredCapabilities}

abbrev pub required_capabilities_plain : RequiredCapabilities → Tree
required_capabilities_plain v = triple_tree (trees extension_type_plain v.extension_types.items)
    (trees proposal_type_plain v.proposal_types.items) (trees credential_type_plain v.credential_types.items)

abbrev pub required_capabilities_format : Format
required_capabilities_format = triple_format (list_format extension_type_format) (list_format proposal_type_format)
    (list_format credential_type_format)

pub required_capabilities_meets : MeetsLaws required_capabilities_format
required_capabilities_meets = triple_meets (list_meets extension_type_meets) (list_meets proposal_type_meets)
    (list_meets credential_type_meets)
