-- GroupContextExtensions: what it stands for, its format and its law.
use Rattle.tls_codec.specs.OwnMessages.{Tree, trees, Format, list_format, MeetsLaws, list_meets}
use Rattle.mls_tree.specs.Extension.{extension_plain, extension_format, extension_meets}
use Rattle.mls_group.specs.declared.group_context_extensions.GroupContextExtensions.{GroupContextExtensions}

abbrev pub group_context_extensions_plain : GroupContextExtensions → Tree
group_context_extensions_plain v = trees extension_plain v.extensions.items

abbrev pub group_context_extensions_format : Format
group_context_extensions_format = list_format extension_format

pub group_context_extensions_meets : MeetsLaws group_context_extensions_format
group_context_extensions_meets = list_meets extension_meets
