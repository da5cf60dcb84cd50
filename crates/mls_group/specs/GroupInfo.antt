-- GroupInfo: what it stands for, its format and its law.
use Rattle.tls_codec.specs.OwnMessages.{Tree, Number, trees, number_trees, Format, number_format, list_format, bytes_format, pair_tree, triple_tree, pair_format, triple_format, MeetsLaws, u32_meets, list_meets, bytes_meets, pair_meets, triple_meets}
use Rattle.tls_codec.specs.Contents.{bytes_of}
use Rattle.mls_group.specs.GroupContext.{group_context_plain, group_context_format, group_context_meets}
use Rattle.mls_tree.specs.Extension.{extension_plain, extension_format, extension_meets}
use Rattle.mls_group.specs.declared.group_info.GroupInfo.{GroupInfo}

abbrev pub group_info_plain : GroupInfo → Tree
group_info_plain v =
    pair_tree
    (triple_tree (group_context_plain v.group_context) (trees extension_plain v.extensions.items)
    (number_trees (bytes_of v.confirmation_tag)))
    (pair_tree (Number v.signer) (number_trees (bytes_of v.signature)))

abbrev pub group_info_format : Format
group_info_format =
    pair_format
    (triple_format group_context_format (list_format extension_format) bytes_format)
    (pair_format (number_format 4) bytes_format)

pub group_info_meets : MeetsLaws group_info_format
group_info_meets =
    pair_meets
    (triple_meets group_context_meets (list_meets extension_meets) bytes_meets)
    (pair_meets u32_meets bytes_meets)
