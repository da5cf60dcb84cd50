-- GroupInfoTBS: what it stands for, its format and its law.
use Rattle.tls_codec.specs.OwnMessages.{Tree, Number, trees, number_trees, Format, number_format, list_format, bytes_format, pair_tree, pair_format, MeetsLaws, u32_meets, list_meets, bytes_meets, pair_meets}
use Rattle.tls_codec.specs.Contents.{bytes_of}
use Rattle.mls_group.specs.GroupContext.{group_context_plain, group_context_format, group_context_meets}
use Rattle.mls_tree.specs.Extension.{extension_plain, extension_format, extension_meets}
use Rattle.mls_group.specs.declared.group_info_tbs.GroupInfoTBS.{GroupInfoTBS}

abbrev pub group_info_tbs_plain : GroupInfoTBS → Tree
group_info_tbs_plain v =
    pair_tree
    (pair_tree (group_context_plain v.group_context.now) (trees extension_plain v.extensions.now.items))
    (pair_tree (number_trees (bytes_of v.confirmation_tag.now)) (Number v.signer.now))

abbrev pub group_info_tbs_format : Format
group_info_tbs_format =
    pair_format
    (pair_format group_context_format (list_format extension_format))
    (pair_format bytes_format (number_format 4))

pub group_info_tbs_meets : MeetsLaws group_info_tbs_format
group_info_tbs_meets =
    pair_meets
    (pair_meets group_context_meets (list_meets extension_meets))
    (pair_meets bytes_meets u32_meets)
