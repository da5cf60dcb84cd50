-- NamedGroupList: what it stands for, its format and its law.
use Rattle.std.proofs.Common.{arith}
use Rattle.tls_codec.specs.OwnMessages.{Tree, trees, Format, bounded_list_format, MeetsLaws, bounded_list_meets}
use Rattle.tls_codec.specs.Contents.{elements_of}
use Rattle.tls13.specs.NamedGroup.{named_group_plain, named_group_format, named_group_meets}
use Rattle.tls13.specs.declared.named_group_list.NamedGroupList.{NamedGroupList}

abbrev pub named_group_list_plain : NamedGroupList → Tree
named_group_list_plain v = trees named_group_plain (elements_of v.named_group_list)

abbrev pub named_group_list_format : Format
named_group_list_format = bounded_list_format 2 2 65535 named_group_format

pub named_group_list_meets : MeetsLaws named_group_list_format
named_group_list_meets = bounded_list_meets 2 2 65535 (omega arith) named_group_meets
