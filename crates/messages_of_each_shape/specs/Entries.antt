-- Entries: what it stands for, its format and its law.
use Rattle.tls_codec.specs.OwnMessages.{Tree, Number, trees, Format, number_format, fixed_list_format, pair_tree, pair_format, EachMeetsLaws, u8_meets, fixed_list_meets, pair_meets}
use Rattle.tls_codec.specs.Contents.{elements_of}
use Rattle.messages_of_each_shape.specs.Entry.{entry_plain, entry_format_for, entry_meets_for}
use Rattle.messages_of_each_shape.specs.CertificateType.{certificate_type_selected}
use Rattle.messages_of_each_shape.specs.declared.entries.Entries.{Entries}

abbrev pub entries_plain : Entries → Tree
entries_plain v = pair_tree (Number v.count) (trees entry_plain (elements_of v.entries))

abbrev pub entries_format_for : Tree → Format
entries_format_for c = pair_format (number_format 1) (fixed_list_format 3 (entry_format_for c))

pub entries_meets_for : EachMeetsLaws entries_format_for
entries_meets_for c = pair_meets u8_meets (fixed_list_meets 3 (entry_meets_for c))
