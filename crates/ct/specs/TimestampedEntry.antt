-- TimestampedEntry: what it stands for, its format and its law.
use Rattle.tls_codec.specs.OwnMessages.{Tree, Number, number_trees, Format, number_format, fixed_bytes_format, triple_tree, triple_format, MeetsLaws, u64_meets, fixed_bytes_meets, triple_meets}
use Rattle.tls_codec.specs.Contents.{fixed_bytes_of}
use Rattle.ct.specs.TimestampedEntryLogEntryTypeData.{timestamped_entry_log_entry_type_data_plain, timestamped_entry_log_entry_type_data_format, timestamped_entry_log_entry_type_data_meets}
use Rattle.ct.specs.declared.timestamped_entry.TimestampedEntry.{TimestampedEntry}

abbrev pub timestamped_entry_plain : TimestampedEntry → Tree
timestamped_entry_plain v = triple_tree (Number v.timestamp) (timestamped_entry_log_entry_type_data_plain v.signed_entry)
    (number_trees (fixed_bytes_of v.extensions))

abbrev pub timestamped_entry_format : Format
timestamped_entry_format = triple_format (number_format 8) timestamped_entry_log_entry_type_data_format (fixed_bytes_format 2)

pub timestamped_entry_meets : MeetsLaws timestamped_entry_format
timestamped_entry_meets = triple_meets u64_meets timestamped_entry_log_entry_type_data_meets (fixed_bytes_meets 2)
