-- SenderData: what it stands for, its format and its law.
use Rattle.std.proofs.Common.{arith}
use Rattle.tls_codec.specs.OwnMessages.{Tree, Number, number_trees, Format, number_format, array_format, triple_tree, triple_format, MeetsLaws, u32_meets, array_meets, triple_meets}
use Rattle.mls.specs.declared.sender_data.SenderData.{SenderData}

abbrev pub sender_data_plain : SenderData → Tree
sender_data_plain v = triple_tree (Number v.leaf_index) (Number v.generation) (number_trees v.reuse_guard)

abbrev pub sender_data_format : Format
sender_data_format = triple_format (number_format 4) (number_format 4) (array_format 4)

pub sender_data_meets : MeetsLaws sender_data_format
sender_data_meets = triple_meets u32_meets u32_meets (array_meets 4 (omega arith))
