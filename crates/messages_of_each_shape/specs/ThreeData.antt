-- ThreeData: what it stands for, its format and its law.
use Rattle.std.proofs.Common.{arith}
use Rattle.tls_codec.specs.OwnMessages.{Tree, trees, number_trees, Format, array_format, MeetsLaws, array_meets}
use Rattle.tls_codec.specs.Contents.{elements_of}
use Rattle.tls_codec_cases.specs.Exactly.{exactly_list_format, exactly_list_meets}
use Rattle.messages_of_each_shape.specs.declared.three_data.ThreeData.{ThreeData}

abbrev pub three_data_plain : ThreeData → Tree
three_data_plain v = trees number_trees (elements_of v.data_)

abbrev pub three_data_format : Format
three_data_format = exactly_list_format 9 (array_format 3)

pub three_data_meets : MeetsLaws three_data_format
three_data_meets = exactly_list_meets 9 (omega arith) (array_meets 3 (omega arith))
