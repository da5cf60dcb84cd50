-- EndOfEarlyData: what it stands for, its format and its law.
use Rattle.tls_codec.specs.OwnMessages.{Tree, Empty, Format, nothing_format, MeetsLaws, nothing_meets}
use Rattle.tls13.specs.declared.end_of_early_data.EndOfEarlyData.{EndOfEarlyData}

abbrev pub end_of_early_data_plain : EndOfEarlyData → Tree
end_of_early_data_plain v = Empty

abbrev pub end_of_early_data_format : Format
end_of_early_data_format = nothing_format

pub end_of_early_data_meets : MeetsLaws end_of_early_data_format
end_of_early_data_meets = nothing_meets
