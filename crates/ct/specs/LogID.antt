-- LogID: what it stands for, its format and its law.
use Rattle.std.proofs.Common.{arith}
use Rattle.tls_codec.specs.OwnMessages.{Tree, number_trees, Format, array_format, MeetsLaws, array_meets}
use Rattle.ct.specs.declared.log_id.LogID.{LogID}

abbrev pub log_id_plain : LogID → Tree
log_id_plain v = number_trees v.key_id

abbrev pub log_id_format : Format
log_id_format = array_format 32

pub log_id_meets : MeetsLaws log_id_format
log_id_meets = array_meets 32 (omega arith)
