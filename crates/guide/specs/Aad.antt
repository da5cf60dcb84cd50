-- What the message of four fields stands for, a pair of pairs; its bytes are those of the fields in a row.
use Rattle.tls_codec.specs.OwnMessages.{Tree, Number, number_trees, pair_tree, Format, number_format, pair_format, bytes_format, MeetsLaws, u8_meets, u64_meets, pair_meets, bytes_meets}
use Rattle.tls_codec.specs.Contents.{bytes_of}
use Rattle.guide.specs.declared.aad.PrivateContentAad.{PrivateContentAad}

abbrev pub aad_plain : PrivateContentAad → Tree
aad_plain aad =
    pair_tree
    (pair_tree (number_trees (bytes_of aad.group_id)) (Number aad.epoch))
    (pair_tree (Number aad.content_type) (number_trees (bytes_of aad.authenticated_data)))

abbrev pub aad_format : Format
aad_format = pair_format (pair_format bytes_format (number_format 8)) (pair_format (number_format 1) bytes_format)

pub aad_meets : MeetsLaws aad_format
aad_meets = pair_meets (pair_meets bytes_meets u64_meets) (pair_meets u8_meets bytes_meets)
