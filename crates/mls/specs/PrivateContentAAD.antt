-- PrivateContentAAD: what it stands for, its format and its law.
use Rattle.tls_codec.specs.OwnMessages.{Tree, Number, number_trees, Format, number_format, bytes_format, pair_tree, pair_format, MeetsLaws, u64_meets, bytes_meets, pair_meets}
use Rattle.tls_codec.specs.Contents.{bytes_of}
use Rattle.mls.specs.ContentType.{content_type_plain, content_type_format, content_type_meets}
use Rattle.mls.specs.declared.private_content_aad.PrivateContentAAD.{PrivateContentAAD}

abbrev pub private_content_aad_plain : PrivateContentAAD → Tree
private_content_aad_plain v =
    pair_tree
    (pair_tree (number_trees (bytes_of v.group_id.now)) (Number v.epoch.now))
    (pair_tree (content_type_plain v.content_type.now) (number_trees (bytes_of v.authenticated_data.now)))

abbrev pub private_content_aad_format : Format
private_content_aad_format =
    pair_format
    (pair_format bytes_format (number_format 8))
    (pair_format content_type_format bytes_format)

pub private_content_aad_meets : MeetsLaws private_content_aad_format
private_content_aad_meets =
    pair_meets
    (pair_meets bytes_meets u64_meets)
    (pair_meets content_type_meets bytes_meets)
