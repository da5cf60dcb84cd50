-- SignContent: what it stands for, its format and its law.
use Rattle.tls_codec.specs.OwnMessages.{Tree, number_trees, Format, bytes_format, pair_tree, pair_format, MeetsLaws, bytes_meets, pair_meets}
use Rattle.tls_codec.specs.Contents.{bytes_of}
use Rattle.mls_tree.specs.declared.sign_content.SignContent.{SignContent}

abbrev pub sign_content_plain : SignContent → Tree
sign_content_plain v = pair_tree (number_trees (bytes_of v.label.now)) (number_trees (bytes_of v.content.now))

abbrev pub sign_content_format : Format
sign_content_format = pair_format bytes_format bytes_format

pub sign_content_meets : MeetsLaws sign_content_format
sign_content_meets = pair_meets bytes_meets bytes_meets
