-- Point: what it stands for, its format and its law.
use Rattle.tls_codec.specs.OwnMessages.{Tree, number_trees, Format, bytes_format, triple_tree, triple_format, MeetsLaws, bytes_meets, triple_meets}
use Rattle.tls_codec.specs.Contents.{bytes_of}
use Rattle.messages_of_each_shape.specs.FormX04.{form_x04_plain, form_x04_format, form_x04_meets}
use Rattle.messages_of_each_shape.specs.declared.point.Point.{Point}

abbrev pub point_plain : Point → Tree
point_plain v = triple_tree (form_x04_plain v.form) (number_trees (bytes_of v.x)) (number_trees (bytes_of v.y))

abbrev pub point_format : Format
point_format = triple_format form_x04_format bytes_format bytes_format

pub point_meets : MeetsLaws point_format
point_meets = triple_meets form_x04_meets bytes_meets bytes_meets
