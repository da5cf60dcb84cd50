-- Beat: what it stands for, its format and its law.
use Rattle.tls_codec.specs.OwnMessages.{Tree, number_trees, Format, fixed_bytes_format, pair_tree, pair_format, MeetsLaws, fixed_bytes_meets, pair_meets}
use Rattle.tls_codec.specs.Contents.{fixed_bytes_of}
use Rattle.messages_of_each_shape.specs.BodyKind.{body_kind_plain, body_kind_format, body_kind_meets}
use Rattle.messages_of_each_shape.specs.declared.beat.Beat.{Beat}

abbrev pub beat_plain : Beat → Tree
beat_plain v = pair_tree (body_kind_plain v.kind) (number_trees (fixed_bytes_of v.payload))

abbrev pub beat_format : Format
beat_format = pair_format body_kind_format (fixed_bytes_format 2)

pub beat_meets : MeetsLaws beat_format
beat_meets = pair_meets body_kind_meets (fixed_bytes_meets 2)
