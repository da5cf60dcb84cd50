-- NodeTBS: what it stands for, its format and its law.
use Rattle.tls_codec.specs.OwnMessages.{Tree, number_trees, option_plain, Format, option_format, bytes_format, triple_tree, triple_format, MeetsLaws, option_meets, bytes_meets, triple_meets}
use Rattle.tls_codec.specs.Contents.{bytes_of}
use Rattle.messages_of_each_shape.specs.NodeTBSOrigin.{node_tbs_origin_plain, node_tbs_origin_format, node_tbs_origin_meets}
use Rattle.messages_of_each_shape.specs.declared.node_tbs.NodeTBS.{NodeTBS}

abbrev pub node_tbs_plain : NodeTBS → Tree
node_tbs_plain v = triple_tree (number_trees (bytes_of v.key.now)) (node_tbs_origin_plain v.node_source)
    (option_plain (λ v. number_trees (bytes_of v)) v.last.now)

abbrev pub node_tbs_format : Format
node_tbs_format = triple_format bytes_format node_tbs_origin_format (option_format bytes_format)

pub node_tbs_meets : MeetsLaws node_tbs_format
node_tbs_meets = triple_meets bytes_meets node_tbs_origin_meets (option_meets bytes_meets)
