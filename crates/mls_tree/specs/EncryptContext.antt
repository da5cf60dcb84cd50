-- EncryptContext: what it stands for, its format and its law.
use Rattle.tls_codec.specs.OwnMessages.{Tree, number_trees, Format, bytes_format, pair_tree, pair_format, MeetsLaws, bytes_meets, pair_meets}
use Rattle.tls_codec.specs.Contents.{bytes_of}
use Rattle.mls_tree.specs.declared.encrypt_context.EncryptContext.{EncryptContext}

abbrev pub encrypt_context_plain : EncryptContext → Tree
encrypt_context_plain v = pair_tree (number_trees (bytes_of v.label.now)) (number_trees (bytes_of v.context.now))

abbrev pub encrypt_context_format : Format
encrypt_context_format = pair_format bytes_format bytes_format

pub encrypt_context_meets : MeetsLaws encrypt_context_format
encrypt_context_meets = pair_meets bytes_meets bytes_meets
