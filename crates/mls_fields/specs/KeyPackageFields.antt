-- The fields of KeyPackage.
use Rattle.std.specs.Prelude.{ℕ, List}
use Rattle.tls_codec.specs.OwnMessages.{list_format}
use Rattle.tls_codec_outcome.specs.Fields.{IsContentFrom, IsFieldFrom, span_end}
use Rattle.tls_codec_grammar.specs.Field.{variable_field}
use Rattle.mls_tree.specs.ProtocolVersion.{protocol_version_format}
use Rattle.mls_tree.specs.CipherSuite.{cipher_suite_format}
use Rattle.mls_tree.specs.LeafNode.{leaf_node_format}
use Rattle.mls_tree.specs.Extension.{extension_format}
use Rattle.mls_fields.specs.declared.key_package.KeyPackageFields.{KeyPackageFields}

-- x begins with them, one after the other
pub record AreKeyPackageFields (x : List ℕ) (f : KeyPackageFields) : Type 0 where
  pub version : IsFieldFrom protocol_version_format x 0 f.version
  pub cipher_suite : IsFieldFrom cipher_suite_format x (span_end f.version) f.cipher_suite
  pub init_key : IsContentFrom variable_field x (span_end f.cipher_suite) f.init_key
  pub leaf_node : IsFieldFrom leaf_node_format x (span_end f.init_key) f.leaf_node
  pub extensions : IsFieldFrom (list_format extension_format) x (span_end f.leaf_node) f.extensions
  pub signature : IsContentFrom variable_field x (span_end f.extensions) f.signature
