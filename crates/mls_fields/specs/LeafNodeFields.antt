-- The fields of LeafNode.
use Rattle.std.specs.Prelude.{ℕ, List}
use Rattle.tls_codec.specs.OwnMessages.{list_format}
use Rattle.tls_codec_outcome.specs.Cases.{IsCaseFrom}
use Rattle.tls_codec_outcome.specs.Fields.{IsContentFrom, IsFieldFrom, span_end}
use Rattle.tls_codec_grammar.specs.Field.{variable_field}
use Rattle.mls_tree.specs.Capabilities.{capabilities_format}
use Rattle.mls_tree.specs.Credential.{credential_format}
use Rattle.mls_tree.specs.Extension.{extension_format}
use Rattle.mls_tree.specs.LeafNodeOrigin.{leaf_node_origin_variants}
use Rattle.mls_fields.specs.declared.leaf_node.LeafNodeFields.{LeafNodeFields}

-- x begins with them, one after the other; the tag of one byte decides what is after it
pub record AreLeafNodeFields (x : List ℕ) (f : LeafNodeFields) : Type 0 where
  pub encryption_key : IsContentFrom variable_field x 0 f.encryption_key
  pub signature_key : IsContentFrom variable_field x (span_end f.encryption_key) f.signature_key
  pub credential : IsFieldFrom credential_format x (span_end f.signature_key) f.credential
  pub capabilities : IsFieldFrom capabilities_format x (span_end f.credential) f.capabilities
  pub origin : IsCaseFrom 1 leaf_node_origin_variants x (span_end f.capabilities)
      f.leaf_node_source f.origin
  pub extensions : IsFieldFrom (list_format extension_format) x (span_end f.origin) f.extensions
  pub signature : IsContentFrom variable_field x (span_end f.extensions) f.signature
