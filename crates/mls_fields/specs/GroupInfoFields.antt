-- The fields of GroupInfo.
use Rattle.std.specs.Prelude.{ℕ, List}
use Rattle.tls_codec.specs.OwnMessages.{list_format, number_format}
use Rattle.tls_codec_outcome.specs.Fields.{IsContentFrom, IsFieldFrom, span_end}
use Rattle.tls_codec_grammar.specs.Field.{variable_field}
use Rattle.mls_tree.specs.Extension.{extension_format}
use Rattle.mls_group.specs.GroupContext.{group_context_format}
use Rattle.mls_fields.specs.declared.group_info.GroupInfoFields.{GroupInfoFields}

-- x begins with them, one after the other
pub record AreGroupInfoFields (x : List ℕ) (f : GroupInfoFields) : Type 0 where
  pub group_context : IsFieldFrom group_context_format x 0 f.group_context
  pub extensions : IsFieldFrom (list_format extension_format) x (span_end f.group_context) f.extensions
  pub confirmation_tag : IsContentFrom variable_field x (span_end f.extensions) f.confirmation_tag
  pub signer : IsFieldFrom (number_format 4) x (span_end f.confirmation_tag) f.signer
  pub signature : IsContentFrom variable_field x (span_end f.signer) f.signature
