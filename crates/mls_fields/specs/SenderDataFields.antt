-- The fields of SenderData.
use Rattle.std.specs.Prelude.{ℕ, List}
use Rattle.tls_codec.specs.OwnMessages.{array_format, number_format}
use Rattle.tls_codec_outcome.specs.Fields.{IsFieldFrom, span_end}
use Rattle.mls_fields.specs.declared.sender_data.SenderDataFields.{SenderDataFields}

-- x begins with them, one after the other
pub record AreSenderDataFields (x : List ℕ) (f : SenderDataFields) : Type 0 where
  pub leaf_index : IsFieldFrom (number_format 4) x 0 f.leaf_index
  pub generation : IsFieldFrom (number_format 4) x (span_end f.leaf_index) f.generation
  pub reuse_guard : IsFieldFrom (array_format 4) x (span_end f.generation) f.reuse_guard
