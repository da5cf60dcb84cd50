-- The fields of FramedContent.
use Rattle.std.specs.Prelude.{ℕ, List}
use Rattle.tls_codec.specs.OwnMessages.{number_format}
use Rattle.tls_codec_outcome.specs.Cases.{IsCaseFrom}
use Rattle.tls_codec_outcome.specs.Fields.{IsContentFrom, IsFieldFrom, span_end}
use Rattle.tls_codec_grammar.specs.Field.{variable_field}
use Rattle.mls.specs.Sender.{sender_format}
use Rattle.mls.specs.FramedContentBody.{framed_content_body_variants}
use Rattle.mls_fields.specs.declared.framed_content.FramedContentFields.{FramedContentFields}

-- x begins with them, one after the other; the tag of one byte decides what is after it
pub record AreFramedContentFields (x : List ℕ) (f : FramedContentFields) : Type 0 where
  pub group_id : IsContentFrom variable_field x 0 f.group_id
  pub epoch : IsFieldFrom (number_format 8) x (span_end f.group_id) f.epoch
  pub sender : IsFieldFrom sender_format x (span_end f.epoch) f.sender
  pub authenticated_data : IsContentFrom variable_field x (span_end f.sender) f.authenticated_data
  pub body : IsCaseFrom 1 framed_content_body_variants x (span_end f.authenticated_data)
      f.content_type f.body
