-- The fields of PublicMessage.
use Rattle.std.specs.Prelude.{◌==◌, ℕ, List}
use Rattle.tls_codec.specs.OwnMessages.{bytes_format, present_format}
use Rattle.tls_codec_outcome.specs.Decided.{AreDecided}
use Rattle.mls.specs.FramedContent.{framed_content_content_type, framed_content_format, framed_content_sender_type}
use Rattle.mls.specs.FramedContentAuthData.{framed_content_auth_data_format_for}
use Rattle.mls.specs.SenderType.{sender_type_selected}
use Rattle.mls_fields.specs.declared.public_message.PublicMessageFields.{PublicMessageFields}

-- x begins with a content, and after it is what its type and its sender decide
pub record ArePublicMessageFields (x : List ℕ) (f : PublicMessageFields) : Type 0 where
  pub decided : AreDecided framed_content_format (λ c. framed_content_auth_data_format_for (framed_content_content_type c))
      (λ c. present_format (sender_type_selected (framed_content_sender_type c) == 1) bytes_format) x 0 f.content f.auth f.membership_tag
