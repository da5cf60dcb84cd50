-- ConfirmedTranscriptHashInput: what it stands for, its format and its law.
use Rattle.tls_codec.specs.OwnMessages.{Tree, number_trees, Format, bytes_format, triple_tree, triple_format, MeetsLaws, bytes_meets, triple_meets}
use Rattle.tls_codec.specs.Contents.{bytes_of}
use Rattle.mls.specs.WireFormat.{wire_format_plain, wire_format_format, wire_format_meets}
use Rattle.mls.specs.FramedContent.{framed_content_plain, framed_content_format, framed_content_meets}
use Rattle.mls.specs.declared.confirmed_transcript_hash_input.ConfirmedTranscriptHashInput.{ConfirmedTranscriptHashInput}

abbrev pub confirmed_transcript_hash_input_plain : ConfirmedTranscriptHashInput → Tree
confirmed_transcript_hash_input_plain v = triple_tree (wire_format_plain v.wire_format.now) (framed_content_plain v.content.now)
    (number_trees (bytes_of v.signature.now))

abbrev pub confirmed_transcript_hash_input_format : Format
confirmed_transcript_hash_input_format = triple_format wire_format_format framed_content_format bytes_format

pub confirmed_transcript_hash_input_meets : MeetsLaws confirmed_transcript_hash_input_format
confirmed_transcript_hash_input_meets = triple_meets wire_format_meets framed_content_meets bytes_meets
