-- InterimTranscriptHashInput: what it stands for, its format and its law.
use Rattle.tls_codec.specs.OwnMessages.{Tree, number_trees, Format, bytes_format, MeetsLaws, bytes_meets}
use Rattle.tls_codec.specs.Contents.{bytes_of}
use Rattle.mls.specs.declared.interim_transcript_hash_input.InterimTranscriptHashInput.{InterimTranscriptHashInput}

abbrev pub interim_transcript_hash_input_plain : InterimTranscriptHashInput → Tree
interim_transcript_hash_input_plain v = number_trees (bytes_of v.confirmation_tag.now)

abbrev pub interim_transcript_hash_input_format : Format
interim_transcript_hash_input_format = bytes_format

pub interim_transcript_hash_input_meets : MeetsLaws interim_transcript_hash_input_format
interim_transcript_hash_input_meets = bytes_meets
