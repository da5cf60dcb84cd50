use Rattle.tls_presentation.specs.Meaning.{same_bytes}
use Rattle.mls.specs.InterimTranscriptHashInput.{interim_transcript_hash_input_format}
use Rattle.mls_laws.proofs.Sayings.{interim_transcript_hash_input_saying}
use Rattle.mls_laws.proofs.laws.interim_transcript_hash_input_is_as_printed.Goals as goal

pub returns-clause-bytes : goal.returns-clause-bytes
returns-clause-bytes c = λ u. same_bytes interim_transcript_hash_input_format

pub returns-clause-values : goal.returns-clause-values
returns-clause-values c = interim_transcript_hash_input_saying
