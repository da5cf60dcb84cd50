use Rattle.tls_presentation.specs.Meaning.{same_bytes}
use Rattle.mls.specs.FramedContentBody.{framed_content_body_format}
use Rattle.mls_laws.proofs.Sayings.{framed_content_body_saying}
use Rattle.mls_laws.proofs.laws.framed_content_body_is_as_printed.Goals as goal

pub returns-clause-bytes : goal.returns-clause-bytes
returns-clause-bytes c = λ u. same_bytes framed_content_body_format

pub returns-clause-values : goal.returns-clause-values
returns-clause-values c = framed_content_body_saying
