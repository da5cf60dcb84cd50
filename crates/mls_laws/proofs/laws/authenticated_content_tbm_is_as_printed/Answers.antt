use Rattle.tls_presentation.specs.Meaning.{same_bytes}
use Rattle.mls.specs.AuthenticatedContentTBM.{authenticated_content_tbm_format}
use Rattle.mls_laws.proofs.Sayings.{authenticated_content_tbm_saying}
use Rattle.mls_laws.proofs.laws.authenticated_content_tbm_is_as_printed.Goals as goal

pub returns-clause-bytes : goal.returns-clause-bytes
returns-clause-bytes c = λ u. same_bytes authenticated_content_tbm_format

pub returns-clause-values : goal.returns-clause-values
returns-clause-values c = authenticated_content_tbm_saying
