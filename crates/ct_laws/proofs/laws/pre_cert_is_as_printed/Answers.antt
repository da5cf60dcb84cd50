use Rattle.tls_presentation.specs.Meaning.{same_bytes}
use Rattle.ct.specs.PreCert.{pre_cert_format}
use Rattle.ct_laws.proofs.Sayings.{pre_cert_saying}
use Rattle.ct_laws.proofs.laws.pre_cert_is_as_printed.Goals as goal

pub returns-clause-bytes : goal.returns-clause-bytes
returns-clause-bytes c = λ u. same_bytes pre_cert_format

pub returns-clause-values : goal.returns-clause-values
returns-clause-values c = pre_cert_saying
