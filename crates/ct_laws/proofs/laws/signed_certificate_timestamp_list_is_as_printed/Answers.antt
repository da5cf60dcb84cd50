use Rattle.tls_presentation.specs.Meaning.{same_bytes}
use Rattle.ct.specs.SignedCertificateTimestampList.{signed_certificate_timestamp_list_format}
use Rattle.ct_laws.proofs.Sayings.{signed_certificate_timestamp_list_saying}
use Rattle.ct_laws.proofs.laws.signed_certificate_timestamp_list_is_as_printed.Goals as goal

pub returns-clause-bytes : goal.returns-clause-bytes
returns-clause-bytes c = λ u. same_bytes signed_certificate_timestamp_list_format

pub returns-clause-values : goal.returns-clause-values
returns-clause-values c = signed_certificate_timestamp_list_saying
