use Rattle.tls_presentation.specs.Meaning.{same_bytes}
use Rattle.messages_of_each_shape.specs.CertificateType.{certificate_type_format}
use Rattle.messages_of_each_shape_laws.proofs.Sayings.{certificate_type_saying, certificate_type_naming}
use Rattle.messages_of_each_shape_laws.proofs.laws_b_to_k.certificate_type_is_as_printed.Goals as goal

pub returns-clause-bytes : goal.returns-clause-bytes
returns-clause-bytes c = λ u. same_bytes certificate_type_format

pub returns-clause-values : goal.returns-clause-values
returns-clause-values c = certificate_type_saying

pub returns-clause-names : goal.returns-clause-names
returns-clause-names c = certificate_type_naming
