use Rattle.tls_presentation.specs.Meaning.{same_bytes}
use Rattle.tls13.specs.SignatureSchemeList.{signature_scheme_list_format}
use Rattle.tls13_laws.proofs.Sayings.{signature_scheme_list_saying}
use Rattle.tls13_laws.proofs.laws_l_to_t.signature_scheme_list_is_as_printed.Goals as goal

pub returns-clause-bytes : goal.returns-clause-bytes
returns-clause-bytes c = λ u. same_bytes signature_scheme_list_format

pub returns-clause-values : goal.returns-clause-values
returns-clause-values c = signature_scheme_list_saying
