use Rattle.tls_presentation.specs.Meaning.{same_bytes}
use Rattle.tls13.specs.KeyUpdateRequest.{key_update_request_format}
use Rattle.tls13_laws.proofs.Sayings.{key_update_request_saying, key_update_request_naming}
use Rattle.tls13_laws.proofs.laws_a_to_k.key_update_request_is_as_printed.Goals as goal

pub returns-clause-bytes : goal.returns-clause-bytes
returns-clause-bytes c = λ u. same_bytes key_update_request_format

pub returns-clause-values : goal.returns-clause-values
returns-clause-values c = key_update_request_saying

pub returns-clause-names : goal.returns-clause-names
returns-clause-names c = key_update_request_naming
