use Rattle.tls_presentation.specs.Meaning.{same_bytes}
use Rattle.tls13.specs.KeyShareHelloRetryRequest.{key_share_hello_retry_request_format}
use Rattle.tls13_laws.proofs.Sayings.{key_share_hello_retry_request_saying}
use Rattle.tls13_laws.proofs.laws_a_to_k.key_share_hello_retry_request_is_as_printed.Goals as goal

pub returns-clause-bytes : goal.returns-clause-bytes
returns-clause-bytes c = λ u. same_bytes key_share_hello_retry_request_format

pub returns-clause-values : goal.returns-clause-values
returns-clause-values c = key_share_hello_retry_request_saying
