use Rattle.tls_presentation.specs.Meaning.{same_bytes}
use Rattle.tls13.specs.ServerHello.{server_hello_format}
use Rattle.tls13_laws.proofs.Sayings.{server_hello_saying}
use Rattle.tls13_laws.proofs.laws_l_to_t.server_hello_is_as_printed.Goals as goal

pub returns-clause-bytes : goal.returns-clause-bytes
returns-clause-bytes c = λ u. same_bytes server_hello_format

pub returns-clause-values : goal.returns-clause-values
returns-clause-values c = server_hello_saying
