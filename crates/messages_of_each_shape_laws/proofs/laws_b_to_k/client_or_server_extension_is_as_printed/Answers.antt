use Rattle.tls_presentation.specs.Meaning.{same_bytes}
use Rattle.messages_of_each_shape.specs.ClientOrServerExtension.{client_or_server_extension_format}
use Rattle.messages_of_each_shape_laws.proofs.Sayings.{client_or_server_extension_saying, client_or_server_extension_naming}
use Rattle.messages_of_each_shape_laws.proofs.laws_b_to_k.client_or_server_extension_is_as_printed.Goals as goal

pub returns-clause-bytes : goal.returns-clause-bytes
returns-clause-bytes c = λ u. same_bytes client_or_server_extension_format

pub returns-clause-values : goal.returns-clause-values
returns-clause-values c = client_or_server_extension_saying

pub returns-clause-names : goal.returns-clause-names
returns-clause-names c = client_or_server_extension_naming
