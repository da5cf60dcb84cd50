use Rattle.tls_presentation.specs.Meaning.{same_bytes}
use Rattle.tls13.specs.NewSessionTicket.{new_session_ticket_format}
use Rattle.tls13_laws.proofs.Sayings.{new_session_ticket_saying}
use Rattle.tls13_laws.proofs.laws_l_to_t.new_session_ticket_is_as_printed.Goals as goal

pub returns-clause-bytes : goal.returns-clause-bytes
returns-clause-bytes c = λ u. same_bytes new_session_ticket_format

pub returns-clause-values : goal.returns-clause-values
returns-clause-values c = new_session_ticket_saying
