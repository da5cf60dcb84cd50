-- The fields of NewSessionTicket.
use Rattle.std.specs.Prelude.{ℕ, List}
use Rattle.tls_codec.specs.OwnMessages.{number_format, bounded_list_format}
use Rattle.tls_codec_outcome.specs.Fields.{IsContentFrom, IsFieldFrom, span_end}
use Rattle.tls_codec_grammar.specs.Field.{bounded_field, fixed_field}
use Rattle.tls13.specs.Extension.{extension_format}
use Rattle.tls13_fields.specs.declared.new_session_ticket.NewSessionTicketFields.{NewSessionTicketFields}

-- x begins with them, one after the other
pub record AreNewSessionTicketFields (x : List ℕ) (f : NewSessionTicketFields) : Type 0 where
  pub ticket_lifetime : IsFieldFrom (number_format 4) x 0 f.ticket_lifetime
  pub ticket_age_add : IsFieldFrom (number_format 4) x (span_end f.ticket_lifetime) f.ticket_age_add
  pub ticket_nonce : IsContentFrom (fixed_field 1) x (span_end f.ticket_age_add) f.ticket_nonce
  pub ticket : IsContentFrom (bounded_field 1 65535 (fixed_field 2)) x (span_end f.ticket_nonce) f.ticket
  pub extensions : IsFieldFrom (bounded_list_format 2 0 65534 extension_format) x (span_end f.ticket) f.extensions
