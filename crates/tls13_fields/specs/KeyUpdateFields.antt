-- The fields of KeyUpdate.
use Rattle.std.specs.Prelude.{ℕ, List}
use Rattle.tls_codec_outcome.specs.Fields.{IsFieldFrom}
use Rattle.tls13.specs.KeyUpdateRequest.{key_update_request_format}
use Rattle.tls13_fields.specs.declared.key_update.KeyUpdateFields.{KeyUpdateFields}

-- x begins with them, one after the other
pub record AreKeyUpdateFields (x : List ℕ) (f : KeyUpdateFields) : Type 0 where
  pub request_update : IsFieldFrom key_update_request_format x 0 f.request_update
