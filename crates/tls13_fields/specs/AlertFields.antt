-- The fields of Alert.
use Rattle.std.specs.Prelude.{ℕ, List}
use Rattle.tls_codec_outcome.specs.Fields.{IsFieldFrom, span_end}
use Rattle.tls13.specs.AlertDescription.{alert_description_format}
use Rattle.tls13.specs.AlertLevel.{alert_level_format}
use Rattle.tls13_fields.specs.declared.alert.AlertFields.{AlertFields}

-- x begins with them, one after the other
pub record AreAlertFields (x : List ℕ) (f : AlertFields) : Type 0 where
  pub level : IsFieldFrom alert_level_format x 0 f.level
  pub description : IsFieldFrom alert_description_format x (span_end f.level) f.description
