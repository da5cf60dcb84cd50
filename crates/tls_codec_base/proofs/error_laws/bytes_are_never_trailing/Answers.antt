use Rattle.tls_codec_base.proofs.Trailing.{bytes_source_never, copy_never}
use Rattle.tls_codec_base.proofs.error_laws.bytes_are_never_trailing.Goals as goal

pub returns : goal.returns
returns g c = record { bytes = copy_never g.met.F.LengthField.lawful; read = bytes_source_never g.met.F.LengthField.lawful }
