use Rattle.tls_presentation.specs.Meaning.{same_bytes}
use Rattle.ct.specs.DigitallySigned.{digitally_signed_format}
use Rattle.ct_laws.proofs.Sayings.{digitally_signed_saying}
use Rattle.ct_laws.proofs.laws.digitally_signed_is_as_printed.Goals as goal

pub returns-clause-bytes : goal.returns-clause-bytes
returns-clause-bytes c = λ u. same_bytes digitally_signed_format

pub returns-clause-values : goal.returns-clause-values
returns-clause-values c = digitally_signed_saying
