use Rattle.tls_presentation.specs.Meaning.{same_bytes}
use Rattle.mls_group.specs.KDFLabel.{kdf_label_format}
use Rattle.mls_group_laws.proofs.Sayings.{kdf_label_saying}
use Rattle.mls_group_laws.proofs.laws.kdf_label_is_as_printed.Goals as goal

pub returns-clause-bytes : goal.returns-clause-bytes
returns-clause-bytes c = λ u. same_bytes kdf_label_format

pub returns-clause-values : goal.returns-clause-values
returns-clause-values c = kdf_label_saying
