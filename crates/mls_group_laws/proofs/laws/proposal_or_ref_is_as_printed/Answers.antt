use Rattle.tls_presentation.specs.Meaning.{same_bytes}
use Rattle.mls_group.specs.ProposalOrRef.{proposal_or_ref_format}
use Rattle.mls_group_laws.proofs.Sayings.{proposal_or_ref_saying}
use Rattle.mls_group_laws.proofs.laws.proposal_or_ref_is_as_printed.Goals as goal

pub returns-clause-bytes : goal.returns-clause-bytes
returns-clause-bytes c = λ u. same_bytes proposal_or_ref_format

pub returns-clause-values : goal.returns-clause-values
returns-clause-values c = proposal_or_ref_saying
