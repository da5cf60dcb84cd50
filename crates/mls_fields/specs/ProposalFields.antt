-- The fields of Proposal.
use Rattle.std.specs.Prelude.{ℕ, List}
use Rattle.tls_codec_outcome.specs.Cases.{IsCaseFrom}
use Rattle.mls_group.specs.Proposal.{proposal_variants}
use Rattle.mls_fields.specs.declared.proposal.ProposalFields.{ProposalFields}

-- x begins with a tag of two bytes, and after it is what the case of this tag has
pub record AreProposalFields (x : List ℕ) (f : ProposalFields) : Type 0 where
  pub case : IsCaseFrom 2 proposal_variants x 0 f.proposal_type f.body
