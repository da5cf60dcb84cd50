-- The fields of Commit.
use Rattle.std.specs.Prelude.{ℕ, List}
use Rattle.tls_codec.specs.OwnMessages.{list_format, option_format}
use Rattle.tls_codec_outcome.specs.Fields.{IsFieldFrom, span_end}
use Rattle.mls_group.specs.ProposalOrRef.{proposal_or_ref_format}
use Rattle.mls_group.specs.UpdatePath.{update_path_format}
use Rattle.mls_fields.specs.declared.commit.CommitFields.{CommitFields}

-- x begins with them, one after the other
pub record AreCommitFields (x : List ℕ) (f : CommitFields) : Type 0 where
  pub proposals : IsFieldFrom (list_format proposal_or_ref_format) x 0 f.proposals
  pub path : IsFieldFrom (option_format update_path_format) x (span_end f.proposals) f.path
