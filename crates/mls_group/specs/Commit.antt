-- Commit: what it stands for, its format and its law.
use Rattle.tls_codec.specs.OwnMessages.{Tree, trees, option_plain, Format, option_format, list_format, pair_tree, pair_format, MeetsLaws, option_meets, list_meets, pair_meets}
use Rattle.mls_group.specs.ProposalOrRef.{proposal_or_ref_plain, proposal_or_ref_format, proposal_or_ref_meets}
use Rattle.mls_group.specs.UpdatePath.{update_path_plain, update_path_format, update_path_meets}
use Rattle.mls_group.specs.declared.commit.Commit.{Commit}

abbrev pub commit_plain : Commit → Tree
commit_plain v = pair_tree (trees proposal_or_ref_plain v.proposals.items) (option_plain update_path_plain v.path)

abbrev pub commit_format : Format
commit_format = pair_format (list_format proposal_or_ref_format) (option_format update_path_format)

pub commit_meets : MeetsLaws commit_format
commit_meets = pair_meets (list_meets proposal_or_ref_meets) (option_meets update_path_meets)
