use Rattle.tls_codec_grammar.specs.Tree.{Empty}
use Rattle.tls_codec_validate.proofs.elements.skip_list.Goals as goal

pub returns-clause-validates : goal.returns-clause-validates
returns-clause-validates g c = c.skip_list_for.ensures.validates Empty tt

pub returns-clause-rejected : goal.returns-clause-rejected
returns-clause-rejected g c = c.skip_list_for.ensures.rejected Empty tt
