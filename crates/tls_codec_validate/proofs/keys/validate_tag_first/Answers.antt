use Rattle.tls_codec_grammar.specs.laws.FormatLaws.{number_meets}
use Rattle.tls_codec_validate.proofs.Keying.{tag_is_key, tag_is_there}
use Rattle.tls_codec_validate.proofs.keys.validate_tag_first.Goals as goal

pub returns-in-Ok-clause-validates : goal.returns-in-Ok-clause-validates
returns-in-Ok-clause-validates g c =
    tag_is_key g.T.TagFirst.variants g.met.T.TagFirst.is_tagged g.T.TagFirst.first_tag g.met.T.TagFirst.is_first_tag (number_meets g.T.Tag.Tag.wide g.met.T.Tag.Tag.small) c.in-Ok.ensures.finds c.in_ok-rest.ensures.validates

pub returns-in-Err-clause-validates : goal.returns-in-Err-clause-validates
returns-in-Err-clause-validates g c = absurd (tag_is_there g.T.TagFirst.variants g.met.T.TagFirst.is_tagged c.in_ok-rest.ensures.validates c.in-Err.ensures.finds.none)

pub returns-in-Err-clause-rejected : goal.returns-in-Err-clause-rejected
returns-in-Err-clause-rejected g c = absurd (tag_is_there g.T.TagFirst.variants g.met.T.TagFirst.is_tagged c.in_ok-rest.ensures.validates c.in-Err.ensures.finds.none)
