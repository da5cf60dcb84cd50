use Rattle.std.proofs.Common.{rules, ◌≡◌, ◌&&◌, true, refl}
use Rattle.std.proofs.lemmas.Bool.{not-false}
use Rattle.std.proofs.lemmas.Result.{err_from_is_err_and}
use Rattle.tls_codec_grammar.specs.laws.FormatLaws.{number_meets}
use Rattle.tls_codec_validate.proofs.Tagging.{cases_placed, parts_leave, parts_rejected}
use Rattle.tls_codec_validate.proofs.tagged.TaggedValidate.tls_validate_prefix.Goals as goal

pub returns-in_err-behind-clause-validates : goal.returns-in_err-behind-clause-validates
returns-in_err-behind-clause-validates g c =
    let told : (g.C.Cases.distinct && g.C.Cases.within g.T.Tag.most) ≡ true = search (rules, not-false) in
    rw told (parts_rejected (number_meets g.T.Tag.wide g.met.T.Tag.small) g.met.C.Cases.meet _ _ _ c.from_residual-in_err-behind.ensures.1 c.in_ok-tag.ensures.finds refl c.in_err-behind.ensures.validates)

pub returns-in_err-behind-clause-rejected : goal.returns-in_err-behind-clause-rejected
returns-in_err-behind-clause-rejected g c =
    let told : (g.C.Cases.distinct && g.C.Cases.within g.T.Tag.most) ≡ true = search (rules, not-false) in
    let p = err_from_is_err_and c.from_residual-in_err-behind.result c.from_residual-in_err-behind.ensures.1 in
    rw told (rw (p.1, p.2) (cases_placed g.T.Tag.wide g.C.SplitCases.names g.C.ValidateCases.places c.in_ok-tag.ensures.finds c.in_err-behind.ensures.rejected))

pub returns-clause-validates : goal.returns-clause-validates
returns-clause-validates g c =
    let told : (g.C.Cases.distinct && g.C.Cases.within g.T.Tag.most) ≡ true = search (rules, not-false) in
    rw told (parts_leave (number_meets g.T.Tag.wide g.met.T.Tag.small) g.met.C.Cases.meet c.in_ok-tag.ensures.finds refl c.in_ok-behind.ensures.validates.begins)
