use Rattle.std.proofs.Common.{rules, ◌≡◌, true, false, inr}
use Rattle.std.proofs.lemmas.Bool.{not-false, not-true}
use Rattle.tls_codec_grammar.specs.Tree.{Join, Number}
use Rattle.tls_codec_base.proofs.Presence.{refused_breaks}
use Rattle.tls_codec_cases.proofs.Ambiguous.{refused_breaks as none_breaks}
use Rattle.tls_codec_cases.proofs.chosen.ChosenSerializeFor.tls_serialize_for.Goals as goal

pub returns-then-not-are_distinct : goal.returns-then-not-are_distinct
returns-then-not-are_distinct g c =
    let told : g.C.Cases.distinct ≡ false = search (rules, not-true) in
    let is = c.unknown_value.ensures in
    record { writes = rw told (rw is (none_breaks g.W.Sink c.args.writer.now (Join (Number (g.C.Cases.tag_of c.args.self.now.0)) (g.C.Cases.parts c.args.self.now.0)))) }

pub returns-then-tag-selects : goal.returns-then-tag-selects
returns-then-tag-selects g c =
    let told : g.C.Cases.distinct ≡ true = search (rules, not-false) in
    let other = rw (c.tag.ensures, c.selects.ensures) at c.if-tag-selects.true in
    record { writes = rw told (refused_breaks c.args.writer.now (inr (other, c.does_not_fit.ensures))) }
