use Rattle.std.proofs.Common.{◌≡◌, ◌++◌, [], ◌∙◌, ap, sym, string_bytes, true}
use Rattle.std.proofs.lemmas.Iterator.{YieldsList-from_chars}
use Rattle.std.proofs.lemmas.Iterator.Consumers.{YieldsList-end}
use Rattle.std.proofs.lemmas.List.{append-nil, map-id}
use Rattle.std.specs.Str.{chars, encode_utf8_all}
use Rattle.tlsgen_syntax.specs.Apart.{in_capitals}
use Rattle.tlsgen_syntax.proofs.in_place.push_in_capitals.Goals as goal

pub returns : goal.returns
returns c =
    let before = string_bytes c.args.out.now in
    let yielded = c.loop-c.yielded in
    let t = YieldsList-end (YieldsList-from_chars c.args.words.now c.utf8.words cc) yielded _ c.loop-c.yielded_by _ _ c.in-None.is c.next.ensures.steps in
    let all : yielded ≡ chars c.args.words.now = sym (map-id yielded) ∙ t.0 in
    sym (append-nil (string_bytes c.loop-c.out)) ∙ c.loop-c.invariant [] ∙
    ap (λ cs. before ++ encode_utf8_all (in_capitals true cs)) (append-nil yielded ∙ all)
