use Rattle.std.proofs.Common.{◌&&◌}
use Rattle.std.proofs.lemmas.Bool.{and_parts}
use Rattle.tls_codec_cases.proofs.either.OrWriteCases.append_parts.Goals as goal

pub returns-in-First : goal.returns-in-First
returns-in-First g c =
    let is = c.in-First.is in
    let here = g.met.X.Cases.known c.in-First.these in
    rw is (rw here c.append_parts.ensures)

pub returns-in-Second : goal.returns-in-Second
returns-in-Second g c =
    let is = c.in-Second.is in
    let avoids = g.Y.Cases.avoid g.X.Tags.variants.has in
    let apart = (and_parts g.Y.Cases.distinct avoids (and_parts g.X.Cases.distinct (g.Y.Cases.distinct && avoids) c.requires).1).1 in
    let there = g.met.Y.Cases.avoided g.X.Tags.variants.has c.in-Second.those apart in
    rw is (rw there c.append_parts-in-Second.ensures)
