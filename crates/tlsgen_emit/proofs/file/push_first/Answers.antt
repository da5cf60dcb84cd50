use Rattle.std.proofs.Common.{rules, ◌≡◌, ◌++◌, ◌∷◌, [], ap, ◌∙◌}
use Rattle.std.specs.Prelude.{codes}
use Rattle.tlsgen_model.specs.Paths.{path_of}
use Rattle.tlsgen_emit.specs.Paths.{paths_in, paths_of_aliases}
use Rattle.tlsgen_emit.proofs.Aliases.{one_more}
use Rattle.tlsgen_emit.proofs.file.push_first.Goals as goal

pub returns : goal.returns
returns c =
    let more = paths_of_aliases c.args.plan.now.aliases.items in
    let root = c.in_ok-new.field-0 in
    let pushed : c.push.new.self.items ≡ c.args.files.now.items ++ root ∷ [] = search rules in
    let path : path_of root ≡ codes "src/lib.rt" = search rules in
    let all : paths_in c.push_aliases.new.files.items ≡ paths_in c.push.new.self.items ++ more = search rules in
    all ∙ ap (λ files. paths_in files ++ more) pushed ∙ one_more c.args.files.now.items root more ∙ ap (λ p. paths_in c.args.files.now.items ++ p ∷ more) path
