use Rattle.std.proofs.Common.{rules, ◌≡◌, ◌<◌, ◌++◌, ◌∷◌, [], length, ap, sym, ◌∙◌}
use Rattle.std.specs.Prelude.{codes}
use Rattle.std.proofs.lemmas.List.{map-append}
use Rattle.tlsgen_model.specs.Paths.{path_of}
use Rattle.tlsgen_emit.specs.Paths.{paths_in}
use Rattle.tlsgen_emit.proofs.Aliases.{some_aliases}
use Rattle.tlsgen_emit.proofs.file.push_aliases.Goals as goal

pub returns : goal.returns
returns c =
    let files = c.args.files.now.items in
    let aliases = c.args.plan.now.aliases.items in
    let names = c.in_ok-new.field-0 in
    let some : 0 < length aliases = search rules in
    let pushed : c.push.new.self.items ≡ files ++ names ∷ [] = search rules in
    let path : path_of names ≡ codes "src/names.rt" = search rules in
    ap paths_in pushed ∙ map-append path_of files (names ∷ []) ∙ ap (λ p. paths_in files ++ p ∷ []) path ∙ ap (λ more. paths_in files ++ more) (sym (some_aliases aliases some))
