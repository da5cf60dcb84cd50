-- The paths of files in a row, and of other names of types, if there are any.
use Rattle.std.proofs.Common.{◌≡◌, ◌<◌, ◌++◌, List, [], ◌∷◌, length, refl, ap, ◌∙◌, arith}
use Rattle.std.specs.Prelude.{codes}
use Rattle.std.proofs.lemmas.List.{append_assoc, map-append}
use Rattle.tlsgen_model.specs.declared.plan.Alias.{Alias}
use Rattle.tlsgen_model.specs.Paths.{Path, path_of}
use Rattle.tlsgen_emit.specs.Paths.{paths_in, paths_of_aliases}
use Rattle.tlsgen_model.specs.declared.emitted.Written.{Written}

pub no_aliases : (aliases : List Alias) → length aliases ≡ 0 → paths_of_aliases aliases ≡ []
no_aliases [] none = refl
no_aliases (alias ∷ aliases) none = absurd (omega (arith, none))

pub some_aliases : (aliases : List Alias) → 0 < length aliases → paths_of_aliases aliases ≡ codes "src/names.rt" ∷ []
some_aliases [] some = absurd (omega (arith, some))
some_aliases (alias ∷ aliases) some = refl

-- a file was added, and others after it
pub one_more : (files : List Written) (file : Written) (more : List Path) → paths_in (files ++ file ∷ []) ++ more ≡ paths_in files ++ path_of file ∷ more
one_more files file more = ap (λ paths. paths ++ more) (map-append path_of files (file ∷ [])) ∙ append_assoc (paths_in files) (path_of file ∷ []) more
