-- Where the files of a message are in its crate's folder.
use Rattle.std.specs.Prelude.{ℕ, List, ◌++◌, codes, string_bytes}
use Rattle.tlsgen_model.specs.declared.emitted.Written.{Written}
use Rattle.tlsgen_model.specs.declared.plan.Message.{Message}

abbrev pub Path : Type 0
Path = List ℕ

abbrev pub path_of : Written → Path
path_of file = string_bytes file.path

abbrev pub code_path : Message → Path
code_path m = codes "src/" ++ (string_bytes m.module ++ codes ".rt")

abbrev pub specs_path : Message → Path
specs_path m = codes "specs/" ++ (string_bytes m.name ++ codes ".antt")

-- the answers of a function of a trait
abbrev pub answers_path : Message → (of_trait function : List ℕ) → Path
answers_path m of_trait function =
    codes "proofs/" ++ (string_bytes m.module ++ (codes "/" ++ (string_bytes m.name ++ (of_trait ++ (codes "/" ++ (function ++ codes "/Answers.antt"))))))
