-- Which files a crate has, by their paths.
use Rattle.std.specs.Prelude.{List, [], ◌∷◌, ◌++◌, map, Bool, true, false, codes}
use Rattle.std.specs.List.{flat_map}
use Rattle.tlsgen_model.specs.Paths.{Path, answers_path, code_path, path_of, specs_path}
use Rattle.tlsgen_model.specs.declared.emitted.Written.{Written}
use Rattle.tlsgen_model.specs.declared.plan.Alias.{Alias}
use Rattle.tlsgen_model.specs.declared.plan.Body.{Body}
use Rattle.tlsgen_model.specs.declared.plan.Body.TheVariants.{Values, Fields, Choice, Sum}
use Rattle.tlsgen_model.specs.declared.plan.Message.{Message}
use Rattle.tlsgen_model.specs.declared.plan.Plan.{Plan}

abbrev pub paths_in : List Written → List Path
paths_in files = map path_of files

-- ---- of a message

-- a borrowed message has no decoders, and is not validated
abbrev pub decoders_unless : Bool → Message → List Path
decoders_unless true m = []
decoders_unless false m =
    answers_path m (codes "Deserialize") (codes "tls_deserialize")
    ∷ answers_path m (codes "DeserializeBytes") (codes "tls_deserialize_bytes")
    ∷ answers_path m (codes "Validate") (codes "tls_validate_prefix")
    ∷ []

abbrev pub answers_paths : Message → List Path
answers_paths m =
    answers_path m (codes "Serialize") (codes "tls_serialize")
    ∷ answers_path m (codes "Serialize") (codes "tls_serialize_into")
    ∷ decoders_unless m.is_borrowed m

abbrev pub answers_if : Bool → Message → List Path
answers_if true m = answers_paths m
answers_if false m = []

-- an enum has answers, unless it is open
abbrev pub needs_answers : Body → Bool
needs_answers (Values width true values) = false
needs_answers (Values width false values) = true
needs_answers (Fields members) = false
needs_answers (Choice width variants) = true
needs_answers (Sum width length variants) = false

abbrev pub paths_of_message : Message → List Path
paths_of_message m = code_path m ∷ specs_path m ∷ answers_if (needs_answers m.body) m

-- ---- of a crate

-- other names of types have a module if there are any
abbrev pub paths_of_aliases : List Alias → List Path
paths_of_aliases [] = []
paths_of_aliases (alias ∷ aliases) = codes "src/names.rt" ∷ []

abbrev pub first_paths : Plan → List Path
first_paths plan = codes "src/lib.rt" ∷ paths_of_aliases plan.aliases.items

abbrev pub last_paths : List Path
last_paths = codes "specs/Lib.antt" ∷ codes "proofs/Lib.antt" ∷ []

abbrev pub paths_of : Plan → List Path
paths_of plan = first_paths plan ++ flat_map paths_of_message plan.messages.items ++ last_paths
