-- What the RFC says of the text in prose, line by line: each_shape.notes.
use Rattle.std.specs.Prelude.{ℕ, List, [], ◌∷◌}
use Rattle.tls_presentation.specs.Cut.{lines}

abbrev pub notes_text : List ℕ
notes_text = lines (
    "// What would be prose: `length` counts what the select has." ∷
    "Sized.length counts rest;" ∷
    "" ∷
    "// What would be prose: a message is a client's or a server's." ∷
    "ClientOrServerExtension.client = 0;" ∷
    "ClientOrServerExtension.server = 1;" ∷
    "" ∷
    "// An enum that no select is on, and whose other numbers are rejected all the same." ∷
    "Level is closed;" ∷
    "" ∷
    "// What would be prose: what comes last has no length." ∷
    "Beat.padding fills rest;" ∷
    "Inner.type ends content;" ∷
    [])
