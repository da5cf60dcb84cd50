-- What the RFC says of the text in prose, line by line: ct.notes.
use Rattle.std.specs.Prelude.{ℕ, List, [], ◌∷◌}
use Rattle.tls_presentation.specs.Cut.{lines}

abbrev pub notes_text : List ℕ
notes_text = lines (
    "// What RFC 5246 and RFC 6962 say of their definitions in prose." ∷
    "" ∷
    "// RFC 6962, section 3.2: the version says what the fields are." ∷
    "Version is closed;" ∷
    [])
