-- What the RFC says of the text in prose, line by line: mls_group.notes.
use Rattle.std.specs.Prelude.{ℕ, List, [], ◌∷◌}
use Rattle.tls_presentation.specs.Cut.{lines}

abbrev pub notes_text : List ℕ
notes_text = lines (
    "// Section 8.4: the usages have no registry." ∷
    "ResumptionPSKUsage is closed;" ∷
    "" ∷
    "// What is hashed or signed, and only written (RFC 9420, sections 5.2, 8, 8.4 and 12.4.3): it borrows its parts." ∷
    "RefHashInput is borrowed;" ∷
    "KDFLabel is borrowed;" ∷
    "PSKLabel is borrowed;" ∷
    "GroupInfoTBS is borrowed;" ∷
    [])
