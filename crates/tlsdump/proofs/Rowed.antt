-- What is behind a line is behind those before it too.
use Rattle.std.proofs.Common.{◌≡◌, ◌++◌, ◌+◌, ◌<◌, ◌≤◌, ◌∙◌, ℕ, List, length, get_or, suc, sym, ap, add-one}
use Rattle.std.proofs.Math.ListN.{drop}
use Rattle.std.proofs.Math.Seq.{drop-cons}
use Rattle.std.proofs.lemmas.List.{append_assoc, drop_all}
use Rattle.tlsdump.specs.declared.walk.line.Line.{Line}
use Rattle.tlsdump.specs.Rows.{row}

pub one_more : (lines : List Line) (i : ℕ) (d : Line) (rest behind x : List ℕ) → i < length lines
    → rest ≡ (get_or lines i d).bytes.now ++ behind → behind ≡ row (drop (i + 1) lines) ++ x
    → rest ≡ row (drop i lines) ++ x
one_more lines i d rest behind x below begins is =
    let next = rw add-one at is in
    let one = get_or lines i d in
    let whole : row (drop i lines) ≡ one.bytes.now ++ row (drop (suc i) lines) = ap row (drop-cons lines i d below) in
    rw whole (begins ∙ ap (λ xs. one.bytes.now ++ xs) next ∙ sym (append_assoc one.bytes.now (row (drop (suc i) lines)) x))

-- behind all lines is what is left
pub none_more : (lines : List Line) (i : ℕ) (rest : List ℕ) → length lines ≤ i → rest ≡ row (drop i lines) ++ rest
none_more lines i rest past = ap (λ ls. row ls ++ rest) (sym (drop_all i lines past))
