-- What is printed of notes tells what was printed.
use Rattle.std.proofs.Common.{◌≡◌, ℕ, List, [], ◌∷◌, refl, sym, ap, ◌∙◌}
use Rattle.std.specs.Prelude.{bytes_eq, codes}
use Rattle.tls_presentation.specs.Definition.{Note, CountsRest, FillsRest, FillsZeros, Ends, Equals, IsClosed, IsOpen, IsBorrowed, IsCalled, LeftOut}
use Rattle.tls_presentation.specs.Cut.{first}
use Rattle.tls_presentation.specs.Printed.{Sign, Identifier, Key, Mark, OpenWord, BorrowedWord, Semicolon, EqualSign, print_label, print_note, print_notes}
use Rattle.tls_presentation.proofs.Injective.{Injects, label_injects}

-- ---- which note it is

abbrev is_kind : List Sign → ℕ
is_kind (Key OpenWord ∷ r) = 6
is_kind (Key BorrowedWord ∷ r) = 7
is_kind _ = 5

abbrev fills_kind : List Sign → ℕ
fills_kind (word ∷ Mark Semicolon ∷ r) = 1
fills_kind _ = 2

abbrev word_kind : List ℕ → List Sign → ℕ
word_kind w r = first (
    (bytes_eq w (codes "counts"), 0) ∷ (bytes_eq w (codes "fills"), fills_kind r) ∷ (bytes_eq w (codes "ends"), 3) ∷
    (bytes_eq w (codes "is"), is_kind r) ∷ (bytes_eq w (codes "called"), 8) ∷ []) 9

abbrev kind : List Sign → ℕ
kind (path ∷ Mark EqualSign ∷ r) = 4
kind (path ∷ Identifier w ∷ r) = word_kind w r
kind _ = 9

abbrev kind_of : Note → ℕ
kind_of (CountsRest a) = 0
kind_of (FillsRest a) = 1
kind_of (FillsZeros a) = 2
kind_of (Ends a b) = 3
kind_of (Equals a l) = 4
kind_of (IsClosed a) = 5
kind_of (IsOpen a) = 6
kind_of (IsBorrowed a) = 7
kind_of (IsCalled a b) = 8
kind_of (LeftOut a) = 9

kinds : (n : Note) (r : List Sign) → kind (print_note n r) ≡ kind_of n
kinds (CountsRest a) r = refl
kinds (FillsRest a) r = refl
kinds (FillsZeros a) r = refl
kinds (Ends a b) r = refl
kinds (Equals a l) r = refl
kinds (IsClosed a) r = refl
kinds (IsOpen a) r = refl
kinds (IsBorrowed a) r = refl
kinds (IsCalled a b) r = refl
kinds (LeftOut a) r = refl

same_kind : (m n : Note) (r s : List Sign) → print_note m r ≡ print_note n s → kind_of m ≡ kind_of n
same_kind m n r s e = sym (kinds m r) ∙ ap kind e ∙ kinds n s

-- of one kind, or of two
note_is : (m n : Note) (r s : List Sign) → kind_of m ≡ kind_of n → print_note m r ≡ print_note n s → (m ≡ n) × (r ≡ s)
note_is (CountsRest a) (CountsRest b) r s k e = (cc, cc)
note_is (FillsRest a) (FillsRest b) r s k e = (cc, cc)
note_is (FillsZeros a) (FillsZeros b) r s k e = (cc, cc)
note_is (Ends a c) (Ends b d) r s k e = (cc, cc)
note_is (Equals a l) (Equals b m) r s k e =
    let d : print_label l (Mark Semicolon ∷ r) ≡ print_label m (Mark Semicolon ∷ s) = cc in
    let h = label_injects l m (Mark Semicolon ∷ r) (Mark Semicolon ∷ s) d in
    let i : l ≡ m = h.0 in
    let j : (Mark Semicolon ∷ r) ≡ (Mark Semicolon ∷ s) = h.1 in
    (cc, cc)
note_is (IsClosed a) (IsClosed b) r s k e = (cc, cc)
note_is (IsOpen a) (IsOpen b) r s k e = (cc, cc)
note_is (IsBorrowed a) (IsBorrowed b) r s k e = (cc, cc)
note_is (IsCalled a c) (IsCalled b d) r s k e = (cc, cc)
note_is (LeftOut a) (LeftOut b) r s k e = (cc, cc)
note_is _ _ r s k e = absurd (let h = k in cc)

note_injects : Injects print_note
note_injects m n r s e = note_is m n r s (same_kind m n r s e) e

note_is_something : (n : Note) (r : List Sign) → print_note n r ≡ [] → ⊥
note_is_something (CountsRest a) r e = absurd cc
note_is_something (FillsRest a) r e = absurd cc
note_is_something (FillsZeros a) r e = absurd cc
note_is_something (Ends a b) r e = absurd cc
note_is_something (Equals a l) r e = absurd cc
note_is_something (IsClosed a) r e = absurd cc
note_is_something (IsOpen a) r e = absurd cc
note_is_something (IsBorrowed a) r e = absurd cc
note_is_something (IsCalled a b) r e = absurd cc
note_is_something (LeftOut a) r e = absurd cc

-- two lists of notes that are printed alike are the same
pub notes_inject : (ms ns : List Note) → print_notes ms ≡ print_notes ns → ms ≡ ns
notes_inject [] [] e = refl
notes_inject [] (n ∷ ns) e = absurd (note_is_something n (print_notes ns) (sym e))
notes_inject (m ∷ ms) [] e = absurd (note_is_something m (print_notes ms) e)
notes_inject (m ∷ ms) (n ∷ ns) e =
    let h = note_injects m n (print_notes ms) (print_notes ns) e in
    let i = notes_inject ms ns h.1 in
    let a : m ≡ n = h.0 in let b : ms ≡ ns = i in cc
