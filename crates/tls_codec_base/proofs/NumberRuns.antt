-- Numbers of one width in a row.
use Rattle.std.proofs.Common.{◌≡◌, ℕ, zero, suc, ◌*◌, ◌%◌, ◌<◌, ◌≤◌, List, [], ◌∷◌, ◌++◌, length, take, drop, take-append-drop, length-take-le, map, refl, sym, ap, subst, arith, length-append, append_assoc, add-one, ◌∙◌, ◌+◌, get_or, inl, inr}
use Rattle.std.proofs.Math.Nat.{mod-eq_of_lt}
use Rattle.std.proofs.Math.Seq.{drop-cons}
use Rattle.std.proofs.lemmas.Bool.{cases_lt}
use Rattle.std.proofs.lemmas.List.{map-append}
use Rattle.std.specs.List.{flat_map}
use Rattle.std.specs.Simd.{first_chunks}
use Rattle.tls_codec_wire.specs.Digits.{AreBytes, Digits, value}
use Rattle.tls_codec_wire.proofs.Bytes.{AreBytes-left}
use Rattle.tls_codec_grammar.specs.Tree.{Number, trees}
use Rattle.tls_codec_grammar.specs.Grammar.{Reading, Writing, content, number}
use Rattle.tls_codec_grammar.specs.Decoding.{BeginsSome}
use Rattle.tls_codec_grammar.specs.Shortest.{IsShortest}
use Rattle.tls_codec_grammar.specs.laws.ListLaws.{Part, part_least}
use Rattle.tls_codec_grammar.specs.laws.NumberLaws.{digits_least}
use Rattle.tls_codec_grammar.specs.laws.RowLaws.{row_least}
use Rattle.tls_codec_grammar.proofs.ByteContents.{AreBytes-right}

-- ---- begun

-- k bytes, and more after them, begin with a number of k bytes
begins_number : (k : ℕ) (x : List ℕ) → AreBytes x → k ≤ length x → BeginsSome (number k) x
begins_number k x small fits =
    let parts : take k x ++ drop k x ≡ x = take-append-drop k x in
    record {
      value = Number (value (take k x));
      rest = drop k x;
      begins = record {
        front = take k x;
        whole = sym parts;
        spelled = record { width = length-take-le k x fits; bytes = AreBytes-left (take k x) (drop k x) (subst AreBytes (sym parts) small); number = refl };
      };
    }

-- so do bytes that are whole numbers' digits, if there are any
pub digits_begin : (k : ℕ) (x : List ℕ) → AreBytes x → 0 < length x → length x % k ≡ 0 → BeginsSome (number k) x
digits_begin k x small some whole = elim (cases_lt (length x) k) [
  | inl few ↦ absurd (omega (arith, some, whole, mod-eq_of_lt few))
  | inr fits ↦ begins_number k x small fits
]

-- ---- read

-- m numbers that the first m groups of k bytes stand for are the content of these bytes
pub groups_content : {T : Type 0} (k m : ℕ) (f : T → ℕ) (numbers : List T) (xs : List ℕ) → 0 < k → AreBytes xs → length xs ≡ m * k → map f numbers ≡ map value (first_chunks k m xs) → content (number k) Reading xs (trees (λ x. Number (f x)) numbers)
groups_content k zero f [] [] some small n same = refl
groups_content k zero f [] (x ∷ xs) some small n same = absurd (omega (arith, n))
groups_content k zero f (y ∷ ys) xs some small n same = absurd cc
groups_content k (suc m) f [] xs some small n same = absurd cc
groups_content k (suc m) f (y ∷ ys) xs some small n same =
    let fits : k ≤ length xs = omega (arith, n) in
    let parts : take k xs ++ drop k xs ≡ xs = take-append-drop k xs in
    let width : length (take k xs) ≡ k = length-take-le k xs fits in
    let both : AreBytes (take k xs ++ drop k xs) = subst AreBytes (sym parts) small in
    let rest : length (drop k xs) ≡ m * k = omega (arith, n, width, ap length parts, length-append (take k xs) (drop k xs)) in
    let one : f y ≡ value (take k xs) = cc in
    let others : map f ys ≡ map value (first_chunks k m (drop k xs)) = cc in
    record {
      front = take k xs;
      rest = drop k xs;
      whole = sym parts;
      first = (record { width = width; bytes = AreBytes-left (take k xs) (drop k xs) both; number = sym one }, omega (arith, width, some));
      second = groups_content k m f ys (drop k xs) some (AreBytes-right (take k xs) (drop k xs) both) rest others;
    }

-- the numbers so far are those of the groups before the ones to come
pub one_number_more : {T : Type 0} (f : T → ℕ) (groups : List (List ℕ)) (i : ℕ) (group : List ℕ) (xs : List T) (y : T) (ys : List T) {numbers : List ℕ} → i < length groups → group ≡ get_or groups i group → map f xs ++ map value (drop i groups) ≡ numbers → f y ≡ value group → ys ≡ xs ++ y ∷ [] → map f ys ++ map value (drop (i + 1) groups) ≡ numbers
one_number_more f groups i group xs y ys lt is so_far same more =
    let here : map value (drop i groups) ≡ value group ∷ map value (drop (i + 1) groups) = ap (map value) (drop-cons groups i group lt) ∙ ap (λ (g : List ℕ). value g ∷ map value (drop (suc i) groups)) (sym is) ∙ ap (λ (k : ℕ). value group ∷ map value (drop k groups)) (sym (add-one i)) in
    ap (λ (zs : List _). map f zs ++ map value (drop (i + 1) groups)) more ∙ ap (λ (ns : List ℕ). ns ++ map value (drop (i + 1) groups)) (map-append f xs (y ∷ [])) ∙ append_assoc (map f xs) (f y ∷ []) (map value (drop (i + 1) groups)) ∙ ap (λ (n : ℕ). map f xs ++ n ∷ map value (drop (i + 1) groups)) same ∙ ap (λ (ns : List ℕ). map f xs ++ ns) (sym here) ∙ so_far

-- ---- sent

-- numbers' digits in a row, the first of some arrays, are their shortest form
pub digits_in_a_row : {T : Type 0} (k : ℕ) (f : T → ℕ) (xs : List T) (ds : List (List ℕ)) → length xs ≤ length ds → ((i : ℕ) → i < length xs → Digits k (get_or ds i []) (get_or (map f xs) i 0)) → IsShortest (content (number k)) (flat_map (λ x. x) (take (length xs) ds)) (trees (λ x. Number (f x)) xs)
digits_in_a_row k f [] ds fits each = record { spelled = refl; least = λ t q. inl q }
digits_in_a_row k f (x ∷ xs) [] fits each = absurd (omega (arith, fits))
digits_in_a_row k f (x ∷ xs) (d ∷ ds) fits each =
    let first = part_least (number k) d (Number (f x)) (digits_least k d (f x) (each 0 (omega arith))) in
    let others = digits_in_a_row k f xs ds (omega (arith, fits)) (λ i lt. each (suc i) (omega (arith, lt))) in
    row_least (Part (number k) Writing (Number (f x))) (λ u. content (number k) Writing u (trees (λ y. Number (f y)) xs)) d (flat_map (λ y. y) (take (length xs) ds)) first others
