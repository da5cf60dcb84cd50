-- Fields at a place, from what the bytes from there on begin with.
use Rattle.std.proofs.Common.{◌≡◌, ℕ, ◌≤◌, ◌+◌, ◌-◌, List, ◌++◌, length, take, drop, refl, sym, ap, subst, ◌∙◌, arith, length-append, append_assoc}
use Rattle.std.proofs.Math.Seq.{take-append_seam, drop-append_seam}
use Rattle.std.proofs.lemmas.List.{drop-drop, length-drop}
use Rattle.tls_codec_grammar.specs.Tree.{Tree, Join, number_trees}
use Rattle.tls_codec_grammar.specs.Grammar.{Grammar, Reading, fields}
use Rattle.tls_codec_grammar.specs.Lawful.{MeetsLaws}
use Rattle.tls_codec_grammar.specs.Field.{Field}
use Rattle.tls_codec_grammar.specs.Format.{Format, counted_bytes_format, fields_format}
use Rattle.tls_codec_grammar.specs.Decoding.{Begins, BeginsSome}
use Rattle.tls_codec_grammar.proofs.ByteContents.{content_same_bytes}
use Rattle.tls_codec_base.proofs.BothPaths.{one_front}
use Rattle.tls_codec_outcome.specs.Ends.{EndsAt}
use Rattle.tls_codec_outcome.specs.Fields.{BeginsAt, IsContent, IsField, bytes_at}

-- ---- a place, by what the bytes from there on begin with

module _ (spells : Grammar) (x : List ℕ) (from : ℕ) {v : Tree} {rest : List ℕ} (within : from ≤ length x) (b : Begins spells (drop from x) v rest) where
  pub counted_from : length x ≡ from + (length b.front + length rest)
  counted_from =
      let whole : length (drop from x) ≡ length b.front + length rest = ap length b.whole ∙ length-append b.front rest in
      omega (arith, whole, length-drop from x, within)

  -- the encoding is the bytes at the place, and the rest is what is behind them
  pub front_at : bytes_at from (length b.front) x ≡ b.front
  front_at = ap (λ (u : List ℕ). take (length b.front) u) b.whole ∙ take-append_seam b.front rest

  pub rest_at : drop (from + length b.front) x ≡ rest
  rest_at = sym (drop-drop (length b.front) from x) ∙ ap (λ (u : List ℕ). drop (length b.front) u) b.whole ∙ drop-append_seam b.front rest

  pub is_field : (f : Format) → f.spells ≡ spells → (size : ℕ) → size ≡ length (drop from x) - length rest → IsField f x from size
  is_field f same size is =
      let count : size ≡ length b.front = omega (arith, is, counted_from, length-drop from x) in
      let here : bytes_at from size x ≡ b.front = ap (λ (n : ℕ). bytes_at from n x) count ∙ front_at in
      record {
        within = omega (arith, count, counted_from);
        spelled = (v, subst (λ (g : Grammar). g Reading (bytes_at from size x) v) (sym same) (subst (λ (u : List ℕ). spells Reading u v) (sym here) b.spelled));
      }

-- bytes after a length, by what is split off
pub is_content : (field : Field) (x : List ℕ) (from : ℕ) (c rest : List ℕ) → from ≤ length x → Begins (counted_bytes_format field).spells (drop from x) (number_trees c) rest → (offset : ℕ) → offset ≡ length x - length rest - length c
    → IsContent field x from offset (length c)
is_content field x from c rest within b offset is =
    let spells = (counted_bytes_format field).spells in
    let inside : b.spelled.inside ≡ c = content_same_bytes Reading b.spelled.inside c b.spelled.is_inside in
    let sizes : length b.front ≡ length b.spelled.count + length c = ap length b.spelled.whole ∙ length-append b.spelled.count b.spelled.inside ∙ ap (λ (u : List ℕ). length b.spelled.count + length u) inside in
    let all = counted_from spells x from within b in
    let place : offset ≡ from + length b.spelled.count = omega (arith, is, sizes, all) in
    let size : offset + length c - from ≡ length b.front = omega (arith, place, sizes) in
    let whole : drop from x ≡ b.spelled.count ++ (c ++ rest) =
    b.whole ∙ ap (λ (u : List ℕ). u ++ rest) b.spelled.whole ∙ append_assoc b.spelled.count b.spelled.inside rest ∙ ap (λ (u : List ℕ). b.spelled.count ++ (u ++ rest)) inside in
    let here : drop offset x ≡ c ++ rest =
    ap (λ (n : ℕ). drop n x) place ∙ sym (drop-drop (length b.spelled.count) from x) ∙ ap (λ (u : List ℕ). drop (length b.spelled.count) u) whole ∙ drop-append_seam b.spelled.count (c ++ rest) in
    let same : bytes_at offset (length c) x ≡ c = ap (λ (u : List ℕ). take (length c) u) here ∙ take-append_seam c rest in
    let front : bytes_at from (offset + length c - from) x ≡ b.front = ap (λ (n : ℕ). bytes_at from n x) size ∙ front_at spells x from within b in
    record {
      after = omega (arith, place);
      within = omega (arith, place, sizes, all);
      spelled = subst (λ (u : List ℕ). spells Reading (bytes_at from (offset + length c - from) x) (number_trees u)) (sym same)
          (subst (λ (u : List ℕ). spells Reading u (number_trees c)) (sym front) b.spelled);
    }

-- ---- a product, by its first part and the others

-- what x begins with is a first part, and the others come behind it
record Parts (first others : Grammar) (y : List ℕ) : Type 0 where
  value : Tree
  middle : List ℕ
  begins : Begins first y value middle
  rest : BeginsSome others middle

parts : (first others : Grammar) (y : List ℕ) (v : Tree) (rest : List ℕ) → Begins (fields first others) y v rest → Parts first others y
parts first others y (Join v vs) rest b = record {
  value = v;
  middle = b.spelled.rest ++ rest;
  begins = record {
    front = b.spelled.front;
    whole = b.whole ∙ ap (λ (u : List ℕ). u ++ rest) b.spelled.whole ∙ append_assoc b.spelled.front b.spelled.rest rest;
    spelled = b.spelled.first;
  };
  rest = record { value = vs; rest = rest; begins = record { front = b.spelled.rest; whole = refl; spelled = b.spelled.second } };
}
parts first others y _ rest b = absurd b.spelled

module _ (first others : Format) (x : List ℕ) (from : ℕ) (at : BeginsAt (fields_format first others) x from) where
  split_at : Parts first.spells others.spells (drop from x)
  split_at = parts first.spells others.spells (drop from x) at.begins.value at.begins.rest at.begins.begins

  -- the first part begins there
  pub first_begins : BeginsAt first x from
  first_begins = record { within = at.within; begins = record { value = split_at.value; rest = split_at.middle; begins = split_at.begins } }

-- the others begin where the first part ends
pub others_begin_at : {first : Format} (others : Format) (x : List ℕ) (from end : ℕ) → MeetsLaws first → BeginsAt (fields_format first others) x from → EndsAt first x from end → BeginsAt others x end
others_begin_at {first} others x from end laws at ends =
    let split = split_at first others x from at in
    let left = ends.leaves in
    let same : split.middle ≡ drop end x = (one_front first.spells (drop from x) first.announced laws.spelled left.value split.value (drop end x) split.middle left.begins split.begins).1 in
    record { within = ends.within; begins = subst (λ (u : List ℕ). BeginsSome others.spells u) same split.rest }

-- the others begin where a call tells that the first part ends
pub others_begin_there : {first : Format} (others : Format) (x : List ℕ) (from end place : ℕ) → MeetsLaws first → BeginsAt (fields_format first others) x from → EndsAt first x from end → place ≡ end → BeginsAt others x place
others_begin_there others x from end place laws at ends same = subst (λ (n : ℕ). BeginsAt others x n) (sym same) (others_begin_at others x from end laws at ends)
