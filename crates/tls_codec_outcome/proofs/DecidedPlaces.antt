-- The places of a part and of those that its value decides.
use Rattle.std.proofs.Common.{◌≡◌, ℕ, ◌≤◌, ◌<◌, ◌^◌, ◌+◌, ◌-◌, List, ◌++◌, length, drop, refl, sym, ap, subst, ◌∙◌, arith, append_assoc}
use Rattle.tls_codec_grammar.specs.Tree.{Empty, Join, Number, Tree}
use Rattle.tls_codec_grammar.specs.Contexts.{then_format}
use Rattle.tls_codec_grammar.specs.Format.{Format, fields_format, nothing_format, pair_format}
use Rattle.tls_codec_grammar.specs.Grammar.{Reading}
use Rattle.tls_codec_grammar.specs.Decoding.{Begins, BeginsSome}
use Rattle.tls_codec_grammar.specs.Lawful.{MeetsLaws}
use Rattle.tls_codec_base.proofs.BothPaths.{one_front}
use Rattle.tls_codec_outcome.specs.Decided.{AreDecided}
use Rattle.tls_codec_outcome.specs.Ends.{field_ends}
use Rattle.tls_codec_outcome.specs.Fields.{BeginsAt, IsFieldFrom, bytes_at, span_end}
use Rattle.tls_codec_outcome.specs.declared.fields.Span.{Span}
use Rattle.tls_codec_outcome.proofs.FieldPlaces.{counted_from, first_begins, front_at, others_begin_at, rest_at}

-- what y begins with is a first part, and what its value decides comes behind it
record ThenParts (first : Format) (rest : Tree → Format) (y : List ℕ) : Type 0 where
  value : Tree
  middle : List ℕ
  begins : Begins first.spells y value middle
  others : BeginsSome (rest value).spells middle

then_parts : (first : Format) (rest : Tree → Format) (y : List ℕ) (v : Tree) (behind : List ℕ) → Begins (then_format first rest).spells y v behind → ThenParts first rest y
then_parts first rest y (Join v vs) behind c = record {
  value = v;
  middle = c.spelled.rest ++ behind;
  begins = record {
    front = c.spelled.front;
    whole = c.whole ∙ ap (λ (u : List ℕ). u ++ behind) c.spelled.whole ∙ append_assoc c.spelled.front c.spelled.rest behind;
    spelled = c.spelled.first;
  };
  others = record { value = vs; rest = behind; begins = record { front = c.spelled.rest; whole = refl; spelled = c.spelled.second } };
}
then_parts first rest y (Number n) behind c = absurd c.spelled
then_parts first rest y Empty behind c = absurd c.spelled

parts_at : (first : Format) (rest : Tree → Format) (x : List ℕ) (from : ℕ) → BeginsAt (then_format first rest) x from → ThenParts first rest (drop from x)
parts_at first rest x from at = then_parts first rest (drop from x) at.begins.value at.begins.rest at.begins.begins

-- the first part begins there
pub begins_first : (first : Format) (rest : Tree → Format) (x : List ℕ) (from : ℕ) → BeginsAt (then_format first rest) x from → BeginsSome first.spells (drop from x)
begins_first first rest x from at = let split = parts_at first rest x from at in record { value = split.value; rest = split.middle; begins = split.begins }

module _ (first : Format) (rest : Tree → Format) (laws : MeetsLaws first) (x : List ℕ) (from : ℕ) (value : Tree) (left : List ℕ) (b : Begins first.spells (drop from x) value left) where
  decided : BeginsAt (then_format first rest) x from → BeginsSome (rest value).spells left
  decided at =
      let split = parts_at first rest x from at in
      let same = one_front first.spells (drop from x) first.announced laws.spelled value split.value left split.middle b split.begins in
      subst (λ (u : List ℕ). BeginsSome (rest value).spells u) same.1 (subst (λ (w : Tree). BeginsSome (rest w).spells split.middle) (sym same.0) split.others)

  others_at : BeginsAt (then_format first rest) x from → (middle : ℕ) → middle ≡ length x - length left → BeginsAt (rest value) x middle
  others_at at middle is =
      let all = counted_from first.spells x from at.within b in
      let place : middle ≡ from + length b.front = omega (arith, is, all) in
      let here : drop middle x ≡ left = ap (λ (n : ℕ). drop n x) place ∙ rest_at first.spells x from at.within b in
      record {
        within = omega (arith, place, all);
        begins = subst (λ (u : List ℕ). BeginsSome (rest value).spells u) (sym here) (decided at);
      }

  first_at : from ≤ length x → (size : ℕ) → size ≡ length x - length left - from → first.spells Reading (bytes_at from size x) value × (from + size ≡ length x - length left)
  first_at within size is =
      let all = counted_from first.spells x from within b in
      let count : size ≡ length b.front = omega (arith, is, all) in
      let here : bytes_at from size x ≡ b.front = ap (λ (n : ℕ). bytes_at from n x) count ∙ front_at first.spells x from within b in
      (subst (λ (u : List ℕ). first.spells Reading u value) (sym here) b.spelled, omega (arith, count, all))

-- as the calls tell
pub are_decided : (first : Format) (second third : Tree → Format) → MeetsLaws first → ((v : Tree) → MeetsLaws (second v)) → (x : List ℕ) → length x < 2 ^ 64 → (from : ℕ) (value : Tree) (left : List ℕ) → Begins first.spells (drop from x) value left
    → (a b c : Span) (middle behind : ℕ) → middle ≡ length x - length left → a.offset ≡ from → a.size ≡ middle - from
    → (BeginsAt (second value) x middle → IsFieldFrom (second value) x middle b) → (span_end b < 2 ^ 64 → behind ≡ span_end b) → (BeginsAt (third value) x behind → IsFieldFrom (third value) x behind c)
    → BeginsAt (then_format first (λ v. pair_format (second v) (third v))) x from → AreDecided first second third x from a b c
are_decided first second third laws second_laws x small from value left begins a b c middle behind is a_offset a_size b_told behind_told c_told at =
    let rest : Tree → Format = λ v. pair_format (second v) (third v) in
    let f = first_at first rest laws x from value left begins at.within a.size (a_size ∙ ap (λ (n : ℕ). n - from) is) in
    let others = others_at first rest laws x from value left begins at middle is in
    let place : middle ≡ span_end a = omega (arith, is, f.1, a_offset) in
    let b_is = b_told (first_begins (second value) (fields_format (third value) nothing_format) x middle others) in
    let b_ends = field_ends (second value) x middle b b_is in
    let next : behind ≡ span_end b = behind_told (omega (arith, small, b_ends.within)) in
    let last = others_begin_at (fields_format (third value) nothing_format) x middle (span_end b) (second_laws value) others b_ends in
    let c_is = subst (λ (n : ℕ). BeginsAt (third value) x n → IsFieldFrom (third value) x n c) next c_told (first_begins (third value) nothing_format x (span_end b) last) in
    record {
      value = value;
      first_begins = a_offset;
      first_spelled = f.0;
      second_is = subst (λ (n : ℕ). IsFieldFrom (second value) x n b) place b_is;
      third_is = c_is;
    }
