-- The laws of what comes after a length field, and of lists and texts.
use Rattle.std.proofs.Common.{◌≡◌, ◌↔◌, ℕ, ◌+◌, ◌^◌, List, ◌++◌, length, refl, sym, ap, subst, ◌∙◌, inl, inr, append_assoc, arith, length-append}
use Rattle.std.proofs.lemmas.List.{append_cancel_left}
use Rattle.std.proofs.lemmas.Bool.{cases_lt}
use Rattle.tls_codec_wire.specs.Varint.{VectorLength, width_below}
use Rattle.tls_codec_grammar.specs.Tree.{Tree, Number, Empty, Join}
use Rattle.tls_codec_grammar.specs.Grammar.{Direction, Reading, Writing, Grammar, Concat, Admits, number, content, counted, bytes, utf8}
use Rattle.tls_codec_grammar.specs.Shortest.{IsLeast, IsShortest}
use Rattle.tls_codec_grammar.specs.Announced.{capped, content_length, counted_length}
use Rattle.tls_codec_grammar.specs.Lawful.{IsLawful, IsLawfulInside, IsLengthField}
use Rattle.tls_codec_grammar.specs.laws.AloneLaws.{alone_shortest}
use Rattle.tls_codec_grammar.specs.laws.RowLaws.{split_at, row_alone, row_map}
use Rattle.tls_codec_grammar.specs.laws.NumberLaws.{digits_one, number_lawful}
use Rattle.tls_codec_grammar.specs.laws.VarintLaws.{below_field}

-- ---- contents

-- an element's spelling, as a content has it
abbrev pub Part : Grammar → Direction → Tree → List ℕ → Type 0
Part element d v s = element d s v × Admits d s

-- an element's shortest form is the least that a content may have for it
pub part_least : (element : Grammar) (s : List ℕ) (v : Tree) → IsShortest element s v → IsLeast (Part element Writing v) s
part_least element s v p = record { spelled = (p.spelled, tt); least = λ t q. p.least t q.0 }

module _ (element : Grammar) (f : Tree → ℕ) (l : IsLawful element f) where
  -- equal contents have equal elements
  pub content_same : (s t : List ℕ) (v w : Tree) → content element Reading s v → content element Reading t w → s ≡ t → v ≡ w
  content_same s t Empty Empty p q e = refl
  content_same s t Empty (Join w ws) p q e = absurd (omega (arith, ap length p, ap length e, ap length q.whole, length-append q.front q.rest, q.first.1))
  content_same s t (Join v vs) Empty p q e = absurd (omega (arith, ap length q, ap length e, ap length p.whole, length-append p.front p.rest, p.first.1))
  content_same s t (Join v vs) (Join w ws) p q e =
      let long : p.front ++ p.rest ≡ q.front ++ q.rest = sym p.whole ∙ e ∙ q.whole in
      let h = l.one p.front q.front p.rest q.rest v w p.first.0 q.first.0 long in
      let rests : p.rest ≡ q.rest = append_cancel_left p.front p.rest q.rest (long ∙ ap (λ (u : List ℕ). u ++ q.rest) (sym h.0)) in
      let k = content_same p.rest q.rest vs ws p.second q.second rests in
      ap (λ (u : Tree). Join u vs) h.1 ∙ ap (λ (u : Tree). Join w u) k
  content_same s t _ _ p q e = absurd search

  -- a content is the elements' writing spellings in a row, and so are equal ones
  pub content_alone : (s t : List ℕ) (v : Tree) → content element Writing s v → content element Writing t v → s ≡ t
  content_alone s t Empty p q = p ∙ sym q
  content_alone s t (Join v vs) p q = row_alone (Part element Writing v) (λ u. content element Writing u vs) s t (λ a b x y. l.alone a b v x.0 y.0) (λ a b. content_alone a b vs) p q
  content_alone s t (Number n) p q = absurd p

  -- the shortest content is the elements' shortest forms in a row
  pub content_in_a_row : (s : List ℕ) (v vs : Tree) → IsShortest (content element) s (Join v vs) ↔ Concat s (λ a. IsShortest element a v) (λ b. IsShortest (content element) b vs)
  content_in_a_row s v vs = (
    λ p. record {
      front = p.spelled.front;
      rest = p.spelled.rest;
      whole = p.spelled.whole;
      first = alone_shortest l p.spelled.front v p.spelled.first.0;
      second = record { spelled = p.spelled.second; least = λ t q. inl (content_alone t p.spelled.rest vs q p.spelled.second) };
    },
    λ r.
        let spelled : content element Writing s (Join v vs) = record { front = r.front; rest = r.rest; whole = r.whole; first = (r.first.spelled, tt); second = r.second.spelled } in
        record { spelled = spelled; least = λ t q. inl (content_alone t s (Join v vs) q spelled) },
  )

  -- a reading content is a writing one
  pub content_written : (s : List ℕ) (v : Tree) → content element Reading s v → content element Writing s v
  content_written s Empty p = p
  content_written s (Join v vs) p = row_map (Part element Reading v) (λ u. content element Reading u vs) (Part element Writing v) (λ u. content element Writing u vs) s (λ t q. (l.written t v q.0, tt)) (λ t q. content_written t vs q) p
  content_written s (Number n) p = absurd p

  -- the announced length of a content is its own
  pub content_announces : (s : List ℕ) (v : Tree) → content element Writing s v → content_length f v ≡ capped (length s)
  content_announces s Empty p = omega (arith, ap length p)
  content_announces s (Join v vs) p = omega (arith, ap length p.whole, length-append p.front p.rest, l.announces p.front v p.first.0, content_announces p.rest vs p.second)
  content_announces s (Number n) p = absurd p

  -- contents of lawful elements meet the laws of what comes after a length field
  pub content_lawful : IsLawfulInside (content element) (content_length f)
  content_lawful = record {
    same = λ c v w p q. content_same c c v w p q refl;
    alone = content_alone;
    written = content_written;
    announces = content_announces;
  }

-- ---- texts

-- bytes have one content
pub bytes_one : (v : Tree) (s t : List ℕ) → content (number 1) Writing s v → content (number 1) Writing t v → s ≡ t
bytes_one Empty s t p q = p ∙ sym q
bytes_one (Join (Number n) vs) s t p q =
    let h = digits_one 1 p.front q.front n p.first.0 q.first.0 in
    let k = bytes_one vs p.rest q.rest p.second q.second in
    p.whole ∙ ap (λ (u : List ℕ). u ++ p.rest) h ∙ ap (λ (u : List ℕ). q.front ++ u) k ∙ sym q.whole
bytes_one _ s t p q = absurd search

-- one-byte numbers meet the laws
pub byte_lawful : IsLawful (number 1) (λ v. 1)
byte_lawful = number_lawful 1 (omega arith)

-- contents of texts meet the laws of what comes after a length field
pub utf8_lawful : IsLawfulInside utf8 (content_length (λ v. 1))
utf8_lawful = record {
  same = λ c v w p q. content_same (number 1) (λ v. 1) byte_lawful c c v w p.0 q.0 refl;
  alone = λ c d v p q. bytes_one v c d p.0 q.0;
  written = λ c v p. (content_written (number 1) (λ v. 1) byte_lawful c v p.0, p.1);
  announces = λ c v p. content_announces (number 1) (λ v. 1) byte_lawful c v p.0;
}

-- ---- what a length field counts

-- if what is counted has 2 ^ 64 bytes or more, the greatest number is announced, whatever the field
pub capped_counted : (width : ℕ → ℕ) (c n a : ℕ) → c ≡ capped n → width n ≡ a → capped (width c + c) ≡ capped (a + n)
capped_counted width c n a e m = elim (cases_lt n (2 ^ 64)) [
  | inl lt ↦ let same : c ≡ n = omega arith in omega (arith, ap width same)
  | inr le ↦ omega arith
]

module _ (field : List ℕ → ℕ → Type 0) (width : ℕ → ℕ) (m : IsLengthField field width) (inside : Grammar) (f : Tree → ℕ) (l : IsLawfulInside inside f) where
  -- spellings that begin one byte list are equal, and so are their values
  counted_one : (s t x y : List ℕ) (v w : Tree) → counted field inside Reading s v → counted field inside Reading t w → s ++ x ≡ t ++ y → (s ≡ t) × (v ≡ w)
  counted_one s t x y v w p q e =
      let long : p.count ++ (p.inside ++ x) ≡ q.count ++ (q.inside ++ y) = sym (append_assoc p.count p.inside x) ∙ ap (λ (u : List ℕ). u ++ x) (sym p.whole) ∙ e ∙ ap (λ (u : List ℕ). u ++ y) q.whole ∙ append_assoc q.count q.inside y in
      let h = m.one p.count q.count (p.inside ++ x) (q.inside ++ y) (length p.inside) (length q.inside) p.counts q.counts long in
      let k = split_at p.inside q.inside x y h.1 (append_cancel_left p.count (p.inside ++ x) (q.inside ++ y) (long ∙ ap (λ (u : List ℕ). u ++ (q.inside ++ y)) (sym h.0))) in
      (p.whole ∙ ap (λ (u : List ℕ). u ++ p.inside) h.0 ∙ ap (λ (u : List ℕ). q.count ++ u) k.0 ∙ sym q.whole, l.same q.inside v w (subst (λ (u : List ℕ). inside Reading u v) k.0 p.is_inside) q.is_inside)

  counted_alone : (s t : List ℕ) (v : Tree) → counted field inside Writing s v → counted field inside Writing t v → s ≡ t
  counted_alone s t v p q =
      let insides : p.inside ≡ q.inside = l.alone p.inside q.inside v p.is_inside q.is_inside in
      let counts : p.count ≡ q.count = m.alone p.count q.count (length q.inside) (subst (λ (u : List ℕ). field p.count (length u)) insides p.counts) q.counts in
      p.whole ∙ ap (λ (u : List ℕ). u ++ p.inside) counts ∙ ap (λ (u : List ℕ). q.count ++ u) insides ∙ sym q.whole

  counted_written : (s : List ℕ) (v : Tree) → counted field inside Reading s v → counted field inside Writing s v
  counted_written s v p = record { count = p.count; inside = p.inside; whole = p.whole; counts = p.counts; is_inside = l.written p.inside v p.is_inside }

  counted_announces : (s : List ℕ) (v : Tree) → counted field inside Writing s v → counted_length width f v ≡ capped (length s)
  counted_announces s v p =
      capped_counted width (f v) (length p.inside) (length p.count) (l.announces p.inside v p.is_inside) (m.measures p.count (length p.inside) p.counts)
      ∙ ap capped (sym (ap length p.whole ∙ length-append p.count p.inside))

  -- a length field and what it counts meet the laws
  pub counted_lawful : IsLawful (counted field inside) (counted_length width f)
  counted_lawful = record { one = counted_one; alone = counted_alone; written = counted_written; announces = counted_announces }

  -- a field and the inside that it counts are the shortest form
  pub counted_shortest : (a c : List ℕ) (v : Tree) → field a (length c) → inside Writing c v → IsShortest (counted field inside) (a ++ c) v
  counted_shortest a c v counts is_inside = alone_shortest counted_lawful (a ++ c) v (record { count = a; inside = c; whole = refl; counts = counts; is_inside = is_inside })

-- ---- byte vectors

-- byte vectors meet the laws
pub bytes_lawful : IsLawful bytes (counted_length (width_below (2 ^ 30)) (content_length (λ v. 1)))
bytes_lawful = counted_lawful VectorLength (width_below (2 ^ 30)) (below_field (2 ^ 30)) (content (number 1)) (content_length (λ v. 1)) (content_lawful (number 1) (λ v. 1) byte_lawful)
