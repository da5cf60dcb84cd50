-- Elements that are read in a row from the front of some bytes.
use Rattle.std.proofs.Common.{◌≡◌, ℕ, ◌+◌, ◌-◌, ◌<◌, ◌≤◌, List, [], ◌∷◌, ◌++◌, length, take, drop, take-append-drop, Bool, false, refl, sym, ap, subst, ◌∙◌, inl, inr, append_assoc, append-nil, arith, length-append}
use Rattle.std.proofs.lemmas.List.{append_cancel_left, nil_from_length}
use Rattle.tls_codec_wire.specs.declared.error.Error.{Error}
use Rattle.tls_codec_grammar.specs.Tree.{Tree, Empty, Join, trees}
use Rattle.tls_codec_grammar.specs.Grammar.{Reading, Grammar, content, sized}
use Rattle.tls_codec_grammar.specs.Lawful.{IsLawful}
use Rattle.tls_codec_grammar.specs.Decoding.{Begins, NoMemoryFor, NoneBegins, Refuses}
use Rattle.tls_codec_grammar.specs.Shortest.{IsHollow}
use Rattle.tls_codec_grammar.specs.Format.{Format}
use Rattle.tls_codec_base.specs.PartNames.{Overruns, SliceNames, element_names, elements_names}

-- the front of x is a content of v, and left of n bytes are still to be read
pub record ReadSoFar (element : Grammar) (x : List ℕ) (n left : ℕ) (v : Tree) (rest : List ℕ) : Type 0 where
  pub front : List ℕ
  pub whole : x ≡ front ++ rest
  pub fills : length front + left ≡ n
  pub spelled : content element Reading front v

-- nothing was read
pub read_none : (element : Grammar) (x : List ℕ) (n : ℕ) → ReadSoFar element x n n Empty x
read_none element x n = record { front = []; whole = refl; fills = omega arith; spelled = refl }

-- a content and then an element are a content
pub content_more : {T : Type 0} (plain : T → Tree) (element : Grammar) (c : List ℕ) (xs : List T) (s : List ℕ) (x : T) → content element Reading c (trees plain xs) → element Reading s (plain x) → 0 < length s → content element Reading (c ++ s) (trees plain (xs ++ x ∷ []))
content_more plain element c [] s x p q some = record { front = s; rest = []; whole = ap (λ (u : List ℕ). u ++ s) p ∙ sym (append-nil s); first = (q, some); second = refl }
content_more plain element c (y ∷ ys) s x p q some = record {
  front = p.front;
  rest = p.rest ++ s;
  whole = ap (λ (u : List ℕ). u ++ s) p.whole ∙ append_assoc p.front p.rest s;
  first = p.first;
  second = content_more plain element p.rest ys s x p.second q some;
}

-- one element more was read
pub read_more : {T : Type 0} (plain : T → Tree) (element : Grammar) (x : List ℕ) (n left : ℕ) (xs : List T) (rest : List ℕ) (y : T) (behind : List ℕ) (ys : List T) → ReadSoFar element x n left (trees plain xs) rest → Begins element rest (plain y) behind → (length rest - length behind ≡ 0 → ⊥) → length rest - length behind ≤ left
    → ys ≡ xs ++ y ∷ [] → ReadSoFar element x n (left - (length rest - length behind)) (trees plain ys) behind
read_more {T} plain element x n left xs rest y behind ys p b some fits e = record {
  front = p.front ++ b.front;
  whole = p.whole ∙ ap (λ (u : List ℕ). p.front ++ u) b.whole ∙ sym (append_assoc p.front b.front behind);
  fills = omega (arith, p.fills, fits, length-append p.front b.front, ap length b.whole, length-append b.front behind);
  spelled = subst (λ (zs : List T). content element Reading (p.front ++ b.front) (trees plain zs)) (sym e)
      (content_more plain element p.front xs b.front y p.spelled b.spelled (omega (arith, some, ap length b.whole, length-append b.front behind)));
}

module _ (element : Grammar) (f : Tree → ℕ) (l : IsLawful element f) where
  -- an element begins r, and c with it is no longer than d
  pub record Next (c r d : List ℕ) : Type 0 where
    pub tree : Tree
    pub behind : List ℕ
    pub begins : Begins element r tree behind
    pub some : 0 < length begins.front
    pub fits : length c + length begins.front ≤ length d

  -- a longer content goes on with an element after a shorter one
  next : (c r d t : List ℕ) (v w : Tree) → content element Reading c v → content element Reading d w → c ++ r ≡ d ++ t → length c < length d → Next c r d
  next c r d t Empty Empty p q e lt = absurd (omega (arith, ap length p, ap length q))
  next c r d t Empty (Join w ws) p q e lt = record {
    tree = w;
    behind = q.rest ++ t;
    begins = record { front = q.front; whole = ap (λ (u : List ℕ). u ++ r) (sym p) ∙ e ∙ ap (λ (u : List ℕ). u ++ t) q.whole ∙ append_assoc q.front q.rest t; spelled = q.first.0 };
    some = q.first.1;
    fits = omega (arith, ap length p, ap length q.whole, length-append q.front q.rest);
  }
  next c r d t (Join v vs) Empty p q e lt = absurd (omega (arith, ap length q))
  next c r d t (Join v vs) (Join w ws) p q e lt =
      let long : p.front ++ (p.rest ++ r) ≡ q.front ++ (q.rest ++ t) = sym (append_assoc p.front p.rest r) ∙ ap (λ (u : List ℕ). u ++ r) (sym p.whole) ∙ e ∙ ap (λ (u : List ℕ). u ++ t) q.whole ∙ append_assoc q.front q.rest t in
      let h = l.one p.front q.front (p.rest ++ r) (q.rest ++ t) v w p.first.0 q.first.0 long in
      let rests : p.rest ++ r ≡ q.rest ++ t = append_cancel_left p.front (p.rest ++ r) (q.rest ++ t) (long ∙ ap (λ (u : List ℕ). u ++ (q.rest ++ t)) (sym h.0)) in
      let n = next p.rest r q.rest t vs ws p.second q.second rests (omega (arith, lt, ap length p.whole, ap length q.whole, length-append p.front p.rest, length-append q.front q.rest, ap length h.0)) in
      record {
        tree = n.tree;
        behind = n.behind;
        begins = n.begins;
        some = n.some;
        fits = omega (arith, n.fits, ap length p.whole, ap length q.whole, length-append p.front p.rest, length-append q.front q.rest, ap length h.0);
      }
  next c r d t _ _ p q e lt = absurd search

  -- if the list is there, it goes on with an element after what was read
  pub next_of : (x : List ℕ) (n left : ℕ) (v : Tree) (rest : List ℕ) (p : ReadSoFar element x n left v rest) → 0 < left → (w : Tree) (t : List ℕ) (b : Begins (sized n (content element)) x w t) → Next p.front rest b.front
  next_of x n left v rest p lt w t b = next p.front rest b.front t v w p.spelled b.spelled.1 (sym p.whole ∙ b.whole) (omega (arith, p.fills, b.spelled.0))

  -- if no element begins what is left, no list does
  none_after : (x : List ℕ) (n left : ℕ) (v : Tree) (rest : List ℕ) → ReadSoFar element x n left v rest → 0 < left → NoneBegins element rest → NoneBegins (sized n (content element)) x
  none_after x n left v rest p lt none w t b = let h = next_of x n left v rest p lt w t b in none h.tree h.behind h.begins

  -- an element is refused
  pub element_refused : (lean : Bool) (x : List ℕ) (n left : ℕ) (v : Tree) (rest : List ℕ) (e : Error) → ReadSoFar element x n left v rest → 0 < left → Refuses element lean rest e → Refuses (sized n (content element)) false x e
  element_refused lean x n left v rest e p lt r = record {
    cause = elim r.cause [
      | inl none ↦ inl (none_after x n left v rest p lt none)
      | inr memory ↦ inr memory
    ];
    memory = λ h. refl;
  }

  -- the element that was found is the list's next one
  found_length : (x : List ℕ) (n left : ℕ) (v : Tree) (rest : List ℕ) (u : Tree) (behind : List ℕ) (p : ReadSoFar element x n left v rest) → 0 < left → (b : Begins element rest u behind) → (w : Tree) (t : List ℕ) → Begins (sized n (content element)) x w t → (0 < length b.front) × (length b.front ≤ left)
  found_length x n left v rest u behind p lt b w t q =
      let h = next_of x n left v rest p lt w t q in
      let e = l.one b.front h.begins.front behind h.behind u h.tree b.spelled h.begins.spelled (sym b.whole ∙ h.begins.whole) in
      (omega (arith, ap length e.0, h.some), omega (arith, ap length e.0, h.fits, p.fills, q.spelled.0))

  -- if an element of no bytes is found, or one of too many, no list begins the bytes
  pub none_if_empty : (x : List ℕ) (n left : ℕ) (v : Tree) (rest : List ℕ) (u : Tree) (behind : List ℕ) → ReadSoFar element x n left v rest → 0 < left → Begins element rest u behind → length rest - length behind ≡ 0 → NoneBegins (sized n (content element)) x
  none_if_empty x n left v rest u behind p lt b e w t q =
      let h = found_length x n left v rest u behind p lt b w t q in
      absurd (omega (arith, h.0, e, ap length b.whole, length-append b.front behind))

  pub none_if_long : (x : List ℕ) (n left : ℕ) (v : Tree) (rest : List ℕ) (u : Tree) (behind : List ℕ) → ReadSoFar element x n left v rest → 0 < left → Begins element rest u behind → left < length rest - length behind → NoneBegins (sized n (content element)) x
  none_if_long x n left v rest u behind p lt b long w t q =
      let h = found_length x n left v rest u behind p lt b w t q in
      absurd (omega (arith, h.1, long, ap length b.whole, length-append b.front behind))

-- ---- what is named

-- the next element isn't taken
pub element_named : (element : Format) {x : List ℕ} {n left : ℕ} {v : Tree} {rest : List ℕ} {e : Error} (names : SliceNames) → ReadSoFar element.spells x n left v rest → 0 < left → element_names element names left rest e → elements_names element names n x e
element_named element {x} {n} {left} {v} {rest} names p some named = (
  left,
  record {
    front = p.front;
    rest = rest;
    whole = p.whole;
    is_front = record { elements = (v, p.spelled); fills = p.fills; some = some };
    named = named;
  },
)

-- an element begins the first n bytes, and so begins all of them
pub no_memory_at_first : {element : Grammar} (n : ℕ) {first x : List ℕ} {e : Error} → first ≡ take n x → NoMemoryFor element first e → NoMemoryFor element x e
no_memory_at_first {element} n {first} {x} are_first (out, p) =
    let rest = drop n x in
    let whole : x ≡ first ++ rest = sym (take-append-drop n x) ∙ ap (λ (u : List ℕ). u ++ rest) (sym are_first) in (
      out,
      record {
        value = p.value;
        rest = p.rest ++ rest;
        begins = record { front = p.begins.front; whole = whole ∙ ap (λ (u : List ℕ). u ++ rest) p.begins.whole ∙ append_assoc p.begins.front p.rest rest; spelled = p.begins.spelled };
      },
    )

-- an element of no bytes was found
pub found_empty : {element : Grammar} {x : List ℕ} {v : Tree} {rest : List ℕ} → Begins element x v rest → length x - length rest ≡ 0 → IsHollow element
found_empty {element} {x} {v} {rest} p none =
    let empty : p.front ≡ [] = nil_from_length p.front (omega (arith, none, ap length p.whole, length-append p.front rest)) in
    (v, subst (λ (s : List ℕ). element Reading s v) empty p.spelled)

-- an element of too many was
pub found_long : {element : Grammar} {left : ℕ} {x : List ℕ} {v : Tree} {rest : List ℕ} → Begins element x v rest → left < length x - length rest → Overruns element left x
found_long {element} {left} {x} {v} {rest} p long = record {
  value = v;
  rest = rest;
  begins = p;
  long = omega (arith, long, ap length p.whole, length-append p.front rest);
}
