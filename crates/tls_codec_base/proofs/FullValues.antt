-- Which values are full, by the laws of their spellings.
use Rattle.std.proofs.Common.{◌≡◌, ◌↔◌, ◌⊎◌, ℕ, ◌<◌, List, [], ◌∷◌, length, refl, sym, ap, subst, inl, inr, append-nil, arith}
use Rattle.tls_codec_grammar.specs.Tree.{Tree, Number, Empty, Join}
use Rattle.tls_codec_grammar.specs.Grammar.{Reading, Writing, Grammar, number, varint, option, nothing, fields, content, counted, utf8}
use Rattle.tls_codec_grammar.specs.Shortest.{IsFull, IsHollow}
use Rattle.tls_codec_grammar.specs.Lawful.{IsLawful}
use Rattle.tls_codec_grammar.specs.laws.AloneLaws.{alone_full}
use Rattle.tls_codec_grammar.specs.laws.ListLaws.{Part}
use Rattle.tls_codec_grammar.specs.laws.RowLaws.{row_map}
use Rattle.tls_codec_base.specs.Full.{EachIsFull}

-- ---- what is always full

pub number_full : (k : ℕ) (v : Tree) → IsFull (number k) v
number_full k (Number n) t p = p
number_full k _ t p = absurd p

pub varint_full : (v : Tree) → IsFull varint v
varint_full (Number n) t p = p
varint_full _ t p = absurd p

pub nothing_full : (v : Tree) → IsFull nothing v
nothing_full Empty t p = p
nothing_full _ t p = absurd p

-- ---- what has parts

-- what has a spelling is full exactly if that is read
pub full_read : {spells : Grammar} {f : Tree → ℕ} → IsLawful spells f → (s : List ℕ) (v : Tree) → spells Writing s v → (IsFull spells v ↔ spells Reading s v)
full_read l s v p = (λ full. full s p, λ q. alone_full l s v q)

pub option_full : {payload : Grammar} {f : Tree → ℕ} → IsLawful payload f → (s : List ℕ) (v : Tree) → option payload Writing s (Join v Empty) → (IsFull (option payload) (Join v Empty) ↔ IsFull payload v)
option_full l s v p = (
  λ full. let q = full s p in alone_full l q.0 v q.2,
  λ full t q. (q.0, q.1, full q.0 q.2),
)

pub fields_full : {first others : Grammar} {f g : Tree → ℕ} → IsLawful first f → IsLawful others g → (s : List ℕ) (v vs : Tree) → fields first others Writing s (Join v vs)
    → (IsFull (fields first others) (Join v vs) ↔ (IsFull first v × IsFull others vs))
fields_full {first} {others} l m s v vs p = (
  λ full. let q = full s p in (alone_full l q.front v q.first, alone_full m q.rest vs q.second),
  λ full t q. row_map (λ u. first Writing u v) (λ u. others Writing u vs) (λ u. first Reading u v) (λ u. others Reading u vs) t full.0 full.1 q,
)

-- what comes after a tag is full if the choice is
pub choice_full : (k : ℕ) {parts : Grammar} {f : Tree → ℕ} → IsLawful parts f → (s : List ℕ) (tag : ℕ) (vs : Tree) → fields (number k) parts Writing s (Join (Number tag) vs)
    → (IsFull (fields (number k) parts) (Join (Number tag) vs) ↔ IsFull parts vs)
choice_full k {parts} l s tag vs p = (
  λ full. let q = full s p in alone_full l q.rest vs q.second,
  λ full t q. row_map (λ u. number k Writing u (Number tag)) (λ u. parts Writing u vs) (λ u. number k Reading u (Number tag)) (λ u. parts Reading u vs) t (number_full k (Number tag)) full q,
)

-- ---- lists

module _ (element : Grammar) where
  -- what is read of a type that isn't hollow has bytes
  read_has_bytes : (IsHollow element → ⊥) → (s : List ℕ) (v : Tree) → element Reading s v → 0 < length s
  read_has_bytes filled [] v p = absurd (filled (v, p))
  read_has_bytes filled (b ∷ bs) v p = omega arith

  -- full elements of such a type are read in a row
  pub content_full : (IsHollow element → ⊥) → (v : Tree) → EachIsFull element v → IsFull (content element) v
  content_full filled Empty full c p = p
  content_full filled (Join v vs) full c p = row_map (Part element Writing v) (λ s. content element Writing s vs) (Part element Reading v) (λ s. content element Reading s vs) c (λ s q. let r = full.0 s q.0 in (r, read_has_bytes filled s v r)) (content_full filled vs full.1) p
  content_full filled (Number n) full c p = absurd full

  -- so is no element
  pub content_read : (v : Tree) → ((v ≡ Empty) ⊎ ((IsHollow element → ⊥) × EachIsFull element v)) → IsFull (content element) v
  content_read v (inl none) c p = subst (IsFull (content element)) (sym none) (λ d q. q) c p
  content_read v (inr some) c p = content_full some.0 v some.1 c p

module _ (element : Grammar) (f : Tree → ℕ) (l : IsLawful element f) where
  -- elements that are read are full
  each_full : (c : List ℕ) (v : Tree) → content element Reading c v → EachIsFull element v
  each_full c Empty p = tt
  each_full c (Join v vs) p = (alone_full l p.front v p.first.0, each_full p.rest vs p.second)
  each_full c (Number n) p = p

  -- if one of them is, the type isn't hollow
  not_hollow : (s : List ℕ) (v : Tree) → element Reading s v → 0 < length s → IsHollow element → ⊥
  not_hollow s v p some hollow =
      let same = l.one [] s s [] hollow.0 v hollow.1 p (sym (append-nil s)) in
      omega (arith, some, ap length same.0)

  pub parts_of_read : (c : List ℕ) (v : Tree) → content element Reading c v → (v ≡ Empty) ⊎ ((IsHollow element → ⊥) × EachIsFull element v)
  parts_of_read c Empty p = inl refl
  parts_of_read c (Join v vs) p = inr (not_hollow p.front v p.first.0 p.first.1, each_full c (Join v vs) p)
  parts_of_read c (Number n) p = absurd p

-- what is counted is full if it is so without its length
pub counted_full : (field : List ℕ → ℕ → Type 0) (inside : Grammar) (v : Tree) → IsFull inside v → IsFull (counted field inside) v
counted_full field inside v full t p = record { count = p.count; inside = p.inside; whole = p.whole; counts = p.counts; is_inside = full p.inside p.is_inside }

-- a list is full exactly if it is empty, or its elements are full and their type isn't hollow
pub list_full : (field : List ℕ → ℕ → Type 0) {element : Grammar} {f : Tree → ℕ} → IsLawful element f → (s : List ℕ) (v : Tree) → counted field (content element) Writing s v
    → (IsFull (counted field (content element)) v ↔ ((v ≡ Empty) ⊎ ((IsHollow element → ⊥) × EachIsFull element v)))
list_full field {element} {f} l s v p = (
  λ full. let q = full s p in parts_of_read element f l q.inside v q.is_inside,
  λ parts. counted_full field (content element) v (content_read element v parts),
)

-- ---- bytes and texts

byte_not_hollow : IsHollow (number 1) → ⊥
byte_not_hollow (Number n, p) = omega (arith, p.width)
byte_not_hollow (_, p) = absurd p

-- bytes in a row are full
pub bytes_full : (v : Tree) → IsFull (content (number 1)) v
bytes_full Empty c p = p
bytes_full (Join v vs) c p = row_map (Part (number 1) Writing v) (λ s. content (number 1) Writing s vs) (Part (number 1) Reading v) (λ s. content (number 1) Reading s vs) c (λ s q. let r = number_full 1 v s q.0 in (r, read_has_bytes (number 1) byte_not_hollow s v r)) (bytes_full vs) p
bytes_full (Number n) c p = absurd p

pub utf8_full : (v : Tree) → IsFull utf8 v
utf8_full v c p = (bytes_full v c p.0, p.1)
