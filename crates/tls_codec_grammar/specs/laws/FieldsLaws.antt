-- The laws of products, from those of their parts.
use Rattle.std.proofs.Common.{◌≡◌, ℕ, List, ◌++◌, length, refl, sym, ap, ◌∙◌, arith, length-append}
use Rattle.tls_codec_grammar.specs.Tree.{Tree, Empty, Join}
use Rattle.tls_codec_grammar.specs.Grammar.{Grammar, Reading, Writing, nothing, fields}
use Rattle.tls_codec_grammar.specs.Shortest.{IsShortest}
use Rattle.tls_codec_grammar.specs.Announced.{capped, nothing_length, fields_length}
use Rattle.tls_codec_grammar.specs.Lawful.{IsLawful}
use Rattle.tls_codec_grammar.specs.laws.RowLaws.{row_one, row_alone, row_least, row_map}

-- no bytes meet the laws
pub nothing_lawful : IsLawful nothing nothing_length
nothing_lawful = record { one = nothing_one; alone = nothing_alone; written = λ s v p. p; announces = nothing_announces }
  where
    nothing_one : (s t x y : List ℕ) (v w : Tree) → nothing Reading s v → nothing Reading t w → s ++ x ≡ t ++ y → (s ≡ t) × (v ≡ w)
    nothing_one s t x y Empty Empty p q e = (p ∙ sym q, refl)
    nothing_one s t x y _ _ p q e = absurd search

    nothing_alone : (s t : List ℕ) (v : Tree) → nothing Writing s v → nothing Writing t v → s ≡ t
    nothing_alone s t Empty p q = p ∙ sym q
    nothing_alone s t _ p q = absurd p

    nothing_announces : (s : List ℕ) (v : Tree) → nothing Writing s v → 0 ≡ capped (length s)
    nothing_announces s Empty p = omega (arith, ap length p)
    nothing_announces s _ p = absurd p

-- the shortest forms of a first part and of the others, in a row, are the product's
pub fields_least : (first others : Grammar) (v vs : Tree) (a b : List ℕ) → IsShortest first a v → IsShortest others b vs → IsShortest (fields first others) (a ++ b) (Join v vs)
fields_least first others v vs a b p q = row_least (λ u. first Writing u v) (λ u. others Writing u vs) a b p q

module _ (first others : Grammar) (f g : Tree → ℕ) (l : IsLawful first f) (m : IsLawful others g) where
  fields_one : (s t x y : List ℕ) (v w : Tree) → fields first others Reading s v → fields first others Reading t w → s ++ x ≡ t ++ y → (s ≡ t) × (v ≡ w)
  fields_one s t x y (Join v vs) (Join w ws) p q e =
      let h = row_one (λ b. first Reading b v) (λ b. others Reading b vs) (λ b. first Reading b w) (λ b. others Reading b ws) (v ≡ w) (vs ≡ ws)
      (λ a b x y p q e. l.one a b x y v w p q e) (λ a b x y p q e. m.one a b x y vs ws p q e) s t x y p q e in
      (h.0, ap (λ (u : Tree). Join u vs) h.1.0 ∙ ap (λ (u : Tree). Join w u) h.1.1)
  fields_one s t x y _ _ p q e = absurd search

  fields_alone : (s t : List ℕ) (v : Tree) → fields first others Writing s v → fields first others Writing t v → s ≡ t
  fields_alone s t (Join v vs) p q = row_alone (λ u. first Writing u v) (λ u. others Writing u vs) s t (λ a b. l.alone a b v) (λ a b. m.alone a b vs) p q
  fields_alone s t _ p q = absurd p

  fields_written : (s : List ℕ) (v : Tree) → fields first others Reading s v → fields first others Writing s v
  fields_written s (Join v vs) p = row_map _ _ _ _ s (λ t q. l.written t v q) (λ t q. m.written t vs q) p
  fields_written s _ p = absurd p

  fields_announces : (s : List ℕ) (v : Tree) → fields first others Writing s v → fields_length f g v ≡ capped (length s)
  fields_announces s (Join v vs) p = omega (arith, ap length p.whole, length-append p.front p.rest, l.announces p.front v p.first, m.announces p.rest vs p.second)
  fields_announces s _ p = absurd p

  -- products of lawful parts meet the laws
  pub fields_lawful : IsLawful (fields first others) (fields_length f g)
  fields_lawful = record { one = fields_one; alone = fields_alone; written = fields_written; announces = fields_announces }
