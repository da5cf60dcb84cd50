-- The laws of a dependent pair, from those of its first part and of each second one.
use Rattle.std.proofs.Common.{◌≡◌, ℕ, List, ◌++◌, length, inl, inr, sym, ap, subst, ◌∙◌, append_assoc}
use Rattle.tls_codec_wire.specs.declared.error.Error.{Error}
use Rattle.tls_codec_wire.specs.declared.error.Error.TheVariants.{OutOfMemory}
use Rattle.tls_codec_grammar.specs.Tree.{Tree, Join}
use Rattle.tls_codec_grammar.specs.Grammar.{Reading, Writing, fields}
use Rattle.tls_codec_grammar.specs.Shortest.{HasNoSpelling}
use Rattle.tls_codec_grammar.specs.Announced.{capped, fields_length}
use Rattle.tls_codec_grammar.specs.Format.{Format}
use Rattle.tls_codec_grammar.specs.Lawful.{IsLawful, MeetsLaws}
use Rattle.tls_codec_grammar.specs.Contexts.{EachMeetsLaws, then_format}
use Rattle.tls_codec_grammar.specs.laws.FieldsLaws.{fields_lawful}

module _ (first : Format) (rest : Tree → Format) (l : MeetsLaws first) (m : EachMeetsLaws rest) where
  -- at one value of the first part the pair is a product
  at_value : (v : Tree) → IsLawful (fields first.spells (rest v).spells) (fields_length first.announced (rest v).announced)
  at_value v = fields_lawful _ _ _ _ l.spelled (m v).spelled

  then_one : (s t x y : List ℕ) (v w : Tree) → (then_format first rest).spells Reading s v
      → (then_format first rest).spells Reading t w → s ++ x ≡ t ++ y → (s ≡ t) × (v ≡ w)
  then_one s t x y (Join v vs) (Join w ws) p q e =
      let left : p.front ++ (p.rest ++ x) ≡ s ++ x = sym (append_assoc p.front p.rest x) ∙ ap (λ (u : List ℕ). u ++ x) (sym p.whole) in
      let right : t ++ y ≡ q.front ++ (q.rest ++ y) = ap (λ (u : List ℕ). u ++ y) q.whole ∙ append_assoc q.front q.rest y in
      let long : p.front ++ (p.rest ++ x) ≡ q.front ++ (q.rest ++ y) = left ∙ e ∙ right in
      let firsts = l.spelled.one p.front q.front (p.rest ++ x) (q.rest ++ y) v w p.first q.first long in
      let same : w ≡ v = sym firsts.1 in
      let other = subst (λ (u : Tree). fields first.spells (rest u).spells Reading t (Join u ws)) same q in
      let h = (at_value v).one s t x y (Join v vs) (Join v ws) p other e in
      (h.0, h.1 ∙ ap (λ (u : Tree). Join u ws) (sym same))
  then_one s t x y _ _ p q e = absurd search

  then_alone : (s t : List ℕ) (v : Tree) → (then_format first rest).spells Writing s v
      → (then_format first rest).spells Writing t v → s ≡ t
  then_alone s t (Join v vs) p q = (at_value v).alone s t (Join v vs) p q
  then_alone s t _ p q = absurd p

  then_written : (s : List ℕ) (v : Tree) → (then_format first rest).spells Reading s v → (then_format first rest).spells Writing s v
  then_written s (Join v vs) p = (at_value v).written s (Join v vs) p
  then_written s _ p = absurd p

  then_announces : (s : List ℕ) (v : Tree) → (then_format first rest).spells Writing s v
      → (then_format first rest).announced v ≡ capped (length s)
  then_announces s (Join v vs) p = (at_value v).announces s (Join v vs) p
  then_announces s _ p = absurd p

  then_unspelled : (v : Tree) (e : Error) → (then_format first rest).refuses v e → HasNoSpelling (then_format first rest).spells v
  then_unspelled (Join v vs) e (inl p) s q = l.unspelled v e p q.front q.first
  then_unspelled (Join v vs) e (inr p) s q = (m v).unspelled vs e p q.rest q.second
  then_unspelled _ e p s q = absurd search

  then_not_memory : (v : Tree) → (then_format first rest).refuses v OutOfMemory → ⊥
  then_not_memory (Join v vs) (inl p) = l.not_memory v p
  then_not_memory (Join v vs) (inr p) = (m v).not_memory vs p
  then_not_memory _ p = absurd search

  then_all : MeetsLaws (then_format first rest)
  then_all = record {
    spelled = record { one = then_one; alone = then_alone; written = then_written; announces = then_announces };
    unspelled = then_unspelled;
    not_memory = then_not_memory;
    outside = λ v p. absurd p;
  }

-- a pair whose second part depends on the first meets the laws, if the first part does, and each
-- second one
pub then_meets : {first : Format} {rest : Tree → Format} → MeetsLaws first → EachMeetsLaws rest → MeetsLaws (then_format first rest)
then_meets {first} {rest} l m = then_all first rest l m
