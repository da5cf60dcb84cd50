-- The tag of what comes second in a pair, from its place.
use Rattle.std.proofs.Common.{◌≡◌, ℕ, ◌+◌, List, ◌++◌, drop, sym, ap, subst, ◌∙◌, arith, append_assoc}
use Rattle.tls_codec_base.specs.OwnMessages.{Tree, Number, Empty, Join, Format, Variants, MeetsLaws, number_format, pair_format, pair_tree, tagged_format, u16_meets}
use Rattle.tls_codec_grammar.specs.Grammar.{number}
use Rattle.tls_codec_grammar.specs.Decoding.{Begins}
use Rattle.tls_codec_base.proofs.BothPaths.{one_front}
use Rattle.tls_codec_outcome.specs.Fields.{BeginsAt, IsField, IsTagAt}
use Rattle.tls_codec_outcome.specs.Ends.{leaves_after}

module _ (first : Format) (laws : MeetsLaws first) (variants : Variants) (x : List ℕ) (size tag : ℕ) (p : IsField first x 0 size) (told : BeginsAt (number_format 2) x size → IsTagAt 2 x size tag) where
  abbrev whole : Format
  whole = pair_format first (tagged_format 2 variants)

  -- a value of the pair has this tag
  tag_is : (v : Tree) (t : ℕ) (ts : Tree) (rest : List ℕ) → Begins whole.spells x (pair_tree v (Join (Number t) ts)) rest → Number tag ≡ Number t
  tag_is v t ts rest b =
      let q = b.spelled in
      let tagged = q.second.first in
      let middle = q.rest ++ rest in
      let here : Begins first.spells x v middle = record {
        front = q.front;
        whole = b.whole ∙ ap (λ (u : List ℕ). u ++ rest) q.whole ∙ append_assoc q.front q.rest rest;
        spelled = q.first;
      } in
      let left = leaves_after first x 0 size p in
      let place : 0 + size ≡ size = omega arith in
      let same : middle ≡ drop size x =
      (one_front first.spells x first.announced laws.spelled left.value v (drop (0 + size) x) middle left.begins here).1 ∙ ap (λ (n : ℕ). drop n x) place in
      let behind = tagged.rest ++ (q.second.rest ++ rest) in
      let number_here : Begins (number 2) middle (Number t) behind = record {
        front = tagged.front;
        whole = ap (λ (u : List ℕ). u ++ rest) (q.second.whole ∙ ap (λ (u : List ℕ). u ++ q.second.rest) tagged.whole)
            ∙ append_assoc (tagged.front ++ tagged.rest) q.second.rest rest ∙ append_assoc tagged.front tagged.rest (q.second.rest ++ rest);
        spelled = tagged.first;
      } in
      let there : Begins (number 2) (drop size x) (Number t) behind = subst (λ (u : List ℕ). Begins (number 2) u (Number t) behind) same number_here in
      let found = told (record { within = omega (arith, place, p.within); begins = record { value = Number t; rest = behind; begins = there } }) in
      (one_front (number 2) (drop size x) (number_format 2).announced u16_meets.spelled (Number tag) (Number t) found.rest behind found.begins there).0

  tag_found : (value : Tree) (rest : List ℕ) → Begins whole.spells x value rest → (v : Tree) × (ts : Tree) × Begins whole.spells x (pair_tree v (Join (Number tag) ts)) rest
  tag_found (Join v (Join (Join (Number t) ts) Empty)) rest b =
      (v, ts, subst (λ (n : Tree). Begins whole.spells x (pair_tree v (Join n ts)) rest) (sym (tag_is v t ts rest b)) b)
  tag_found (Join v (Join (Join (Number t) ts) (Number n))) rest b = absurd b.spelled.second.second
  tag_found (Join v (Join (Join (Number t) ts) (Join w ws))) rest b = absurd b.spelled.second.second
  tag_found (Join v (Join (Join Empty ts) ws)) rest b = absurd b.spelled.second.first
  tag_found (Join v (Join (Join (Join t us) ts) ws)) rest b = absurd b.spelled.second.first
  tag_found (Join v (Join (Number n) ws)) rest b = absurd b.spelled.second.first
  tag_found (Join v (Join Empty ws)) rest b = absurd b.spelled.second.first
  tag_found (Join v (Number n)) rest b = absurd b.spelled.second
  tag_found (Join v Empty) rest b = absurd b.spelled.second
  tag_found (Number n) rest b = absurd b.spelled
  tag_found Empty rest b = absurd b.spelled

  -- a value of the pair that x begins with has this tag
  pub tag_of_second : BeginsAt whole x 0 → (v : Tree) × (ts : Tree) × (rest : List ℕ) × Begins whole.spells x (pair_tree v (Join (Number tag) ts)) rest
  tag_of_second at =
      let found = tag_found at.begins.value at.begins.rest at.begins.begins in
      (found.0, found.1, at.begins.rest, found.2)
