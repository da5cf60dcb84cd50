-- What is read of all of some bytes, and appended: a first part that says where it ends, and others that go to the end.
use Rattle.std.proofs.Common.{◌≡◌, ℕ, List, ◌++◌, length, inl, inr, sym, ap, subst, ◌∙◌, length-append, arith}
use Rattle.std.specs.Prelude.{◌⊎◌, All}
use Rattle.std.proofs.lemmas.List.{append_cancel_left}
use Rattle.tls_codec_wire.specs.Digits.{AreBytes}
use Rattle.tls_codec_wire.specs.declared.error.Error.{Error}
use Rattle.tls_codec_wire.specs.declared.error.Error.TheVariants.{OutOfMemory}
use Rattle.tls_codec_grammar.specs.Tree.{Tree, Number, Join, number_trees}
use Rattle.tls_codec_grammar.specs.Grammar.{Reading, Writing, fields}
use Rattle.tls_codec_grammar.specs.Shortest.{IsShortest}
use Rattle.tls_codec_grammar.specs.Format.{Format, fields_format}
use Rattle.tls_codec_grammar.specs.Lawful.{MeetsLaws, MeetsLawsInside}
use Rattle.tls_codec_grammar.specs.Decoding.{Begins, NoneBegins, NoneSpelled, Refuses}
use Rattle.tls_codec_grammar.specs.Encoding.{Appended, AppendRefused}
use Rattle.tls_codec_grammar.specs.Inside.{bytes_to_end_format, zeros}
use Rattle.tls_codec_grammar.specs.laws.AloneLaws.{alone_inside}
use Rattle.tls_codec_grammar.specs.laws.RowLaws.{least_one}
use Rattle.tls_codec_grammar.proofs.Appending.{part_refused, whole_appended}
use Rattle.tls_codec_grammar.proofs.ByteContents.{bytes_shortest}

module _ (first others : Format) where
  -- if no first part begins, all of the bytes are no product
  none_inside_first : {x : List ℕ} → NoneBegins first.spells x → NoneSpelled (fields first.spells others.spells) x
  none_inside_first none (Join v vs) p = none v p.rest (record { front = p.front; whole = p.whole; spelled = p.first })
  none_inside_first none _ p = absurd p

  -- nor if what is after the first part isn't all of the others
  none_inside_rest : MeetsLaws first → {x : List ℕ} {v : Tree} {r : List ℕ} → Begins first.spells x v r → NoneSpelled others.spells r → NoneSpelled (fields first.spells others.spells) x
  none_inside_rest l {x} {v} {r} p none (Join w ws) q =
      let whole : p.front ++ r ≡ q.front ++ q.rest = sym p.whole ∙ q.whole in
      let firsts = l.spelled.one p.front q.front r q.rest v w p.spelled q.first whole in
      let left : r ≡ q.rest = append_cancel_left p.front r q.rest (whole ∙ ap (λ (u : List ℕ). u ++ q.rest) (sym firsts.0)) in
      none ws (subst (λ (u : List ℕ). others.spells Reading u ws) (sym left) q.second)
  none_inside_rest l p none _ q = absurd q

  pub inside_refused_first : {x : List ℕ} {e : Error} → Refuses first.spells first.lean x e → NoneSpelled (fields first.spells others.spells) x ⊎ (e ≡ OutOfMemory)
  inside_refused_first r = elim r.cause [
    | inl none ↦ inl (none_inside_first none)
    | inr out ↦ inr out
  ]

  pub inside_refused_rest : MeetsLaws first → {x : List ℕ} {v : Tree} {r : List ℕ} {e : Error} → Begins first.spells x v r → NoneSpelled others.spells r ⊎ (e ≡ OutOfMemory) → NoneSpelled (fields first.spells others.spells) x ⊎ (e ≡ OutOfMemory)
  inside_refused_rest l p (inl none) = inl (none_inside_rest l p none)
  inside_refused_rest l p (inr out) = inr out

  pub inside_read : {x : List ℕ} {v : Tree} {r : List ℕ} {vs : Tree} → Begins first.spells x v r → others.spells Reading r vs → fields first.spells others.spells Reading x (Join v vs)
  inside_read {x} {v} {r} p q = record { front = p.front; rest = r; whole = p.whole; first = p.spelled; second = q }

-- bytes that aren't all zeros are no padding
pub none_zeros : (x : List ℕ) → (All (λ b. b ≡ 0) x → ⊥) → NoneSpelled zeros x
none_zeros x not_all (Number n) p = not_all p.1
none_zeros x not_all _ p = absurd search

-- ---- after what a vector has

module _ {first others : Format} {v vs : Tree} where
  -- the shortest form of a product is those of its parts
  inside_form : MeetsLawsInside first → MeetsLawsInside others → (s : List ℕ) → IsShortest (fields first.spells others.spells) s (Join v vs)
      → (x : List ℕ) × (y : List ℕ) × (s ≡ x ++ y) × IsShortest first.spells x v × IsShortest others.spells y vs
  inside_form l m s p = (p.spelled.front, p.spelled.rest, p.spelled.whole, alone_inside l.spelled p.spelled.front v p.spelled.first, alone_inside m.spelled p.spelled.rest vs p.spelled.second)

  -- the first part is refused
  pub inside_not_appended_first : {a b d : List ℕ} {e : Error} → MeetsLawsInside first → MeetsLawsInside others → AppendRefused first v a b e → d ≡ a → AppendRefused (fields_format first others) (Join v vs) a d e
  inside_not_appended_first {a} {b} {d} {e} l m p kept = part_refused (fields_format first others) (Join v vs) a d p kept (λ named. inl named) (λ s q.
      let form = inside_form l m s q in
      (form.0, form.3, omega (arith, ap length form.2, length-append form.0 form.1)))

  -- the others are refused
  pub inside_not_appended_rest : {a b c d : List ℕ} {j : ℕ} {e : Error} → MeetsLawsInside first → MeetsLawsInside others → Appended first v a b j → AppendRefused others vs b c e → d ≡ a → AppendRefused (fields_format first others) (Join v vs) a d e
  inside_not_appended_rest {a} {b} {c} {d} {j} {e} l m p q kept = part_refused (fields_format first others) (Join v vs) a d q kept (λ named. inr named) (λ s r.
      let form = inside_form l m s r in
      let same : form.0 ≡ p.form = least_one (λ u. first.spells Writing u v) form.0 p.form form.3 p.shortest in
      (form.1, form.4, omega (arith, ap length form.2, length-append form.0 form.1, ap length same, ap length p.held, length-append a p.form)))

-- bytes are appended as they are
pub bytes_appended : {a b : List ℕ} {n : ℕ} (c : List ℕ) → AreBytes c → b ≡ a ++ c → n ≡ length c → Appended bytes_to_end_format (number_trees c) a b n
bytes_appended c bytes held count = whole_appended {f = bytes_to_end_format} (bytes_shortest c bytes) held count
