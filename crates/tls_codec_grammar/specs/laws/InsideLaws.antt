-- The laws of what a length encloses, and of what goes up to an end.
use Rattle.std.proofs.Common.{◌≡◌, ℕ, List, [], ◌++◌, length, inl, inr, refl, sym, ap, subst, ◌∙◌, ◌<◌, arith, length-append}
use Rattle.std.proofs.lemmas.List.{append_cancel_left, same_lists}
use Rattle.tls_codec_wire.specs.declared.error.Error.{Error}
use Rattle.tls_codec_wire.specs.declared.error.Error.TheVariants.{OutOfMemory}
use Rattle.tls_codec_grammar.specs.Tree.{Tree, Number, Join}
use Rattle.tls_codec_grammar.specs.Grammar.{Reading, Writing, fields}
use Rattle.tls_codec_grammar.specs.Shortest.{HasNoSpelling}
use Rattle.tls_codec_grammar.specs.Announced.{capped, fields_length}
use Rattle.tls_codec_grammar.specs.Field.{Field}
use Rattle.tls_codec_grammar.specs.Format.{Format, fields_format, fields_refuses}
use Rattle.tls_codec_grammar.specs.Inside.{bytes_to_end_format, enclosed_format, zeros, zeros_format, zeros_length}
use Rattle.tls_codec_grammar.specs.Lawful.{MeetsFieldLaws, MeetsLaws, MeetsLawsInside}
use Rattle.tls_codec_grammar.specs.laws.RowLaws.{row_alone, row_map}
use Rattle.tls_codec_grammar.specs.laws.FormatLaws.{content_meets, counted_meets, number_meets}

-- what says itself where it ends may come after a length field
pub inside_meets : {f : Format} → MeetsLaws f → MeetsLawsInside f
inside_meets {f} l = record {
  spelled = record {
    same = λ c v w p q. (l.spelled.one c c [] [] v w p q refl).1;
    alone = l.spelled.alone;
    written = l.spelled.written;
    announces = l.spelled.announces;
  };
  unspelled = l.unspelled;
  not_memory = l.not_memory;
}

-- ---- inside a length

-- a field that spells the length of what is inside holds the announced length
inside_held : {field : Field} {inside : Format} → MeetsFieldLaws field → MeetsLawsInside inside → (a c : List ℕ) (v : Tree)
    → field.spells a (length c) → inside.spells Writing c v → field.holds (inside.announced v)
inside_held {field} {inside} m l a c v p q =
    let held = m.held a (length c) p in
    let small = m.small (length c) held in
    let same : inside.announced v ≡ length c = omega (arith, small, l.spelled.announces c v q) in
    subst field.holds (sym same) held

pub enclosed_meets : {field : Field} {inside : Format} → MeetsFieldLaws field → MeetsLawsInside inside
    → MeetsLaws (enclosed_format field inside)
enclosed_meets {field} m l = counted_meets field m.counts l (inside_held m l)

-- ---- up to an end

-- a first part, and then what goes up to the end
pub fields_meet_inside : {first others : Format} → MeetsLaws first → MeetsLawsInside others → MeetsLawsInside (fields_format first others)
fields_meet_inside {first} {others} l m = record {
  spelled = record { same = same; alone = alone; written = written; announces = announces };
  unspelled = unspelled;
  not_memory = not_memory;
}
  where
    same : (c : List ℕ) (v w : Tree) → fields first.spells others.spells Reading c v → fields first.spells others.spells Reading c w → v ≡ w
    same c (Join v vs) (Join w ws) p q =
        let long : p.front ++ p.rest ≡ q.front ++ q.rest = sym p.whole ∙ q.whole in
        let firsts = l.spelled.one p.front q.front p.rest q.rest v w p.first q.first long in
        let left : p.rest ≡ q.rest = append_cancel_left p.front p.rest q.rest (long ∙ ap (λ (u : List ℕ). u ++ q.rest) (sym firsts.0)) in
        let second = subst (λ (u : List ℕ). others.spells Reading u ws) (sym left) q.second in
        ap (λ (u : Tree). Join u vs) firsts.1 ∙ ap (λ (u : Tree). Join w u) (m.spelled.same p.rest vs ws p.second second)
    same c _ _ p q = absurd search

    alone : (c d : List ℕ) (v : Tree) → fields first.spells others.spells Writing c v
        → fields first.spells others.spells Writing d v → c ≡ d
    alone c d (Join v vs) p q =
        let fronts = λ (a b : List ℕ). l.spelled.alone a b v in
        let rests = λ (a b : List ℕ). m.spelled.alone a b vs in
        row_alone (λ u. first.spells Writing u v) (λ u. others.spells Writing u vs) c d fronts rests p q
    alone c d _ p q = absurd p

    written : (c : List ℕ) (v : Tree) → fields first.spells others.spells Reading c v → fields first.spells others.spells Writing c v
    written c (Join v vs) p = row_map _ _ _ _ c (λ t q. l.spelled.written t v q) (λ t q. m.spelled.written t vs q) p
    written c _ p = absurd p

    announces : (c : List ℕ) (v : Tree) → fields first.spells others.spells Writing c v
        → fields_length first.announced others.announced v ≡ capped (length c)
    announces c (Join v vs) p =
        let size = length-append p.front p.rest in
        omega (arith, ap length p.whole, size, l.spelled.announces p.front v p.first, m.spelled.announces p.rest vs p.second)
    announces c _ p = absurd p

    unspelled : (v : Tree) (e : Error) → fields_refuses first.refuses others.refuses v e
        → HasNoSpelling (fields first.spells others.spells) v
    unspelled (Join v vs) e (inl p) s q = l.unspelled v e p q.front q.first
    unspelled (Join v vs) e (inr p) s q = m.unspelled vs e p q.rest q.second
    unspelled _ e p s q = absurd search

    not_memory : (v : Tree) → fields_refuses first.refuses others.refuses v OutOfMemory → ⊥
    not_memory (Join v vs) (inl p) = l.not_memory v p
    not_memory (Join v vs) (inr p) = m.not_memory vs p
    not_memory _ p = absurd search

pub zeros_meet : MeetsLawsInside zeros_format
zeros_meet = record {
  spelled = record { same = same; alone = alone; written = λ c v p. p; announces = announces };
  unspelled = λ v e p. absurd p;
  not_memory = λ v p. p;
}
  where
    same : (c : List ℕ) (v w : Tree) → zeros Reading c v → zeros Reading c w → v ≡ w
    same c (Number m) (Number n) p q = ap Number (sym p.0 ∙ q.0)
    same c _ _ p q = absurd search

    alone : (c d : List ℕ) (v : Tree) → zeros Writing c v → zeros Writing d v → c ≡ d
    alone c d (Number n) p q =
        let lengths : length c ≡ length d = p.0 ∙ sym q.0 in
        same_lists c d lengths (λ k e h. p.1 k e h ∙ sym (q.1 k e (subst (λ (u : ℕ). k < u) lengths h)))
    alone c d _ p q = absurd p

    announces : (c : List ℕ) (v : Tree) → zeros Writing c v → zeros_length v ≡ capped (length c)
    announces c (Number n) p = ap capped (sym p.0)
    announces c _ p = absurd p

pub bytes_to_end_meet : MeetsLawsInside bytes_to_end_format
bytes_to_end_meet = content_meets (number_meets 1 (omega arith))
