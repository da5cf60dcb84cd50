-- What is written of a list's elements in a row.
use Rattle.std.proofs.Common.{◌≡◌, ℕ, suc, ◌+◌, ◌*◌, ◌<◌, ◌≤◌, ◌^◌, List, [], ◌∷◌, ◌++◌, length, get_or, drop, inl, inr, refl, sym, ap, subst, ◌∙◌, append_assoc, append-nil, add-one, length-append, arith}
use Rattle.std.proofs.Math.Seq.{drop-cons}
use Rattle.std.specs.Io.KnownBytes.{Appends}
use Rattle.std.proofs.KnownBytes.{Appends-trans}
use Rattle.tls_codec_wire.specs.Counts.{NoneFell, none_fell_trans}
use Rattle.tls_codec_wire.specs.declared.device.Sink.{Ghosts}
use Rattle.tls_codec_wire.specs.declared.error.Error.{Error}
use Rattle.tls_codec_grammar.specs.Tree.{Tree, Empty, Join, trees}
use Rattle.tls_codec_grammar.specs.Grammar.{Grammar, Writing, content}
use Rattle.tls_codec_grammar.specs.Shortest.{IsShortest}
use Rattle.tls_codec_grammar.specs.Announced.{capped, content_length, content_sum, counted_length}
use Rattle.tls_codec_grammar.specs.Format.{Format, content_format, content_refuses}
use Rattle.tls_codec_grammar.specs.laws.FormatLaws.{content_length_sum}
use Rattle.tls_codec_grammar.specs.Lawful.{MeetsLaws}
use Rattle.tls_codec_grammar.specs.Encoding.{Breaks, Sends}
use Rattle.tls_codec_grammar.specs.laws.RowLaws.{least_one}
use Rattle.tls_codec_grammar.specs.laws.ListLaws.{capped_counted, content_in_a_row}
use Rattle.tls_codec_wire.proofs.Later.{cause_later}

-- ---- what is left of a slice

-- one element, and the others
pub trees_drop : {T : Type 0} (plain : T → Tree) (xs : List T) (i : ℕ) (x : T) → i < length xs → x ≡ get_or xs i x → trees plain (drop i xs) ≡ Join (plain x) (trees plain (drop (i + 1) xs))
trees_drop plain xs i x lt e = ap (trees plain) (drop-cons xs i x lt) ∙ ap (λ (y : _). Join (plain y) (trees plain (drop (suc i) xs))) (sym e) ∙ ap (λ (k : ℕ). Join (plain x) (trees plain (drop k xs))) (sym (add-one i))

pub trees_none : {T : Type 0} (plain : T → Tree) (xs : List T) → length xs ≡ 0 → trees plain xs ≡ Empty
trees_none plain [] n = refl
trees_none plain (x ∷ xs) n = absurd (omega (arith, n))

-- ---- announced lengths

pub content_announced : (f : Tree → ℕ) (v : Tree) (n : ℕ) → n ≡ content_sum f v → content_length f v ≡ capped n
content_announced f v n e = content_length_sum f v ∙ ap capped (sym e)

-- the sum of lengths that are all the same
pub even_sum : {T : Type 0} (f : Tree → ℕ) (plain : T → Tree) (n : ℕ) (xs : List T) → ((x : T) → f (plain x) ≡ n) → length xs * n ≡ content_sum f (trees plain xs)
even_sum f plain n [] same = omega arith
even_sum f plain n (x ∷ xs) same = omega (arith, same x, even_sum f plain n xs same)

-- so is that of the field and the content
pub counted_announced : (width : ℕ → ℕ) (f : Tree → ℕ) (v : Tree) (n : ℕ) → n ≡ content_sum f v → capped (width n + n) ≡ counted_length width (content_length f) v
counted_announced width f v n e = sym (capped_counted width (content_length f v) n (width n) (content_announced f v n e) refl)

-- a content that passes `usize::MAX`
pub content_passes : (f : Tree → ℕ) (v : Tree) → 2 ^ 64 ≤ content_sum f v → content_length f v ≡ 0xffff_ffff_ffff_ffff
content_passes f v h = omega (arith, content_length_sum f v)

pub counted_passes : (width : ℕ → ℕ) (f : Tree → ℕ) (v : Tree) → 2 ^ 64 ≤ content_sum f v → 0xffff_ffff_ffff_ffff ≡ counted_length width (content_length f) v
counted_passes width f v h = omega (arith, content_passes f v h)

-- ---- the form so far

-- after the form so far of all, the shortest form of what is left makes the shortest form of all, which has no
-- other beginning; and an error that is named for what is left is named for all
pub record FormSoFar (element : Format) (all left : Tree) (form : List ℕ) : Type 0 where
  pub onward : (c : List ℕ) → IsShortest (content element.spells) c left → IsShortest (content element.spells) (form ++ c) all
  pub back : (s : List ℕ) → IsShortest (content element.spells) s all → (c : List ℕ) × (s ≡ form ++ c) × IsShortest (content element.spells) c left
  pub named : (e : Error) → content_refuses element.refuses left e → content_refuses element.refuses all e

pub form_none : (element : Format) (v : Tree) → FormSoFar element v v []
form_none element v = record { onward = λ c p. p; back = λ s p. (s, refl, p); named = λ e p. p }

pub form_all : {element : Format} {all left : Tree} {form : List ℕ} → FormSoFar element all left form → left ≡ Empty → IsShortest (content element.spells) form all
form_all {element} {all} {left} {form} p e =
    let none : IsShortest (content element.spells) [] left = subst (λ (u : Tree). IsShortest (content element.spells) [] u) (sym e) (record { spelled = refl; least = λ t q. inl q }) in
    subst (λ (s : List ℕ). IsShortest (content element.spells) s all) (append-nil form) (p.onward [] none)

-- the parts of the shortest form of all: the form so far, the next element's and the rest after it
pub record NextForm (element : Grammar) (all x vs : Tree) (form s : List ℕ) : Type 0 where
  pub next : List ℕ
  pub others : List ℕ
  pub whole : s ≡ form ++ (next ++ others)
  pub next_shortest : IsShortest element next x
  pub others_shortest : IsShortest (content element) others vs

module _ {element : Format} (l : MeetsLaws element) where
  join_least : (x vs : Tree) (s c : List ℕ) → IsShortest element.spells s x → IsShortest (content element.spells) c vs → IsShortest (content element.spells) (s ++ c) (Join x vs)
  join_least x vs s c p q = (content_in_a_row element.spells element.announced l.spelled (s ++ c) x vs).1 (record { front = s; rest = c; whole = refl; first = p; second = q })

  pub next_form : {all left x vs : Tree} {form : List ℕ} → FormSoFar element all left form → left ≡ Join x vs → (s : List ℕ) → IsShortest (content element.spells) s all → NextForm element.spells all x vs form s
  next_form {all} {left} {x} {vs} {form} p e s q =
      let behind = p.back s q in
      let c : IsShortest (content element.spells) behind.0 (Join x vs) = subst (λ (u : Tree). IsShortest (content element.spells) behind.0 u) e behind.2 in
      let row = (content_in_a_row element.spells element.announced l.spelled behind.0 x vs).0 c in
      record {
        next = row.front;
        others = row.rest;
        whole = behind.1 ∙ ap (λ (u : List ℕ). form ++ u) row.whole;
        next_shortest = row.first;
        others_shortest = row.second;
      }

  pub form_more : {all left x vs : Tree} {form more : List ℕ} → FormSoFar element all left form → left ≡ Join x vs → IsShortest element.spells more x → FormSoFar element all vs (form ++ more)
  form_more {all} {left} {x} {vs} {form} {more} p e q = record {
    onward = λ c r.
        let joined : IsShortest (content element.spells) (more ++ c) left = subst (λ (u : Tree). IsShortest (content element.spells) (more ++ c) u) (sym e) (join_least x vs more c q r) in
        subst (λ (u : List ℕ). IsShortest (content element.spells) u all) (sym (append_assoc form more c)) (p.onward (more ++ c) joined);
    back = λ s r.
        let n = next_form p e s r in
        let same : n.next ≡ more = least_one (λ u. element.spells Writing u x) n.next more n.next_shortest q in
        (n.others, n.whole ∙ ap (λ (u : List ℕ). form ++ (u ++ n.others)) same ∙ sym (append_assoc form more n.others), n.others_shortest);
    named = λ err r. p.named err (subst (λ (u : Tree). content_refuses element.refuses u err) (sym e) (inr r));
  }

  -- an error that is named for the next element is named for all
  pub named_next : {all left x vs : Tree} {form : List ℕ} {e : Error} → FormSoFar element all left form → left ≡ Join x vs → element.refuses x e → content_refuses element.refuses all e
  named_next {all} {left} {x} {vs} {form} {e} p h r = p.named e (subst (λ (u : Tree). content_refuses element.refuses u e) (sym h) (inl r))

-- ---- many elements at once

-- what comes after a part of what is left
pub form_after : {element : Format} {all left behind : Tree} {form more : List ℕ} → FormSoFar element all left form → FormSoFar element left behind more → FormSoFar element all behind (form ++ more)
form_after {element} {all} {left} {behind} {form} {more} p q = record {
  onward = λ c r. subst (λ (u : List ℕ). IsShortest (content element.spells) u all) (sym (append_assoc form more c)) (p.onward (more ++ c) (q.onward c r));
  back = λ s r.
      let a = p.back s r in
      let b = q.back a.0 a.2 in
      (b.0, a.1 ∙ ap (λ (u : List ℕ). form ++ u) b.1 ∙ sym (append_assoc form more b.0), b.2);
  named = λ e r. p.named e (q.named e r);
}

-- the shortest form of elements begins with that of the first ones
pub record FirstForm (element : Grammar) (first : Tree) (s : List ℕ) : Type 0 where
  pub front : List ℕ
  pub others : List ℕ
  pub whole : s ≡ front ++ others
  pub shortest : IsShortest (content element) front first

module _ {element : Format} (l : MeetsLaws element) {T : Type 0} (plain : T → Tree) where
  -- the shortest form of the first elements is the form so far
  form_next : (x : T) (xs ys : List T) (c : List ℕ) (n : NextForm element.spells (trees plain (x ∷ xs)) (plain x) (trees plain xs) [] c) → FormSoFar element (trees plain (xs ++ ys)) (trees plain ys) n.others → FormSoFar element (trees plain (x ∷ (xs ++ ys))) (trees plain ys) c
  form_next x xs ys c n p =
      let one = form_more l (form_none element (trees plain (x ∷ (xs ++ ys)))) refl n.next_shortest in
      subst (λ (u : List ℕ). FormSoFar element (trees plain (x ∷ (xs ++ ys))) (trees plain ys) u) (sym n.whole) (form_after one p)

  pub form_first : (xs ys : List T) (c : List ℕ) → IsShortest (content element.spells) c (trees plain xs) → FormSoFar element (trees plain (xs ++ ys)) (trees plain ys) c
  form_first [] ys c p = subst (λ (u : List ℕ). FormSoFar element (trees plain ys) (trees plain ys) u) (sym p.spelled) (form_none element (trees plain ys))
  form_first (x ∷ xs) ys c p =
      let n = next_form l (form_none element (trees plain (x ∷ xs))) refl c p in
      form_next x xs ys c n (form_first xs ys n.others n.others_shortest)

  first_next : (x : T) (xs ys : List T) (s : List ℕ) (n : NextForm element.spells (trees plain (x ∷ (xs ++ ys))) (plain x) (trees plain (xs ++ ys)) [] s) → FirstForm element.spells (trees plain xs) n.others → FirstForm element.spells (trees plain (x ∷ xs)) s
  first_next x xs ys s n r = record {
    front = n.next ++ r.front;
    others = r.others;
    whole = n.whole ∙ ap (λ (u : List ℕ). n.next ++ u) r.whole ∙ sym (append_assoc n.next r.front r.others);
    shortest = join_least l (plain x) (trees plain xs) n.next r.front n.next_shortest r.shortest;
  }

  pub first_form : (xs ys : List T) (s : List ℕ) → IsShortest (content element.spells) s (trees plain (xs ++ ys)) → FirstForm element.spells (trees plain xs) s
  first_form [] ys s p = record { front = []; others = s; whole = refl; shortest = record { spelled = refl; least = λ t q. inl q } }
  first_form (x ∷ xs) ys s p =
      let n = next_form l (form_none element (trees plain (x ∷ (xs ++ ys)))) refl s p in
      first_next x xs ys s n (first_form xs ys n.others n.others_shortest)

  -- an error that is named for the first elements is named for all
  pub named_first : (xs ys : List T) (e : Error) → content_refuses element.refuses (trees plain xs) e → content_refuses element.refuses (trees plain (xs ++ ys)) e
  named_first [] ys e p = absurd p
  named_first (x ∷ xs) ys e (inl p) = inl p
  named_first (x ∷ xs) ys e (inr p) = inr (named_first xs ys e p)

-- ---- to a sink

-- the form so far was sent, of n bytes
pub record SentSoFar {S : Type 0} (element : Format) (sink : Ghosts S) (all left : Tree) (old new : S) (n : ℕ) : Type 0 where
  pub form : List ℕ
  pub so_far : FormSoFar element all left form
  pub held : Appends (sink.received old) (sink.received new) form
  pub fell : NoneFell (sink.counts old) (sink.counts new)
  pub count : n ≡ capped (length form)

pub sent_all : {S : Type 0} {element : Format} {sink : Ghosts S} {all left : Tree} {a b : S} {n : ℕ} → SentSoFar element sink all left a b n → left ≡ Empty → Sends (content_format element) all sink a b n
sent_all p e = record { form = p.form; shortest = form_all p.so_far e; held = p.held; count = p.count; fell = p.fell }

module _ {S : Type 0} {sink : Ghosts S} {element : Format} (l : MeetsLaws element) where
  pub sent_more : {all left x vs : Tree} {a b c : S} {n k m : ℕ} → SentSoFar element sink all left a b n → left ≡ Join x vs → Sends element x sink b c k → m ≡ capped (n + k) → SentSoFar element sink all vs a c m
  sent_more {all} {left} {x} {vs} {a} {b} {c} {n} {k} {m} p e q h = record {
    form = p.form ++ q.form;
    so_far = form_more l p.so_far e q.shortest;
    held = Appends-trans (sink.received a) (sink.received b) (sink.received c) p.form q.form p.held q.held;
    fell = none_fell_trans p.fell q.fell;
    count = omega (arith, h, p.count, q.count, length-append p.form q.form);
  }

  -- the next element is refused
  pub sent_breaks : {all left x vs : Tree} {a b c : S} {n : ℕ} {e : Error} → SentSoFar element sink all left a b n → left ≡ Join x vs → Breaks element x sink b c e → Breaks (content_format element) all sink a c e
  sent_breaks {all} {left} {x} {vs} {a} {b} {c} {n} {e} p h q = record {
    sent = p.form ++ q.sent;
    held = Appends-trans (sink.received a) (sink.received b) (sink.received c) p.form q.sent p.held q.held;
    beginning = λ s r.
        let next = next_form l p.so_far h s r in
        let k = q.beginning next.next next.next_shortest in
        let rest : List ℕ = k.0 ++ next.others in
        let behind : next.next ++ next.others ≡ q.sent ++ rest = ap (λ (u : List ℕ). u ++ next.others) k.1 ∙ append_assoc q.sent k.0 next.others in
        (rest, next.whole ∙ ap (λ (u : List ℕ). p.form ++ u) behind ∙ sym (append_assoc p.form q.sent rest));
    cause = cause_later (sink.counts a) (sink.counts b) (sink.counts c) e p.fell (named_next l p.so_far h) q.cause;
    fell = none_fell_trans p.fell q.fell;
  }

module _ {S : Type 0} {sink : Ghosts S} {element : Format} (l : MeetsLaws element) {T : Type 0} (plain : T → Tree) where
  -- the next elements were sent at once
  pub sent_first : (xs ys : List T) {all left : Tree} {a b c : S} {n k m : ℕ} → SentSoFar element sink all left a b n → left ≡ trees plain (xs ++ ys) → Sends (content_format element) (trees plain xs) sink b c k → m ≡ capped (n + k) → SentSoFar element sink all (trees plain ys) a c m
  sent_first xs ys {all} {left} {a} {b} {c} {n} {k} {m} p e q h = record {
    form = p.form ++ q.form;
    so_far = form_after p.so_far (subst (λ (u : Tree). FormSoFar element u (trees plain ys) q.form) (sym e) (form_first l plain xs ys q.form q.shortest));
    held = Appends-trans (sink.received a) (sink.received b) (sink.received c) p.form q.form p.held q.held;
    fell = none_fell_trans p.fell q.fell;
    count = omega (arith, h, p.count, q.count, length-append p.form q.form);
  }

  -- or refused
  pub first_breaks : (xs ys : List T) {all left : Tree} {a b c : S} {n : ℕ} {e : Error} → SentSoFar element sink all left a b n → left ≡ trees plain (xs ++ ys) → Breaks (content_format element) (trees plain xs) sink b c e → Breaks (content_format element) all sink a c e
  first_breaks xs ys {all} {left} {a} {b} {c} {n} {e} p h q = record {
    sent = p.form ++ q.sent;
    held = Appends-trans (sink.received a) (sink.received b) (sink.received c) p.form q.sent p.held q.held;
    beginning = λ s r.
        let behind = p.so_far.back s r in
        let f = first_form l plain xs ys behind.0 (subst (λ (u : Tree). IsShortest (content element.spells) behind.0 u) h behind.2) in
        let k = q.beginning f.front f.shortest in
        let rest : List ℕ = k.0 ++ f.others in
        let same : f.front ++ f.others ≡ q.sent ++ rest = ap (λ (u : List ℕ). u ++ f.others) k.1 ∙ append_assoc q.sent k.0 f.others in
        (rest, behind.1 ∙ ap (λ (u : List ℕ). p.form ++ u) (f.whole ∙ same) ∙ sym (append_assoc p.form q.sent rest));
    cause = cause_later (sink.counts a) (sink.counts b) (sink.counts c) e p.fell (λ r. p.so_far.named e (subst (λ (u : Tree). content_refuses element.refuses u e) (sym h) (named_first l plain xs ys e r))) q.cause;
    fell = none_fell_trans p.fell q.fell;
  }
