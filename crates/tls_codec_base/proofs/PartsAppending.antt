-- What is appended of options, products and lists, by what is appended of their parts.
use Rattle.std.proofs.Common.{◌≡◌, ℕ, ◌+◌, ◌-◌, ◌<◌, ◌^◌, List, [], ◌∷◌, ◌++◌, length, take, inl, inr, refl, sym, ap, ◌∙◌, append_assoc, append-nil, length-append, arith}
use Rattle.tls_codec_wire.specs.declared.error.Error.{Error}
use Rattle.tls_codec_grammar.specs.Tree.{Tree, Empty, Join}
use Rattle.tls_codec_grammar.specs.Grammar.{Writing}
use Rattle.tls_codec_grammar.specs.Announced.{capped}
use Rattle.tls_codec_grammar.specs.Format.{Format, content_format, fields_format, nothing_format, option_format}
use Rattle.tls_codec_grammar.specs.Lawful.{MeetsLaws}
use Rattle.tls_codec_grammar.specs.Encoding.{Appended, AppendRefused}
use Rattle.tls_codec_grammar.specs.laws.RowLaws.{least_one}
use Rattle.tls_codec_grammar.specs.laws.FieldsLaws.{fields_least}
use Rattle.tls_codec_grammar.specs.laws.OptionLaws.{option_some}
use Rattle.tls_codec_base.proofs.FieldsEncoding.{fields_form, nothing_form}
use Rattle.tls_codec_base.proofs.ListWriting.{FormSoFar, form_all, form_more, form_none, named_next, next_form}
use Rattle.tls_codec_base.proofs.OptionEncoding.{some_form}
use Rattle.tls_codec_grammar.proofs.Appending.{cut_off, part_refused}

-- ---- options

module _ {payload : Format} {v : Tree} {a b : List ℕ} where
  pub option_appended : {c : List ℕ} {k n : ℕ} → b ≡ a ++ (1 ∷ []) → Appended payload v b c k → n ≡ capped (k + 1) → length c < 2 ^ 63 → Appended (option_format payload) (Join v Empty) a c n
  option_appended {c} {k} {n} tag p e fits =
      let held : c ≡ a ++ (1 ∷ p.form) = p.held ∙ ap (λ (u : List ℕ). u ++ p.form) tag ∙ append_assoc a (1 ∷ []) p.form in
      record {
        form = 1 ∷ p.form;
        shortest = option_some payload.spells v p.form p.shortest;
        held = held;
        count = omega (arith, e, p.count, fits, ap length held, length-append a (1 ∷ p.form));
      }

  -- the payload is refused, and the tag is cut off
  pub option_not_appended : {c d : List ℕ} {n : ℕ} {e : Error} → MeetsLaws payload → b ≡ a ++ (1 ∷ []) → AppendRefused payload v b c e → d ≡ take n c → n ≡ length a → AppendRefused (option_format payload) (Join v Empty) a d e
  option_not_appended {c} {d} {n} {e} l tag p cut at = part_refused (option_format payload) (Join v Empty) a d p (cut_off (1 ∷ []) cut at (p.kept ∙ tag)) (λ named. named) (λ s q.
      let x = some_form l s q in
      (x.0, x.2, omega (arith, ap length tag, length-append a (1 ∷ []), ap length x.1)))

-- ---- products

pub nothing_appended : (a : List ℕ) → Appended nothing_format Empty a a 0
nothing_appended a = record { form = []; shortest = nothing_form; held = sym (append-nil a); count = refl }

module _ {first others : Format} {v vs : Tree} where
  pub fields_appended : {a b c : List ℕ} {j k n : ℕ} → Appended first v a b j → Appended others vs b c k → n ≡ j + k → Appended (fields_format first others) (Join v vs) a c n
  fields_appended {a} {b} {c} {j} {k} {n} p q e = record {
    form = p.form ++ q.form;
    shortest = fields_least first.spells others.spells v vs p.form q.form p.shortest q.shortest;
    held = q.held ∙ ap (λ (u : List ℕ). u ++ q.form) p.held ∙ append_assoc a p.form q.form;
    count = omega (arith, e, p.count, q.count, length-append p.form q.form);
  }

  -- the first part is refused
  pub first_not_appended : {a b d : List ℕ} {e : Error} → MeetsLaws first → MeetsLaws others → AppendRefused first v a b e → d ≡ a → AppendRefused (fields_format first others) (Join v vs) a d e
  first_not_appended {a} {b} {d} {e} l m p kept = part_refused (fields_format first others) (Join v vs) a d p kept (λ named. inl named) (λ s q.
      let form = fields_form l m s q in
      (form.0, form.3, omega (arith, ap length form.2, length-append form.0 form.1)))

  -- the others are refused
  pub others_not_appended : {a b c d : List ℕ} {j : ℕ} {e : Error} → MeetsLaws first → MeetsLaws others → Appended first v a b j → AppendRefused others vs b c e → d ≡ a → AppendRefused (fields_format first others) (Join v vs) a d e
  others_not_appended {a} {b} {c} {d} {j} {e} l m p q kept = part_refused (fields_format first others) (Join v vs) a d q kept (λ named. inr named) (λ s r.
      let form = fields_form l m s r in
      let same : form.0 ≡ p.form = least_one (λ u. first.spells Writing u v) form.0 p.form form.3 p.shortest in
      (form.1, form.4, omega (arith, ap length form.2, length-append form.0 form.1, ap length same, ap length p.held, length-append a p.form)))

-- as many bytes as the vector has more
pub appended_size : {f : Format} {v : Tree} {a b : List ℕ} {n : ℕ} → Appended f v a b n → length b ≡ length a + n
appended_size {f} {v} {a} {b} {n} p = omega (arith, p.count, ap length p.held, length-append a p.form)

-- what was appended in two steps
pub appended_after : {f g : Format} {v w : Tree} {a b c : List ℕ} {m n : ℕ} → (p : Appended f v a b m) → (q : Appended g w b c n) → c ≡ a ++ (p.form ++ q.form)
appended_after {f} {g} {v} {w} {a} {b} {c} {m} {n} p q = q.held ∙ ap (λ (u : List ℕ). u ++ q.form) p.held ∙ append_assoc a p.form q.form

-- ---- lists

-- the form so far comes after what the vector had
pub record AppendedSoFar (element : Format) (all left : Tree) (old new : List ℕ) : Type 0 where
  pub form : List ℕ
  pub so_far : FormSoFar element all left form
  pub held : new ≡ old ++ form

pub appended_none : {a b : List ℕ} (element : Format) (all : Tree) → b ≡ a → AppendedSoFar element all all a b
appended_none {a} {b} element all e = record { form = []; so_far = form_none element all; held = e ∙ sym (append-nil a) }

pub appended_all : {element : Format} {all left : Tree} {a b : List ℕ} {n : ℕ} → AppendedSoFar element all left a b → left ≡ Empty → n ≡ length b - length a → Appended (content_format element) all a b n
appended_all {element} {all} {left} {a} {b} {n} p e h = record {
  form = p.form;
  shortest = form_all p.so_far e;
  held = p.held;
  count = omega (arith, h, ap length p.held, length-append a p.form);
}

module _ {element : Format} (l : MeetsLaws element) where
  pub appended_more : {all left x vs : Tree} {a b c : List ℕ} {k : ℕ} → AppendedSoFar element all left a b → left ≡ Join x vs → Appended element x b c k → AppendedSoFar element all vs a c
  appended_more {all} {left} {x} {vs} {a} {b} {c} {k} p e q = record {
    form = p.form ++ q.form;
    so_far = form_more l p.so_far e q.shortest;
    held = q.held ∙ ap (λ (u : List ℕ). u ++ q.form) p.held ∙ append_assoc a p.form q.form;
  }

  -- the next element is refused, and the form so far is cut off
  pub next_not_appended : {all left x vs : Tree} {a b c d : List ℕ} {n : ℕ} {e : Error} → AppendedSoFar element all left a b → left ≡ Join x vs → AppendRefused element x b c e → d ≡ take n c → n ≡ length a → AppendRefused (content_format element) all a d e
  next_not_appended {all} {left} {x} {vs} {a} {b} {c} {d} {n} {e} p h q cut at = part_refused (content_format element) all a d q (cut_off p.form cut at (q.kept ∙ p.held)) (named_next l p.so_far h) (λ s r.
      let next = next_form l p.so_far h s r in
      (next.next, next.next_shortest, omega (arith, ap length next.whole, length-append p.form (next.next ++ next.others), length-append next.next next.others, ap length p.held, length-append a p.form)))
