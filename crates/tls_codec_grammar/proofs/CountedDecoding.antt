-- What a length field with what it counts is read as, from what is read of both.
use Rattle.std.proofs.Common.{◌≡◌, ℕ, List, ◌++◌, length, Bool, inl, inr, refl, sym, ap, subst, ◌∙◌, append_assoc}
use Rattle.std.proofs.lemmas.List.{append_cancel_left}
use Rattle.tls_codec_wire.specs.Counts.{Counts, NoneFell}
use Rattle.tls_codec_wire.specs.Device.{GivesInOrder, NoCountFalls}
use Rattle.tls_codec_wire.specs.Numbers.{BeginsNumber, GaveNumber, NoNumberBegins, NumberNotRead}
use Rattle.tls_codec_wire.specs.Seen.{RefusedFor}
use Rattle.tls_codec_wire.specs.declared.device.Source.{Ghosts}
use Rattle.tls_codec_wire.specs.declared.error.Error.{Error}
use Rattle.tls_codec_grammar.specs.Tree.{Tree}
use Rattle.tls_codec_grammar.specs.Grammar.{Grammar, counted, sized}
use Rattle.tls_codec_grammar.specs.Field.{Field}
use Rattle.tls_codec_grammar.specs.Lawful.{MeetsFieldLaws}
use Rattle.tls_codec_grammar.specs.Decoding.{Begins, GaveSpelling, NoneBegins, Refuses, RefusesSeen}
use Rattle.tls_codec_grammar.proofs.NumberRefusals.{number_refused, number_refuses}
use Rattle.tls_codec_wire.proofs.Later.{fault_later, rose_later}
use Rattle.tls_codec_wire.proofs.Seen.{refused_later}

module _ {field : Field} (m : MeetsFieldLaws field) (inside : Grammar) where
  -- ---- from a slice

  pub counted_begins : {x behind : List ℕ} {n : ℕ} {v : Tree} {rest : List ℕ} → BeginsNumber field.spells x n behind → Begins (sized n inside) behind v rest → Begins (counted field.spells inside) x v rest
  counted_begins {x} {behind} {n} {v} {rest} p b = record {
    front = p.front ++ b.front;
    whole = p.whole ∙ ap (λ (u : List ℕ). p.front ++ u) b.whole ∙ sym (append_assoc p.front b.front rest);
    spelled = record { count = p.front; inside = b.front; whole = refl; counts = subst (field.spells p.front) (sym b.spelled.0) p.spelled; is_inside = b.spelled.1 };
  }

  -- if no length begins, nothing counted does
  pub counted_none_at_count : (x : List ℕ) → NoNumberBegins field.spells x → NoneBegins (counted field.spells inside) x
  counted_none_at_count x none v rest b =
      let p = b.spelled in
      none (length p.inside) (p.inside ++ rest) (record { front = p.count; whole = b.whole ∙ ap (λ (u : List ℕ). u ++ rest) p.whole ∙ append_assoc p.count p.inside rest; spelled = p.counts })

  -- if no inside of the n bytes that the length says begins after it, nothing counted does
  pub counted_none_at_inside : (x behind : List ℕ) (n : ℕ) (a : List ℕ) → x ≡ a ++ behind → field.spells a n → NoneBegins (sized n inside) behind → NoneBegins (counted field.spells inside) x
  counted_none_at_inside x behind n a e f none v rest b =
      let p = b.spelled in
      let whole : a ++ behind ≡ p.count ++ (p.inside ++ rest) = sym e ∙ b.whole ∙ ap (λ (u : List ℕ). u ++ rest) p.whole ∙ append_assoc p.count p.inside rest in
      let same = m.counts.one a p.count behind (p.inside ++ rest) n (length p.inside) f p.counts whole in
      let left : behind ≡ p.inside ++ rest = append_cancel_left a behind (p.inside ++ rest) (whole ∙ ap (λ (u : List ℕ). u ++ (p.inside ++ rest)) (sym same.0)) in
      none v rest (record { front = p.inside; whole = left; spelled = (sym same.1, p.is_inside) })

  pub counted_refuses : {x behind : List ℕ} {n : ℕ} {lean : Bool} {e : Error} → BeginsNumber field.spells x n behind → Refuses (sized n inside) lean behind e → Refuses (counted field.spells inside) lean x e
  counted_refuses {x} {behind} {n} {lean} {e} p r = record {
    cause = elim r.cause [
      | inl none ↦ inl (counted_none_at_inside x behind n p.front p.whole p.spelled none)
      | inr out ↦ inr out
    ];
    memory = r.memory;
  }

  -- ---- from a source

  pub counted_given : {S : Type 0} {given : S → List ℕ → S → Type 0} {a b c : S} {n : ℕ} {v : Tree} → GivesInOrder given → GaveNumber given field.spells a b n → GaveSpelling given (sized n inside) b c v → GaveSpelling given (counted field.spells inside) a c v
  counted_given {S} {given} {a} {b} {c} {n} {v} order p q = record {
    front = p.front ++ q.front;
    held = order a p.front b q.front c p.held q.held;
    spelled = record { count = p.front; inside = q.front; whole = refl; counts = subst (field.spells p.front) (sym q.spelled.0) p.spelled; is_inside = q.spelled.1 };
  }

  pub counted_refused : {lean : Bool} {start before after : Counts} {e : Error} (front : List ℕ) (n : ℕ) → NoneFell start before → field.spells front n → (y : List ℕ) → RefusesSeen (sized n inside) lean y before after e → RefusesSeen (counted field.spells inside) lean (front ++ y) start after e
  counted_refused {lean} {start} {before} {after} {e} front n fell p y r = record {
    cause = elim r.cause [
      | inl none ↦ inl (counted_none_at_inside (front ++ y) y n front refl p none)
      | inr (inl fault) ↦ inr (inl (fault_later start before after fell fault))
      | inr (inr out) ↦ inr (inr out)
    ];
    memory = λ h. elim (r.memory h) [
      | inl not_lean ↦ inl not_lean
      | inr rose ↦ inr (rose_later start before after fell rose)
    ];
  }

  pub counted_leaves : {S : Type 0} {source : Ghosts S} {a b c : S} {n : ℕ} {lean : Bool} {e : Error} → GivesInOrder source.given → NoCountFalls source.given source.counts → GaveNumber source.given field.spells a b n
      → RefusedFor source (RefusesSeen (sized n inside) lean) b c e → RefusedFor source (RefusesSeen (counted field.spells inside) lean) a c e
  counted_leaves {S} {source} {a} {b} {c} {n} order falls p r = refused_later p.front order p.held (counted_refused p.front n (falls a p.front b p.held) p.spelled) r

  -- ---- the field is refused

  -- the field is refused if the bytes begin with no length
  pub count_refuses : {lean : Bool} (x : List ℕ) (e : Error) → field.refuses x e → Refuses (counted field.spells inside) lean x e
  count_refuses = number_refuses (λ x e p. counted_none_at_count x (m.none x e p)) m.named

  pub count_refused : {lean : Bool} (e : Error) (x : List ℕ) (old new : Counts) → NumberNotRead field.refuses x old new e → RefusesSeen (counted field.spells inside) lean x old new e
  count_refused = number_refused (λ x e p. counted_none_at_count x (m.none x e p)) m.named
