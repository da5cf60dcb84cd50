-- Bytes that are spelled by themselves, from the digits that they are.
use Rattle.std.proofs.Common.{◌≡◌, ℕ, List, length, Bool, Result, Ok, Err, inl, inr, refl, sym, ap, ◌∙◌, subst, arith}
use Rattle.tls_codec_wire.specs.Counts.{Counts}
use Rattle.tls_codec_wire.specs.Digits.{AreBytes, Digits, value}
use Rattle.tls_codec_wire.specs.declared.error.Error.{Error}
use Rattle.tls_codec_grammar.specs.Tree.{Number, number_trees}
use Rattle.tls_codec_grammar.specs.Grammar.{RawBytes, array, number}
use Rattle.tls_codec_grammar.specs.Shortest.{IsShortest}
use Rattle.tls_codec_grammar.specs.Decoding.{Begins, GaveSpelling, NoneBegins, Refuses, RefusesSeen}
use Rattle.tls_codec_wire.specs.declared.device.Sink.{Ghosts}
use Rattle.tls_codec_grammar.specs.Format.{array_format, number_format}
use Rattle.tls_codec_grammar.specs.Encoding.{AppendsForm, Breaks, Sends}
use Rattle.tls_codec_grammar.proofs.Appending.{part_refused}
use Rattle.tls_codec_grammar.specs.laws.NumberLaws.{digits_least, digits_one, number_trees_one}
use Rattle.tls_codec_grammar.proofs.NumberCalls.{own_digits}

module _ (k : ℕ) (a : List ℕ) (width : length a ≡ k) (bytes : AreBytes a) where
  -- digits of the number that they stand for are these bytes
  itself : (s : List ℕ) → Digits k s (value a) → RawBytes k s (number_trees a)
  itself s p = record {
    width = p.width;
    bytes = p.bytes;
    same = ap number_trees (digits_one k a s (value a) (record { width = width; bytes = bytes; number = refl }) p);
  }

  pub array_begins : (x rest : List ℕ) → Begins (number k) x (Number (value a)) rest → Begins (array k) x (number_trees a) rest
  array_begins x rest p = record { front = p.front; whole = p.whole; spelled = itself p.front p.spelled }

  pub array_given : {S : Type 0} (given : S → List ℕ → S → Type 0) (old new : S) → GaveSpelling given (number k) old new (Number (value a)) → GaveSpelling given (array k) old new (number_trees a)
  array_given {S} given old new p = record { front = p.front; held = p.held; spelled = itself p.front p.spelled }

module _ (k : ℕ) where
  -- what begins with no digits begins with no array
  none_begins : (x : List ℕ) → NoneBegins (number k) x → NoneBegins (array k) x
  none_begins x none v rest b = none (Number (value b.front)) rest (record {
    front = b.front;
    whole = b.whole;
    spelled = record { width = b.spelled.width; bytes = b.spelled.bytes; number = refl };
  })

  pub array_refuses : (lean : Bool) (x : List ℕ) (e : Error) → Refuses (number k) lean x e → Refuses (array k) lean x e
  array_refuses lean x e r = record {
    cause = elim r.cause [
      | inl none ↦ inl (none_begins x none)
      | inr out ↦ inr out
    ];
    memory = r.memory;
  }

  pub array_refuses_source : (lean : Bool) {old new : Counts} {e : Error} (x : List ℕ) → RefusesSeen (number k) lean x old new e → RefusesSeen (array k) lean x old new e
  array_refuses_source lean {old} {new} {e} x r = record {
    cause = elim r.cause [
      | inl none ↦ inl (none_begins x none)
      | inr out ↦ inr out
    ];
    memory = r.memory;
  }

module _ (k : ℕ) (a : List ℕ) (width : length a ≡ k) (bytes : AreBytes a) where
  -- the shortest form of the number that these bytes stand for is theirs
  pub array_form : (s : List ℕ) → IsShortest (number (length a)) s (Number (value a)) → IsShortest (array k) s (number_trees a)
  array_form s p =
      let same : s ≡ a = digits_one (length a) s a (value a) p.spelled (own_digits a bytes) in
      record {
        spelled = record { width = ap length same ∙ width; bytes = p.spelled.bytes; same = ap number_trees (sym same) };
        least = λ t q. inl (number_trees_one t s (sym q.same ∙ ap number_trees (sym same)));
      }

  -- and theirs is the number's
  number_form : (s : List ℕ) → IsShortest (array k) s (number_trees a) → IsShortest (number (length a)) s (Number (value a))
  number_form s p =
      let same : a ≡ s = number_trees_one a s p.spelled.same in
      digits_least (length a) s (value a) (subst (λ (u : List ℕ). Digits (length a) u (value a)) same (own_digits a bytes))

  -- so what is written of the number is written of the array
  module _ {S : Type 0} {sink : Ghosts S} {old new : S} where
    pub array_sends : {n : ℕ} → Sends (number_format (length a)) (Number (value a)) sink old new n → Sends (array_format k) (number_trees a) sink old new n
    array_sends {n} p = record { form = p.form; shortest = array_form p.form p.shortest; held = p.held; count = p.count; fell = p.fell }

    pub array_breaks : {e : Error} → Breaks (number_format (length a)) (Number (value a)) sink old new e → Breaks (array_format k) (number_trees a) sink old new e
    array_breaks {e} p = record { sent = p.sent; held = p.held; beginning = λ form q. p.beginning form (number_form form q); cause = p.cause; fell = p.fell }

  -- what is appended too
  pub array_appends : (old new : List ℕ) (result : Result ℕ Error) → AppendsForm (number_format (length a)) (Number (value a)) old new result → AppendsForm (array_format k) (number_trees a) old new result
  array_appends old new (Ok n) p = record { form = p.form; shortest = array_form p.form p.shortest; held = p.held; count = p.count }
  array_appends old new (Err e) p = part_refused (array_format k) (number_trees a) old new p p.kept (λ named. named) (λ s q. (s, number_form s q, omega arith))
