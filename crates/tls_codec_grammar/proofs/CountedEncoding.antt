-- What is sent of a length field and what it counts.
use Rattle.std.proofs.Common.{◌≡◌, ℕ, ◌+◌, ◌<◌, List, [], ◌++◌, length, inl, inr, refl, sym, ap, subst, ◌∙◌, append_assoc, length-append, arith}
use Rattle.std.specs.Io.KnownBytes.{Appends}
use Rattle.std.proofs.KnownBytes.{Appends-nil, Appends-trans}
use Rattle.tls_codec_wire.specs.Counts.{NoneFell, none_fell_refl, none_fell_trans}
use Rattle.tls_codec_wire.specs.declared.device.Sink.{Ghosts}
use Rattle.tls_codec_wire.specs.Device.{Received}
use Rattle.tls_codec_wire.specs.Numbers.{BeganNumber, SentNumber}
use Rattle.tls_codec_wire.specs.Transfer.{WriteRefused}
use Rattle.tls_codec_wire.specs.declared.error.Error.{Error}
use Rattle.tls_codec_wire.specs.declared.error.Error.TheVariants.{InvalidVectorLength}
use Rattle.tls_codec_grammar.specs.Tree.{Tree}
use Rattle.tls_codec_grammar.specs.Grammar.{Writing, counted}
use Rattle.tls_codec_grammar.specs.Shortest.{IsShortest}
use Rattle.tls_codec_grammar.specs.Announced.{capped}
use Rattle.tls_codec_grammar.specs.Field.{Field, LengthNotSent}
use Rattle.tls_codec_grammar.specs.Format.{Format, counted_format}
use Rattle.tls_codec_grammar.specs.Lawful.{MeetsFieldLaws, MeetsLaws, MeetsLawsInside}
use Rattle.tls_codec_grammar.specs.Encoding.{Breaks, Sends}
use Rattle.tls_codec_grammar.specs.laws.AloneLaws.{alone_inside}
use Rattle.tls_codec_grammar.specs.laws.ListLaws.{counted_shortest}
use Rattle.tls_codec_wire.proofs.Later.{cause_later}

-- nothing was sent of a value for which the format names the error
pub named_breaks : {S : Type 0} {f : Format} {sink : Ghosts S} {v : Tree} {old new : S} {e : Error} → MeetsLaws f → f.refuses v e → new ≡ old → Breaks f v sink old new e
named_breaks {S} {f} {sink} {v} {old} {new} {e} l named same = record {
  sent = [];
  held = subst (λ (s : S). Appends (sink.received old) (sink.received s) []) (sym same) (Appends-nil (sink.received old));
  beginning = λ form p. absurd (l.unspelled v e named form p.spelled);
  cause = inr named;
  fell = subst (λ (s : S). NoneFell (sink.counts old) (sink.counts s)) (sym same) (none_fell_refl (sink.counts old));
}

-- a is the field for n bytes, whose number is announced
pub record CountsInside (field : List ℕ → ℕ → Type 0) (announced : ℕ) (a : List ℕ) : Type 0 where
  pub n : ℕ
  pub is_announced : announced ≡ capped n
  pub fits : n < 0xffff_ffff_ffff_ffff
  pub spelled : field a n

module _ {field : Field} (m : MeetsFieldLaws field) {inside : Format} (l : MeetsLawsInside inside) where
  -- an inside has the bytes that are counted
  counted_bytes : {v : Tree} {a c : List ℕ} → (p : CountsInside field.spells (inside.announced v) a) → inside.spells Writing c v → p.n ≡ length c
  counted_bytes {v} {a} {c} p q = omega (arith, p.is_announced, p.fits, l.spelled.announces c v q)

  -- the shortest form is the field, and then the inside that it counts
  pub counted_split : {v : Tree} (s : List ℕ) → IsShortest (counted field.spells inside.spells) s v → (c : List ℕ) × (a : List ℕ) × (s ≡ a ++ c) × IsShortest inside.spells c v × field.spells a (length c)
  counted_split {v} s q = (q.spelled.inside, q.spelled.count, q.spelled.whole, alone_inside l.spelled q.spelled.inside v q.spelled.is_inside, q.spelled.counts)

  -- and that field is the one that counts what is inside
  pub counted_form : {v : Tree} {a : List ℕ} → CountsInside field.spells (inside.announced v) a → (s : List ℕ) → IsShortest (counted field.spells inside.spells) s v → (c : List ℕ) × (s ≡ a ++ c) × IsShortest inside.spells c v
  counted_form {v} {a} p s q =
      let h = counted_split s q in
      let counts : field.spells h.1 p.n = subst (field.spells h.1) (sym (counted_bytes p h.3.spelled)) h.4 in
      (h.0, h.2 ∙ ap (λ (u : List ℕ). u ++ h.0) (m.counts.alone h.1 a p.n counts p.spelled), h.3)

  -- the field and the shortest inside are the shortest form
  pub counted_whole : {v : Tree} {a c : List ℕ} → CountsInside field.spells (inside.announced v) a → IsShortest inside.spells c v → IsShortest (counted field.spells inside.spells) (a ++ c) v
  counted_whole {v} {a} {c} p q = counted_shortest field.spells field.width m.counts inside.spells inside.announced l.spelled a c v (subst (field.spells a) (counted_bytes p q.spelled) p.spelled) q.spelled

  module _ {sum : Tree → ℕ} {S : Type 0} {sink : Ghosts S} where
    pub counted_sends : {v : Tree} {a : List ℕ} {old mid new : S} {k total : ℕ} → CountsInside field.spells (inside.announced v) a → Appends (sink.received old) (sink.received mid) a → NoneFell (sink.counts old) (sink.counts mid)
        → Sends inside v sink mid new k → total ≡ capped (length a + k) → Sends (counted_format field sum inside) v sink old new total
    counted_sends {v} {a} {old} {mid} {new} {k} {total} p held fell q e = record {
      form = a ++ q.form;
      shortest = counted_whole p q.shortest;
      held = Appends-trans (sink.received old) (sink.received mid) (sink.received new) a q.form held q.held;
      count = omega (arith, e, q.count, length-append a q.form);
      fell = none_fell_trans fell q.fell;
    }

    -- the field is refused
    pub counted_breaks_count : {v : Tree} {a : List ℕ} {old new : S} {e : Error} → CountsInside field.spells (inside.announced v) a → Received (sink.received old) (sink.received new) a → WriteRefused (sink.counts old) (sink.counts new) e → NoneFell (sink.counts old) (sink.counts new)
        → Breaks (counted_format field sum inside) v sink old new e
    counted_breaks_count {v} {a} {old} {new} {e} p r refused fell = record {
      sent = r.front;
      held = r.held;
      beginning = λ s q.
          let form = counted_form p s q in
          (r.beginning.0 ++ form.0, form.1 ∙ ap (λ (u : List ℕ). u ++ form.0) r.beginning.1 ∙ append_assoc r.front r.beginning.0 form.0);
      cause = inl refused;
      fell = fell;
    }

    -- the inside is refused
    pub counted_breaks_inside : {v : Tree} {a : List ℕ} {old mid new : S} {e : Error} → CountsInside field.spells (inside.announced v) a → Appends (sink.received old) (sink.received mid) a → NoneFell (sink.counts old) (sink.counts mid)
        → Breaks inside v sink mid new e → Breaks (counted_format field sum inside) v sink old new e
    counted_breaks_inside {v} {a} {old} {mid} {new} {e} p held fell q = record {
      sent = a ++ q.sent;
      held = Appends-trans (sink.received old) (sink.received mid) (sink.received new) a q.sent held q.held;
      beginning = λ s r.
          let form = counted_form p s r in
          let k = q.beginning form.0 form.2 in
          (k.0, form.1 ∙ ap (λ (u : List ℕ). a ++ u) k.1 ∙ sym (append_assoc a q.sent k.0));
      cause = cause_later (sink.counts old) (sink.counts mid) (sink.counts new) e fell (λ named. inr named) q.cause;
      fell = none_fell_trans fell q.fell;
    }

  -- ---- by what the calls on the field say

  -- the field for a number that is announced counts what is inside
  field_counts : {announced n : ℕ} {form : List ℕ} → announced ≡ capped n → field.spells form n → CountsInside field.spells announced form
  field_counts {announced} {n} {form} e p = record { n = n; is_announced = e; fits = omega (arith, m.small n (m.held form n p)); spelled = p }

  module _ {sum : Tree → ℕ} {S : Type 0} {sink : Ghosts S} where
    pub field_sends : {v : Tree} {n j k total : ℕ} {old mid new : S} → inside.announced v ≡ capped n → SentNumber field.spells (sink.received old) (sink.received mid) n j → NoneFell (sink.counts old) (sink.counts mid) → Sends inside v sink mid new k → total ≡ capped (j + k)
        → Sends (counted_format field sum inside) v sink old new total
    field_sends {v} {n} {j} {k} {total} {old} {mid} {new} e p fell q h =
        counted_sends (field_counts e p.spelled) p.held fell q (omega (arith, h, p.count))

    pub field_breaks_inside : {v : Tree} {n j : ℕ} {old mid new : S} {e : Error} → inside.announced v ≡ capped n → SentNumber field.spells (sink.received old) (sink.received mid) n j → NoneFell (sink.counts old) (sink.counts mid) → Breaks inside v sink mid new e
        → Breaks (counted_format field sum inside) v sink old new e
    field_breaks_inside announced p fell q = counted_breaks_inside (field_counts announced p.spelled) p.held fell q

    -- the field is refused
    pub field_breaks_count : {v : Tree} {n : ℕ} {old new : S} (e : Error) → MeetsLaws (counted_format field sum inside) → inside.announced v ≡ capped n → n ≡ sum v
        → (field.holds n → BeganNumber field.spells (sink.received old) (sink.received new) n) → ((field.holds n → ⊥) → new ≡ old) → LengthNotSent field n (sink.counts old) (sink.counts new) e → NoneFell (sink.counts old) (sink.counts new)
        → Breaks (counted_format field sum inside) v sink old new e
    field_breaks_count {v} {n} InvalidVectorLength laws announced is_sum began kept refused fell = named_breaks laws (inl (refl, λ held. refused (subst field.holds (sym is_sum) held))) (kept refused)
    field_breaks_count {v} {n} e laws announced is_sum began kept refused fell = counted_breaks_count (field_counts announced (began refused.0).spelled) (began refused.0).received refused.1 fell
