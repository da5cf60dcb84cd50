-- What the two paths return for the same bytes.
use Rattle.std.proofs.Common.{◌≡◌, ◌≢◌, ℕ, List, [], ◌++◌, Bool, inl, inr, refl, sym, ap, ◌∙◌, codes, arith}
use Rattle.std.proofs.lemmas.List.{append_cancel_left}
use Rattle.tls_codec.specs.OwnMessages.{Tree}
use Rattle.tls_codec.specs.Calls.{Error}
use Rattle.tls_codec.specs.Devices.{FaultIsCounted, no_counts}
use Rattle.tls_codec.specs.Errors.{OutOfMemory, name_of}
use Rattle.tls_codec.specs.Spellings.{Grammar, IsLawful, Begins, Refuses, RefusesSeen}
use Rattle.hex.specs.Hex.{encode_lower}
use Rattle.tlsview_run.proofs.Hex.{encode-append}
use Rattle.tlsview_run.specs.View.{ok_line, refused_line, AppendsLeast, IsAcceptance, IsRefusal}

-- a slice counts no fault
no_fault : FaultIsCounted no_counts no_counts → ⊥
no_fault (inl failed) = omega (arith, failed)
no_fault (inr interrupted) = omega (arith, interrupted)

-- a path that refuses what the other reads has no memory
pub slice_has_no_memory : {spells : Grammar} {lean : Bool} {x r : List ℕ} {v : Tree} {e : Error}
    → Refuses spells lean x e → Begins spells x v r → e ≡ OutOfMemory
slice_has_no_memory {spells} {lean} {x} {r} {v} {e} p q =
    elim p.cause [ inl none ↦ absurd (none v r q) | inr memory ↦ memory ]

pub reader_has_no_memory : {spells : Grammar} {lean : Bool} {x r : List ℕ} {v : Tree} {e : Error}
    → RefusesSeen spells lean x no_counts no_counts e → Begins spells x v r → e ≡ OutOfMemory
reader_has_no_memory {spells} {lean} {x} {r} {v} {e} p q =
    elim p.cause [ inl none ↦ absurd (none v r q) | inr (inl fault) ↦ absurd (no_fault fault) | inr (inr memory) ↦ memory ]

module _ (spells : Grammar) (announced : Tree → ℕ) (lawful : IsLawful spells announced) where
  -- both paths read one value, and leave one rest
  one_answer : {x r t : List ℕ} {v w : Tree} → Begins spells x v r → Begins spells x w t → (v ≡ w) × (r ≡ t)
  one_answer {x} {r} {t} {v} {w} p q =
      let same = lawful.one p.front q.front r t v w p.spelled q.spelled (sym p.whole ∙ q.whole) in
      (same.1, append_cancel_left q.front r t (sym (ap (λ f. f ++ r) same.0) ∙ sym p.whole ∙ q.whole))

  -- so the lines show one value
  pub accepts : (text : Tree → List ℕ) {x r t a b d e : List ℕ} {v w : Tree}
      → Begins spells x v r → Begins spells x w t → a ≡ []
      → b ≡ a ++ ok_line (codes "slice") (text v) r → d ≡ b ++ ok_line (codes "reader") (text w) t
      → AppendsLeast spells v d e → IsAcceptance spells text x e
  accepts text {x} {r} {t} {a} {b} {d} {e} {v} {w} p q none first second least =
      let same = one_answer p q in
      let same_value = same.0 in
      let same_rest = same.1 in
      let last = least.shown in
      let form : p.front ≡ least.form = lawful.alone p.front least.form v (lawful.written p.front v p.spelled) least.shortest.spelled in
      let whole : x ≡ least.form ++ r = p.whole ∙ ap (λ u. u ++ r) form in
      record {
        value = v;
        rest = r;
        least = least.form;
        begins = p;
        shortest = least.shortest;
        encoding = whole;
        hex = sym (encode-append least.form r) ∙ ap encode_lower (sym whole);
        shown = (cc);
      }

-- two refusals that are not for memory, and their lines
pub refuses : {spells : Grammar} {lean : Bool} {x a b d : List ℕ} {e f : Error}
    → Refuses spells lean x e → e ≢ OutOfMemory → f ≢ OutOfMemory → a ≡ []
    → b ≡ a ++ refused_line (codes "slice") (name_of e) → d ≡ b ++ refused_line (codes "reader") (name_of f)
    → IsRefusal spells x d
refuses {spells} {lean} {x} {a} {b} {d} {e} {f} p at_slice at_reader none first second = record {
  none = elim p.cause [ inl fails ↦ fails | inr memory ↦ absurd (at_slice memory) ];
  by_slice = name_of e;
  by_reader = name_of f;
  slice_named = record { error = e; named = refl; of_bytes = at_slice };
  reader_named = record { error = f; named = refl; of_bytes = at_reader };
  shown = (cc);
}
