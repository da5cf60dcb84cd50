-- What is told of a choice's bytes, from what is told of its tag and of the parts after it: for enums of your own.
use Rattle.std.proofs.Common.{◌≡◌, ◌≢◌, ◌<◌, ℕ, List, ◌++◌, length, true, false, Result, Ok, Err, inl, inr, refl, sym, ap, subst, ◌∙◌, append_assoc}
use Rattle.std.specs.Prelude.{IfErr, IsErrAnd}
use Rattle.std.specs.Borrow.{Bor}
use Rattle.tls_codec_wire.specs.Digits.{Digits}
use Rattle.tls_codec_wire.specs.declared.error.Error.{Error}
use Rattle.tls_codec_wire.specs.declared.error.Error.TheVariants.{EndOfStream, OutOfMemory, UnknownValue}
use Rattle.tls_codec_grammar.specs.Tree.{Tree, Number, Join}
use Rattle.tls_codec_grammar.specs.Grammar.{Grammar, fields, number}
use Rattle.tls_codec_grammar.specs.Format.{number_format}
use Rattle.tls_codec_grammar.specs.Lawful.{MeetsLaws}
use Rattle.tls_codec_grammar.specs.Decoding.{Begins, NoneBegins, Splits}
use Rattle.tls_codec_grammar.specs.Tagged.{MeetsVariantLaws, Variants, tagged, tagged_format}
use Rattle.tls_codec_base.specs.Meanings.{too_few}
use Rattle.tls_codec_base.specs.PartNames.{SliceNames}
use Rattle.tls_codec_base.specs.TaggedNames.{tagged_names}
use Rattle.tls_codec_base.proofs.FieldsDecoding.{none_at_first}
pub use Rattle.tls_codec_base.proofs.FieldsDecoding.{nothing_begins}
use Rattle.tls_codec_base.proofs.TaggedDecoding.{tagged_begins, tagged_refuses_unknown, tagged_splits}
use Rattle.tls_codec_validate.specs.declared.rejected.Rejected.{Rejected}
use Rattle.tls_codec_validate.specs.Validated.{BeginsLeaving, Rejects, Validates}
use Rattle.tls_codec_validate.specs.Places.{PlacedNames, RejectedAt, here}
use Rattle.tls_codec_validate.specs.TaggedPlaces.{PartsRejectedAt, VariantPlaces, tagged_places}
use Rattle.tls_codec_validate.proofs.Validating.{refuses, rejects_unless}
use Rattle.tls_codec_validate.proofs.Placing.{back_all, back_behind}

-- a variant's first part is rejected
pub part_rejects : {part others : Grammar} {x : List ℕ} {e : Error} → Rejects part x e → Rejects (fields part others) x e
part_rejects {part} {others} {x} r = record { none = none_at_first part others x r.none; not_memory = r.not_memory }

-- what holds of one rejection holds of an equal one
same : (P : Rejected → Type 0) {r y : Rejected} → y ≡ r → P r → P y
same P is p = subst P (sym is) p

module _ {k : ℕ} {variants : Variants} (l : MeetsLaws (number_format k)) (laws : MeetsVariantLaws variants) where
  -- no tag is there
  none_at_tag : (x : List ℕ) → NoneBegins (number k) x → NoneBegins (tagged k variants) x
  none_at_tag x none (Join (Number n) vs) rest b = none (Number n) (b.spelled.rest ++ rest) (record {
    front = b.spelled.front;
    whole = b.whole ∙ ap (λ (u : List ℕ). u ++ rest) b.spelled.whole ∙ append_assoc b.spelled.front b.spelled.rest rest;
    spelled = b.spelled.first;
  })
  none_at_tag x none _ rest b = absurd b.spelled

  pub tag_rejected : (x : List ℕ) (result : Result (Bor (List ℕ)) Rejected) (r : Rejected) → IsErrAnd result (λ y. y ≡ r) → Rejects (number k) x r.error → Validates (tagged_format k variants) x result
  tag_rejected x (Ok rest) r h q = absurd h
  tag_rejected x (Err y) r h q = same (λ (u : Rejected). Rejects (tagged k variants) x u.error) h (record { none = none_at_tag x q.none; not_memory = q.not_memory })

  -- the parts of the tag's variant are rejected
  pub parts_rejected : (x : List ℕ) (result : Result (Bor (List ℕ)) Rejected) {tag : ℕ} {m : List ℕ} {n : ℕ} (r : Rejected) → IsErrAnd result (λ y. y ≡ r) → Begins (number k) x (Number tag) m → tag ≡ n
      → Rejects (variants.parts n).spells m r.error → Validates (tagged_format k variants) x result
  parts_rejected x (Ok rest) r h p is q = absurd h
  parts_rejected x (Err y) {tag} {m} {n} r h p is q =
      let refused : Splits (tagged_format k variants) (λ (v : Tree). v) x (Err r.error) = tagged_splits l laws (λ (v : Tree). v) x (Err r.error) refl p is (refuses q) in
      same (λ (u : Rejected). Rejects (tagged k variants) x u.error) h (rejects_unless q.not_memory refused)

  -- no variant has the tag
  pub unknown_rejected : {x : List ℕ} {tag : ℕ} {r : List ℕ} {n : ℕ} → Begins (number k) x (Number tag) r → variants.has tag ≡ false → Rejects (tagged k variants) x (UnknownValue n)
  unknown_rejected {x} {tag} {r} {n} p none = rejects_unless (λ out. absurd cc) (tagged_refuses_unknown l laws {x = x} {tag = tag} {r = r} {n = n} p none)

  -- the parts are there
  pub parts_leave : {x : List ℕ} {tag : ℕ} {r : List ℕ} {n : ℕ} {vs : Tree} {rest : List ℕ} → Begins (number k) x (Number tag) r → tag ≡ n → Begins (variants.parts n).spells r vs rest → BeginsLeaving (tagged k variants) x rest
  parts_leave {x} {tag} {r} {n} {vs} {rest} p same q = record { value = Join (Number n) vs; begins = tagged_begins l laws p same q }

-- ---- which field is rejected

module _ (k : ℕ) (names : ℕ → SliceNames) (places : VariantPlaces) where
  pub tag_placed : {x : List ℕ} (result : Result (Bor (List ℕ)) Rejected) {r : Rejected} → IsErrAnd result (λ y. y ≡ r) → RejectedAt (too_few k) (here (too_few k)) x r
      → IfErr result (RejectedAt (tagged_names k names) (tagged_places k places) x)
  tag_placed (Ok rest) h p = tt
  tag_placed {x} (Err y) h p = same (RejectedAt (tagged_names k names) (tagged_places k places) x) h (record { named = inl p.named; placed = inl p.placed; back = p.back })

  pub parts_placed : {x : List ℕ} (result : Result (Bor (List ℕ)) Rejected) {tag : ℕ} {mid : List ℕ} {n : ℕ} {r : Rejected} → IsErrAnd result (λ y. y ≡ r) → Begins (number k) x (Number tag) mid → tag ≡ n
      → RejectedAt (names n) (places n x) mid r → IfErr result (RejectedAt (tagged_names k names) (tagged_places k places) x)
  parts_placed (Ok rest) h b is p = tt
  parts_placed {x} (Err y) {tag} {mid} {n} h b is p =
      let digits : Digits k b.front n = subst (λ (u : ℕ). Digits k b.front u) is b.spelled in
      same (RejectedAt (tagged_names k names) (tagged_places k places) x) h (record {
        named = inr (n, record { front = b.front; rest = mid; whole = b.whole; is_front = digits; named = p.named });
        placed = inr (record { tag = n; front = b.front; parts = mid; whole = b.whole; is_tag = digits; placed = p.placed });
        back = back_behind b.front b.whole p.back;
      })

  pub unknown_placed : {x mid : List ℕ} {tag : ℕ} {r : Rejected} → Begins (number k) x (Number tag) mid → r.rest.now ≡ x → names tag mid r.error → places tag x r.rest.now mid r.error
      → RejectedAt (tagged_names k names) (tagged_places k places) x r
  unknown_placed {mid = mid} {tag = tag} b is named placed = record {
    named = inr (tag, record { front = b.front; rest = mid; whole = b.whole; is_front = b.spelled; named = named });
    placed = inr (record { tag = tag; front = b.front; parts = mid; whole = b.whole; is_tag = b.spelled; placed = placed });
    back = back_all is;
  }

  -- the same of the parts of a sum of cases, which reject the tag themselves
  pub cases_placed : {x mid : List ℕ} {tag : ℕ} {r : Rejected} → Begins (number k) x (Number tag) mid → PartsRejectedAt (names tag) (places tag x) x mid r
      → RejectedAt (tagged_names k names) (tagged_places k places) x r
  cases_placed {x} {mid} {tag} {r} b p = record {
    named = inr (tag, record { front = b.front; rest = mid; whole = b.whole; is_front = b.spelled; named = p.named });
    placed = inr (record { tag = tag; front = b.front; parts = mid; whole = b.whole; is_tag = b.spelled; placed = p.placed });
    back = elim p.back [
      | inl behind ↦ back_behind b.front b.whole behind
      | inr is ↦ back_all is
    ];
  }
