-- A field that is rejected, from that of a part.
use Rattle.std.proofs.Common.{◌≡◌, ◌<◌, ◌⊎◌, inl, inr, ℕ, List, [], ◌∷◌, ◌++◌, length, arith, refl, sym, ap, ◌∙◌, append_assoc}
use Rattle.tls_codec_wire.specs.declared.error.Error.TheVariants.{EndOfStream, TrailingData}
use Rattle.tls_codec_grammar.specs.Tree.{Tree}
use Rattle.tls_codec_grammar.specs.Grammar.{Grammar}
use Rattle.tls_codec_grammar.specs.Field.{Field}
use Rattle.tls_codec_grammar.specs.Format.{Format}
use Rattle.tls_codec_grammar.specs.Decoding.{Begins, LeavesBytes, Refuses}
use Rattle.tls_codec_base.specs.PartNames.{IsOtherByte, IsOtherTag, IsRun, NamedAfter, SliceNames, counted_list_names, element_names, elements_names, fields_names, option_names, part_names}
use Rattle.tls_codec_base.specs.ContextNames.{then_names}
use Rattle.tls_codec_base.proofs.ListReading.{ReadSoFar}
use Rattle.tls_codec_validate.specs.declared.rejected.Rejected.{Rejected}
use Rattle.tls_codec_validate.specs.Keys.{then_places}
use Rattle.tls_codec_validate.specs.Places.{IsSuffix, IsTrailing, PlacedNames, RejectedAt, counted_list_places, elements_places, here, no_names, option_places}

-- all bytes are at the back, and what is at the back of the back is
pub back_all : {rest x : List ℕ} → rest ≡ x → IsSuffix rest x
back_all is = record { front = []; whole = sym is }

pub back_behind : (front : List ℕ) {x mid rest : List ℕ} → x ≡ front ++ mid → IsSuffix rest mid → IsSuffix rest x
back_behind front {x} {mid} {rest} whole b = record {
  front = front ++ b.front;
  whole = whole ∙ ap (λ (u : List ℕ). front ++ u) b.whole ∙ sym (append_assoc front b.front rest);
}

-- the field is the first one
pub rejected_here : {names : SliceNames} {x : List ℕ} {r : Rejected} → r.rest.now ≡ x → names x r.error → RejectedAt names (here names) x r
rejected_here is named = record { named = named; placed = (is, named); back = back_all is }

-- what is rejected as a whole is named so
pub named_whole : {spells : Grammar} {names : SliceNames} {places : PlacedNames} {x : List ℕ} {r : Rejected} → IsTrailing spells x r ⊎ RejectedAt names places x r → ((r.error ≡ TrailingData) × LeavesBytes spells x) ⊎ names x r.error
named_whole (inl t) = inl (t.error, record { value = t.left.value; rest = _; begins = t.left.begins; some = t.some })
named_whole (inr p) = inr p.named

-- ---- products

pub rejected_first : (part : Format) {first others : SliceNames} {these those : PlacedNames} {x : List ℕ} {r : Rejected} → Refuses part.spells part.lean x r.error → RejectedAt first these x r
    → RejectedAt (fields_names part first others) (λ rest. fields_names part (these rest) (those rest)) x r
rejected_first part refused p = record { named = inl (refused, p.named); placed = inl (refused, p.placed); back = p.back }

pub rejected_others : (part : Format) {first others : SliceNames} {these those : PlacedNames} {x mid : List ℕ} {v : Tree} {r : Rejected} → Begins part.spells x v mid → RejectedAt others those mid r
    → RejectedAt (fields_names part first others) (λ rest. fields_names part (these rest) (those rest)) x r
rejected_others part {v = v} b p = record {
  named = inr (record { front = b.front; rest = _; whole = b.whole; is_front = (v, b.spelled); named = p.named });
  placed = inr (record { front = b.front; rest = _; whole = b.whole; is_front = (v, b.spelled); named = p.placed });
  back = back_behind b.front b.whole p.back;
}

-- ---- options

no_bytes : (x : List ℕ) → length x ≡ 0 → x ≡ []
no_bytes [] width = refl
no_bytes (b ∷ bs) width = absurd (omega (arith, width))

pub rejected_end : {names : SliceNames} {places : PlacedNames} {x : List ℕ} {r : Rejected} → r.rest.now ≡ x → length x ≡ 0 → r.error ≡ EndOfStream → RejectedAt (option_names names) (option_places places) x r
rejected_end {x = x} is width end =
    let none = no_bytes x width in record { named = inl (none, end); placed = inl (is, inl (none, end)); back = back_all is }

pub rejected_tag : {names : SliceNames} {places : PlacedNames} {x : List ℕ} {r : Rejected} → r.rest.now ≡ x → NamedAfter IsOtherByte (λ rest error. IsOtherTag error) x r.error
    → RejectedAt (option_names names) (option_places places) x r
rejected_tag is other = record { named = inr (inl other); placed = inl (is, inr (inl other)); back = back_all is }

pub rejected_payload : {names : SliceNames} {places : PlacedNames} {x mid : List ℕ} {r : Rejected} → x ≡ 1 ∷ mid → RejectedAt names places mid r → RejectedAt (option_names names) (option_places places) x r
rejected_payload {mid = mid} whole p = record {
  named = inr (inr (record { front = 1 ∷ []; rest = mid; whole = whole; is_front = refl; named = p.named }));
  placed = inr (record { front = 1 ∷ []; rest = mid; whole = whole; is_front = refl; named = p.placed });
  back = back_behind (1 ∷ []) whole p.back;
}

-- ---- lists

module _ (element : Format) {names : SliceNames} {places : PlacedNames} where
  -- in an element, or the element itself
  pub rejected_element : {x : List ℕ} {n left : ℕ} {v : Tree} {mid : List ℕ} {r : Rejected} → ReadSoFar element.spells x n left v mid → 0 < left → Refuses element.spells element.lean mid r.error → RejectedAt names places mid r
      → RejectedAt (elements_names element names n) (elements_places element places n) x r
  rejected_element {n = n} {left = left} {v = v} {mid = mid} p some refused q =
      let front : IsRun element.spells n left p.front = record { elements = (v, p.spelled); fills = p.fills; some = some } in record {
        named = (left, record { front = p.front; rest = mid; whole = p.whole; is_front = front; named = inl (refused, q.named) });
        placed = (left, record { front = p.front; rest = mid; whole = p.whole; is_front = front; named = inl (refused, q.placed) });
        back = back_behind p.front p.whole q.back;
      }

  pub rejected_whole_element : {x : List ℕ} {n left : ℕ} {v : Tree} {mid : List ℕ} {r : Rejected} → ReadSoFar element.spells x n left v mid → 0 < left → r.rest.now ≡ mid
      → ((own : SliceNames) → element_names element own left mid r.error) → RejectedAt (elements_names element names n) (elements_places element places n) x r
  rejected_whole_element {n = n} {left = left} {v = v} {mid = mid} p some is named =
      let front : IsRun element.spells n left p.front = record { elements = (v, p.spelled); fills = p.fills; some = some } in record {
        named = (left, record { front = p.front; rest = mid; whole = p.whole; is_front = front; named = named names });
        placed = (left, record { front = p.front; rest = mid; whole = p.whole; is_front = front; named = inr (is, named no_names) });
        back = back_behind p.front p.whole (back_all is);
      }

  -- the length, or after it
  pub rejected_length : (field : Field) {x : List ℕ} {r : Rejected} → r.rest.now ≡ x → field.refuses x r.error → RejectedAt (counted_list_names field element names) (counted_list_places field element places) x r
  rejected_length field is refused = record { named = inl refused; placed = inl (is, refused); back = back_all is }

  pub rejected_elements : (field : Field) (front : List ℕ) {x mid : List ℕ} {n : ℕ} {r : Rejected} → x ≡ front ++ mid → field.spells front n → RejectedAt (elements_names element names n) (elements_places element places n) mid r
      → RejectedAt (counted_list_names field element names) (counted_list_places field element places) x r
  rejected_elements field front {mid = mid} {n = n} whole length p = record {
    named = inr (n, record { front = front; rest = mid; whole = whole; is_front = length; named = p.named });
    placed = inr (n, record { front = front; rest = mid; whole = whole; is_front = length; named = p.placed });
    back = back_behind front whole p.back;
  }

-- ---- a first part, and what its value decides

pub rejected_then : (first : Format) {names : SliceNames} {places : PlacedNames} (other_names : Tree → SliceNames) (others : Tree → PlacedNames) {x mid : List ℕ} {v : Tree} {r : Rejected} → Begins first.spells x v mid
    → RejectedAt (other_names v) (others v) mid r → RejectedAt (then_names first names other_names) (then_places first places others) x r
rejected_then first other_names others {v = v} b p = record {
  named = inr (v, record { front = b.front; rest = _; whole = b.whole; is_front = b.spelled; named = p.named });
  placed = inr (v, record { front = b.front; rest = _; whole = b.whole; is_front = b.spelled; named = p.placed });
  back = back_behind b.front b.whole p.back;
}
