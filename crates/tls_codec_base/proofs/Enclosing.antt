-- What a length and the value that fills it are read as.
use Rattle.std.proofs.Common.{◌≡◌, ℕ, ◌<◌, ◌+◌, List, [], ◌++◌, length, take, drop, take-append-drop, true, false, inl, inr, refl, sym, ap, subst, ◌∙◌, append-nil, append_assoc, arith, length-append}
use Rattle.std.specs.Prelude.{◌==◌}
use Rattle.std.proofs.Math.Seq.{take-append-add}
use Rattle.tls_codec_wire.specs.Bounded.{GaveWithin, inner_of, limit_of}
use Rattle.tls_codec_wire.specs.Counts.{Counts}
use Rattle.tls_codec_wire.specs.Device.{GivesNothing}
use Rattle.tls_codec_wire.specs.Numbers.{BeginsNumber}
use Rattle.tls_codec_wire.specs.Seen.{Causes, within}
use Rattle.tls_codec_wire.specs.declared.bounded.Bounded.{Bounded}
use Rattle.tls_codec_wire.specs.declared.device.Source.{Ghosts}
use Rattle.tls_codec_wire.specs.declared.error.Error.{Error}
use Rattle.tls_codec_wire.specs.declared.error.Error.TheVariants.{TrailingData}
use Rattle.tls_codec_wire.proofs.Seen.{refused_now, refused_within}
use Rattle.tls_codec_grammar.specs.Tree.{Tree}
use Rattle.tls_codec_grammar.specs.Grammar.{Grammar, Reading, counted, sized}
use Rattle.tls_codec_grammar.specs.Field.{Field}
use Rattle.tls_codec_grammar.specs.Format.{Format, sized_format, with_memory}
use Rattle.tls_codec_grammar.specs.Lawful.{MeetsFieldLaws, MeetsLaws}
use Rattle.tls_codec_grammar.specs.Decoding.{Begins, GaveSpelling, Named, NoneBegins, NoneSpelled, Refuses, RefusesFromSource, RefusesSeen}
use Rattle.tls_codec_grammar.specs.laws.RowLaws.{split_at}
use Rattle.tls_codec_grammar.proofs.ByteContents.{sized_short}
use Rattle.tls_codec_grammar.proofs.CountedDecoding.{counted_begins, counted_none_at_inside}
use Rattle.tls_codec_base.specs.ContextNames.{Underfills, enclosed_names, filling_names, filling_source_names}
use Rattle.tls_codec_base.specs.PartNames.{SliceNames}
use Rattle.tls_codec_base.proofs.Whole.{begins_whole, refuses_whole}

-- so many bytes that are no spelling begin with none
sized_none : {spells : Grammar} {behind : List ℕ} (c rest : List ℕ) {n : ℕ} → behind ≡ c ++ rest → length c ≡ n → NoneSpelled spells c → NoneBegins (sized n spells) behind
sized_none {spells} {behind} c rest {n} whole width none v s b =
    let same : c ≡ b.front = (split_at c b.front rest s (width ∙ sym b.spelled.0) (sym whole ∙ b.whole)).0 in
    none v (subst (λ (u : List ℕ). spells Reading u v) (sym same) b.spelled.1)

module _ {field : Field} (m : MeetsFieldLaws field) {f : Format} (l : MeetsLaws f) where
  -- fewer bytes come than the length says
  pub enclosed_cut : {x behind : List ℕ} {n : ℕ} {e : Error} → BeginsNumber field.spells x n behind → length behind < n → field.cut_off e → Refuses (counted field.spells f.spells) false x e
  enclosed_cut {x} {behind} {n} p short named = record {
    cause = inl (counted_none_at_inside m f.spells x behind n p.front p.whole p.spelled (sized_short n f.spells behind short));
    memory = λ h. refl;
  }

  -- the message is refused
  pub enclosed_refused : {x behind c : List ℕ} (rest : List ℕ) {n : ℕ} {e : Error} → BeginsNumber field.spells x n behind → behind ≡ c ++ rest → length c ≡ n → Refuses f.spells f.lean c e → Refuses (counted field.spells f.spells) false x e
  enclosed_refused {x} {behind} {c} rest {n} {e} p whole width r = record {
    cause = elim (refuses_whole f.spells f.lean c e r).cause [
      | inl none ↦ inl (counted_none_at_inside m f.spells x behind n p.front p.whole p.spelled (sized_none c rest whole width none))
      | inr out ↦ inr out
    ];
    memory = λ h. refl;
  }

  -- a byte is left of it
  pub enclosed_left : {x behind c left : List ℕ} (rest : List ℕ) {n : ℕ} {v : Tree} {e : Error} → BeginsNumber field.spells x n behind → behind ≡ c ++ rest → length c ≡ n → Begins f.spells c v left → (length left ≡ 0 → ⊥) → Refuses (counted field.spells f.spells) false x e
  enclosed_left {x} {behind} {c} {left} rest {n} {v} p whole width b some = record {
    cause = inl (counted_none_at_inside m f.spells x behind n p.front p.whole p.spelled (sized_none c rest whole width (λ w q.
        let same : b.front ≡ c = (l.spelled.one b.front c left [] v w b.spelled q (sym b.whole ∙ sym (append-nil c))).0 in
        some (omega (arith, ap length same, ap length b.whole, length-append b.front left)))));
    memory = λ h. refl;
  }

  pub enclosed_begins : {x behind c rest left : List ℕ} {n : ℕ} {v : Tree} → BeginsNumber field.spells x n behind → behind ≡ c ++ rest → length c ≡ n → Begins f.spells c v left → true ≡ (length left == 0) → Begins (counted field.spells f.spells) x v rest
  enclosed_begins {x} {behind} {c} {rest} {left} {n} {v} p whole width b empty =
      counted_begins m f.spells p (record { front = c; whole = whole; spelled = (width, begins_whole f.spells c v left b empty) })

-- what `split_at` returns
pub split_whole : {behind c rest : List ℕ} (n : ℕ) → c ≡ take n behind → rest ≡ drop n behind → behind ≡ c ++ rest
split_whole {behind} {c} {rest} n front back = sym (take-append-drop n behind) ∙ ap (λ (u : List ℕ). u ++ drop n behind) (sym front) ∙ ap (λ (u : List ℕ). c ++ u) (sym back)

-- ---- from a source

-- the bytes that n bytes of a spelling begin are these n
first_n : (front rest : List ℕ) (n : ℕ) (x : List ℕ) → x ≡ front ++ rest → length front ≡ n → take n x ≡ front ++ take 0 rest
first_n front rest n x whole width =
    let exact : n ≡ length front + 0 = omega (arith, width) in
    ap (take n) whole ∙ ap (λ (k : ℕ). take k (front ++ rest)) exact ∙ take-append-add front rest 0

-- if no value begins the first n bytes, none has n bytes
none_filling : (spells : Grammar) (n : ℕ) (x : List ℕ) → NoneBegins spells (take n x) → NoneBegins (sized n spells) x
none_filling spells n x none v rest b =
    none v (take 0 rest) (record { front = b.front; whole = first_n b.front rest n x b.whole b.spelled.0; spelled = b.spelled.1 })

module _ {f : Format} (l : MeetsLaws f) where
  -- nor if one begins them that has fewer
  none_longer : {n : ℕ} (front rest : List ℕ) {v : Tree} → f.spells Reading front v → length front < n → NoneBegins (sized n f.spells) (front ++ rest)
  none_longer front rest {v} p short w left b =
      let same = l.spelled.one front b.front rest left v w p b.spelled.1 b.whole in
      omega (arith, short, ap length same.0, b.spelled.0)

  fill_refused : (n : ℕ) {e : Error} {old new : Counts} (x : List ℕ) → RefusesSeen f.spells f.lean (take n x) old new e → RefusesSeen (sized n f.spells) false x old new e
  fill_refused n x q = record {
    cause = elim q.cause [
      | inl none ↦ inl (none_filling f.spells n x none)
      | inr other ↦ inr other
    ];
    memory = λ h. inl refl;
  }

  pub filling_given : {S : Type 0} {given : S → List ℕ → S → Type 0} {a b : Bounded S} {v : Tree} → GaveSpelling (GaveWithin given) f.spells a b v → limit_of b ≡ 0
      → GaveSpelling given (sized (limit_of a) f.spells) (inner_of a) (inner_of b) v
  filling_given p empty = record { front = p.front; held = p.held.held; spelled = (omega (arith, p.held.fell, empty), p.spelled) }

  module _ {S : Type 0} {source : Ghosts S} {a b : Bounded S} where
    -- the value is refused
    pub filling_refused : {e : Error} → RefusesFromSource f (within source) a b e → RefusesFromSource (with_memory (sized_format (limit_of a) f)) source (inner_of a) (inner_of b) e
    filling_refused p = record { refused = refused_within (fill_refused (limit_of a)) p.refused }

    pub filling_named : {e : Error} (names : Causes) → Named f names (within source) a b e
        → Named (with_memory (sized_format (limit_of a) f)) (filling_source_names f names (limit_of a)) source (inner_of a) (inner_of b) e
    filling_named names p = record { refused = refused_within (λ x q. (fill_refused (limit_of a) x q.0, inl q)) p.refused }

    -- a byte is left of what the length counts
    pub filling_left : {v : Tree} (names : Causes) → GivesNothing source.given → GaveSpelling (GaveWithin source.given) f.spells a b v → 0 < limit_of b
        → Named (with_memory (sized_format (limit_of a) f)) (filling_source_names f names (limit_of a)) source (inner_of a) (inner_of b) TrailingData
    filling_left {v} names nothing p some =
        let short : length p.front < limit_of a = omega (arith, p.held.fell, some) in
        record {
          refused = refused_now p.front nothing p.held.held (λ rest. (
            record { cause = inl (none_longer p.front rest p.spelled short); memory = λ h. inl refl },
            inr (refl, record { value = v; rest = rest; begins = record { front = p.front; whole = refl; spelled = p.spelled }; short = short }),
          ));
        }

-- ---- what is named

pub enclosed_behind : (field : Field) (f : Format) (names : SliceNames) {x behind : List ℕ} {n : ℕ} {e : Error} → BeginsNumber field.spells x n behind
    → filling_names field f names n behind e → enclosed_names field f names x e
enclosed_behind field f names {x} {behind} {n} {e} p named =
    inr (n, record { front = p.front; rest = behind; whole = p.whole; is_front = p.spelled; named = named })

-- a byte is left of the n bytes
pub left_inside : {spells : Grammar} {behind c left : List ℕ} (rest : List ℕ) {n : ℕ} {v : Tree} → behind ≡ c ++ rest → length c ≡ n → Begins spells c v left
    → (length left ≡ 0 → ⊥) → Underfills spells n behind
left_inside {spells} {behind} {c} {left} rest {n} {v} whole width b some = record {
  value = v;
  rest = left ++ rest;
  begins = record { front = b.front; whole = whole ∙ ap (λ (u : List ℕ). u ++ rest) b.whole ∙ append_assoc b.front left rest; spelled = b.spelled };
  short = omega (arith, some, width, ap length b.whole, length-append b.front left);
}
