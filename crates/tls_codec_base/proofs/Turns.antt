-- Turns of lists that are refused, and how many there are at most.
use Rattle.std.proofs.Common.{◌≡◌, Bool, ℕ, zero, suc, ◌+◌, ◌<◌, ◌≤◌, ◌⊎◌, List, [], ◌∷◌, ◌++◌, length, take, Option, None, Some, inl, inr, refl, sym, ap, subst, ◌∙◌, append_assoc, append-nil, arith, length-append}
use Rattle.std.proofs.Math.Seq.{take-append-add}
use Rattle.std.specs.Prelude.{Ok, Vec, option_map}
use Rattle.std.specs.Io.KnownBytes.{IsAtEnd}
use Rattle.std.specs.Global.{Global}
use Rattle.tls_codec_wire.specs.Bounded.{first_bytes, GaveWithin, inner_of, limit_of}
use Rattle.tls_codec_wire.specs.Counts.{Counts, NoneFell}
use Rattle.tls_codec_wire.specs.Device.{Gave, Gives, GivesInOrder, GivesNothing, NoCountFalls}
use Rattle.tls_codec_wire.specs.Seen.{Causes, RefusedFor, reported_or}
use Rattle.tls_codec_wire.specs.declared.bounded.Bounded.{Bounded}
use Rattle.tls_codec_wire.specs.declared.device.Source.{Ghosts}
use Rattle.tls_codec_wire.specs.declared.error.Error.{Error}
use Rattle.tls_codec_wire.specs.declared.error.Error.TheVariants.{EndOfStream, OutOfMemory}
use Rattle.tls_codec_grammar.specs.Tree.{Tree, trees}
use Rattle.tls_codec_grammar.specs.Grammar.{Grammar, Reading, content, sized}
use Rattle.tls_codec_grammar.specs.Lawful.{IsLawful}
use Rattle.tls_codec_grammar.specs.Decoding.{AllGiven, AllRead, GaveSpelling, Refuses, RefusesSeen}
use Rattle.tls_codec_grammar.specs.Format.{Format}
use Rattle.tls_codec_wire.proofs.Later.{fault_later}
use Rattle.tls_codec_wire.proofs.Seen.{refused_later, refused_now, seen_now}
use Rattle.tls_codec_base.specs.WholeElements.{NoElementBegins}
use Rattle.tls_codec_base.specs.Turns.{MemoryOrFault, SourceTurnedRefused, TurnedAll, TurnedAtMost, TurnedBy, TurnedEach, TurnedPast, TurnedRefusedAtOnce, TurnedWithin, TurnedWithinGiven, turns_of}
use Rattle.tls_codec_base.specs.declared.lists.Turns.{Turns}
use Rattle.tls_codec_base.proofs.ListReading.{ReadSoFar}
use Rattle.tls_codec_base.proofs.ListSources.{GivenSoFar}
use Rattle.tls_codec_base.proofs.WholeElements.{content_has_bytes, content_is_whole, none_in_fewer, none_of_none, whole_are_most}

-- so many turns and no more
at_most : {k n : ℕ} {old new : Turns} → TurnedBy k old new → k ≤ n → TurnedAtMost n old new
at_most {k} {n} {old} {new} turned le = record { more = omega (arith, turned, old.fits); most = omega (arith, turned, le) }

-- the first n bytes are what was read, and those that are left
taken : (front rest : List ℕ) (n left : ℕ) → length front + left ≡ n → take n (front ++ rest) ≡ front ++ take left rest
taken front rest n left fills = ap (λ (k : ℕ). take k (front ++ rest)) (sym fills) ∙ take-append-add front rest left

module _ (element : Grammar) (f : Tree → ℕ) (l : IsLawful element f) where
  -- after some elements the list is refused if no other one begins, or it is excused
  turned_past : {T : Type 0} (plain : T → Tree) (front tail : List ℕ) (xs : List T) {Excused : Type 0} {old new : Turns} → content element Reading front (trees plain xs) → TurnedBy (length xs + 1) old new → Excused ⊎ NoElementBegins element tail
      → TurnedPast element (front ++ tail) Excused old new
  turned_past plain front tail xs spelled turned cause = record {
    at_most = λ m w. at_most turned (omega (arith, whole_are_most element f l plain front tail xs m spelled w));
    exactly = elim cause [
      | inl excuse ↦ inl excuse
      | inr none ↦ inr (length xs, content_is_whole plain element front tail xs spelled none, turned)
    ];
  }

  -- from a slice
  pub refused_turned : {T : Type 0} (plain : T → Tree) {x : List ℕ} {n left : ℕ} (xs : List T) {rest : List ℕ} {Excused : Type 0} {old new : Turns} → ReadSoFar element x n left (trees plain xs) rest → TurnedBy (length xs + 1) old new → Excused ⊎ NoElementBegins element (take left rest)
      → TurnedPast element (take n x) Excused old new
  refused_turned plain {x} {n} {left} xs {rest} {Excused} {old} {new} p turned cause =
      let first : take n x ≡ p.front ++ take left rest = ap (take n) p.whole ∙ taken p.front rest n left p.fills in
      subst (λ (u : List ℕ). TurnedPast element u Excused old new) (sym first) (turned_past plain p.front (take left rest) xs p.spelled turned cause)

  -- from a source: after some elements no other one was seen, or the list is excused
  pub refused_turned_given : {S : Type 0} {source : Ghosts S} {T : Type 0} (plain : T → Tree) {start mid end : S} {n left : ℕ} (xs : List T) {causes : Causes} {e : Error} {old new : Turns} → GivesInOrder source.given → NoCountFalls source.given source.counts
      → GivenSoFar source.given element start mid n left (trees plain xs) → TurnedBy (length xs + 1) old new
      → ((x : List ℕ) → causes x (source.counts mid) (source.counts end) e → MemoryOrFault (source.counts mid) (source.counts end) e ⊎ NoElementBegins element (take left x))
      → RefusedFor source causes mid end e → RefusedFor source (SourceTurnedRefused element n old new) start end e
  refused_turned_given {S} {source} plain {start} {mid} {end} {n} {left} xs {causes} {e} {old} {new} order falls p turned why =
      let fell : NoneFell (source.counts start) (source.counts mid) = falls start p.front mid p.held in
      refused_later p.front order p.held (λ x q. refused_turned plain xs (record { front = p.front; whole = refl; fills = p.fills; spelled = p.spelled }) turned (elim (why x q) [
        | inl (inl memory) ↦ inl (inl memory)
        | inl (inr fault) ↦ inl (inr (fault_later (source.counts start) (source.counts mid) (source.counts end) fell fault))
        | inr none ↦ inr none
      ]))

-- why a source is refused
pub why_refused : {element : Grammar} {lean : Bool} (x : List ℕ) {before after : Counts} {e : Error} → RefusesSeen element lean x before after e → MemoryOrFault before after e ⊎ NoElementBegins element x
why_refused x r = elim r.cause [
  | inl none ↦ inr (none_of_none none)
  | inr (inl fault) ↦ inl (inr fault)
  | inr (inr memory) ↦ inl (inl memory)
]

-- or a slice
pub why_slice_refused : {element : Grammar} {lean : Bool} {x : List ℕ} {e : Error} (left : ℕ) → Refuses element lean x e → (e ≡ OutOfMemory) ⊎ NoElementBegins element (take left x)
why_slice_refused {element} {lean} {x} left r = elim r.cause [
  | inl none ↦ inr (none_in_fewer element left x (none_of_none none))
  | inr memory ↦ inl memory
]

-- ---- bounds

-- each element that was read has a byte
pub turned_within : {T : Type 0} (plain : T → Tree) {element : Grammar} {x : List ℕ} {n left : ℕ} (xs : List T) (more : ℕ) {rest : List ℕ} {old new : Turns} → ReadSoFar element x n left (trees plain xs) rest → TurnedBy (length xs + more) old new → more ≤ 1 → TurnedWithin n x old new
turned_within plain {element} {x} {n} {left} xs more {rest} p turned le =
    at_most turned (omega (arith, le, content_has_bytes plain element p.front xs p.spelled, p.fills, ap length p.whole, length-append p.front rest))

-- so has each of those that were read at once
pub at_once_within : {T : Type 0} (f : Format) (plain : T → Tree) (front x : List ℕ) {n : ℕ} (found : Option (Vec T Global)) (elements : Vec T Global) {old new : Turns} → AllRead f plain front (Ok found) → found ≡ Some elements → length front ≡ n → n ≤ length x → TurnedBy (length elements.items) old new → TurnedWithin n x old new
at_once_within {T} f plain front x found elements p e width fits turned =
    let spelled : content f.spells Reading front (trees plain elements.items) = subst (λ (o : Option (Vec T Global)). AllRead f plain front (Ok o)) e p in
    at_most turned (omega (arith, content_has_bytes plain f.spells front elements.items spelled, width, fits))

-- and of those that a source gave
pub turned_within_given : {T : Type 0} (plain : T → Tree) {S : Type 0} {given : Gives S} {element : Grammar} {start mid : S} {n left : ℕ} (xs : List T) (more : ℕ) {old new : Turns} → GivenSoFar given element start mid n left (trees plain xs) → TurnedBy (length xs + more) old new → more ≤ 1 → TurnedWithinGiven given n start mid old new
turned_within_given plain {S} {given} {element} {start} {mid} {n} {left} xs more p turned le = record {
  bytes = p.front;
  held = p.held;
  within = at_most turned (omega (arith, le, content_has_bytes plain element p.front xs p.spelled, p.fills));
}

-- at once, too
pub at_once_within_given : {T S : Type 0} (f : Format) (plain : T → Tree) (source : Ghosts S) (a b : Bounded S) (found : Option (Vec T Global)) (elements : Vec T Global) {old new : Turns} → AllGiven f plain source a b (Ok found) → found ≡ Some elements → TurnedAll f.spells source a b old new (Ok found)
    → TurnedWithinGiven source.given (limit_of a) (inner_of a) (inner_of b) old new
at_once_within_given {T} {S} f plain source a b found elements {old} {new} p e all =
    let turned : TurnedEach elements.items old new = subst (λ (o : Option (Vec T Global)). TurnedAll f.spells source a b old new (Ok o)) e all in
    let gave : GaveSpelling source.given (sized (limit_of a) (content f.spells)) (inner_of a) (inner_of b) (trees plain elements.items) = subst (λ (o : Option (Vec T Global)). AllGiven f plain source a b (Ok o)) e p in
    let so_far : GivenSoFar source.given f.spells (inner_of a) (inner_of b) (limit_of a) 0 (trees plain elements.items) = record { front = gave.front; held = gave.held; fills = omega (arith, gave.spelled.0); spelled = gave.spelled.1 } in
    turned_within_given plain elements.items 0 so_far (omega (arith, turned)) (omega arith)

-- and with the attempt at an element more
pub turned_within_attempt : {T : Type 0} (plain : T → Tree) {S : Type 0} {given : Gives S} → GivesInOrder given → {element : Grammar} {start : S} {n : ℕ} {a b : Bounded S} (xs : List T) (more : ℕ) {old new : Turns} → GivenSoFar given element start (inner_of a) n (limit_of a) (trees plain xs) → Gave (GaveWithin given) a b → TurnedBy (length xs + more) old new → more ≤ 1
    → TurnedWithinGiven given n start (inner_of b) old new
turned_within_attempt plain {S} {given} order {element} {start} {n} {a} {b} xs more p q turned le = record {
  bytes = p.front ++ q.bytes;
  held = order start p.front (inner_of a) q.bytes (inner_of b) p.held q.held.held;
  within = at_most turned (omega (arith, le, content_has_bytes plain element p.front xs p.spelled, p.fills, length-append p.front q.bytes));
}

-- ---- refused at once

-- there was no memory for elements that were given: no turn was added
pub no_memory_at_once : {S : Type 0} {source : Ghosts S} (a b : Bounded S) (given : List ℕ) → GivesNothing source.given → source.given (inner_of a) given (inner_of b) → (spells : Grammar) {old new : Turns} {e : Error} → e ≡ OutOfMemory → new ≡ old → TurnedRefusedAtOnce spells source a b old new e
no_memory_at_once a b given nothing held spells {old} {new} {e} out same =
    let none : (n : ℕ) → TurnedAtMost n old new = λ n. record { more = omega (arith, ap turns_of same); most = omega (arith, ap turns_of same) } in
    record {
      turned_if_refused = refused_now given nothing held (λ rest. record { at_most = λ m w. none (m + 1); exactly = inl (inl out) });
      turned_at_most = record { bytes = given; held = held; within = none _ };
    }

module _ {S : Type 0} {source : Ghosts S} (a b : Bounded S) (given : List ℕ) (nothing : GivesNothing source.given) (gave : GaveWithin source.given a given b) where
  -- a cause of what was given, and of what is to come after it: nothing, if the source is at its end
  pub refused_after : {causes : Causes} {e : Error} → (e ≡ EndOfStream → (0 < limit_of b) × IsAtEnd (first_bytes source.coming b)) → ((rest : List ℕ) → (e ≡ EndOfStream → rest ≡ []) → causes (given ++ rest) (source.counts (inner_of a)) (source.counts (inner_of b)) e)
      → RefusedFor source causes (inner_of a) (inner_of b) e
  refused_after {causes} {e} end cause = record {
    bytes = _;
    seen = seen_now given nothing gave.held;
    cause = cause (reported_or (source.coming (inner_of b)) []) (λ ends. none_told (source.coming (inner_of b)) (limit_of b) (end ends).0 (end ends).1);
  }
    where
      none_told : (coming : Option (List ℕ)) (n : ℕ) → 0 < n → IsAtEnd (option_map (take n) coming) → reported_or coming [] ≡ []
      none_told None n some at_end = refl
      none_told (Some []) n some at_end = refl
      none_told (Some (x ∷ xs)) zero some at_end = absurd (omega (arith, some))
      none_told (Some (x ∷ xs)) (suc n) some at_end = absurd (omega (arith, ap length at_end))

  -- m whole elements and a part of another one were given, and the list is refused: it took m turns and one more
  pub turned_past_given : {T : Type 0} (element : Grammar) (f : Tree → ℕ) (l : IsLawful element f) (plain : T → Tree) (front part : List ℕ) (xs : List T) {e : Error} {old new : Turns} → given ≡ front ++ part → content element Reading front (trees plain xs)
      → (e ≡ EndOfStream → (0 < limit_of b) × IsAtEnd (first_bytes source.coming b)) → (e ≡ EndOfStream → NoElementBegins element part) → MemoryOrFault (source.counts (inner_of a)) (source.counts (inner_of b)) e ⊎ (e ≡ EndOfStream) → TurnedBy (length xs + 1) old new → TurnedRefusedAtOnce element source a b old new e
  turned_past_given {T} element f l plain front part xs {e} {old} {new} whole spelled end none why turned =
      let n = limit_of a in
      let left = limit_of b + length part in
      let sum : length given ≡ length front + length part = ap length whole ∙ length-append front part in
      let fills : length front + left ≡ n = omega (arith, sum, gave.fell) in
      record {
        turned_if_refused = refused_after end (λ rest ends.
            let first : take n (given ++ rest) ≡ front ++ take left (part ++ rest) =
            ap (λ (u : List ℕ). take n (u ++ rest)) whole ∙ ap (take n) (append_assoc front part rest) ∙ taken front (part ++ rest) n left fills in
            let cause : MemoryOrFault (source.counts (inner_of a)) (source.counts (inner_of b)) e ⊎ NoElementBegins element (take left (part ++ rest)) = elim why [
              | inl excuse ↦ inl excuse
              | inr eos ↦ inr (none_in_fewer element left (part ++ rest) (subst (NoElementBegins element) (sym (ap (λ (u : List ℕ). part ++ u) (ends eos) ∙ append-nil part)) (none eos)))
            ] in
            subst (λ (u : List ℕ). TurnedPast element u (MemoryOrFault (source.counts (inner_of a)) (source.counts (inner_of b)) e) old new) (sym first) (turned_past element f l plain front (take left (part ++ rest)) xs spelled turned cause));
        turned_at_most = record { bytes = given; held = gave.held; within = at_most turned (omega (arith, content_has_bytes plain element front xs spelled, sum, gave.fell)) };
      }
