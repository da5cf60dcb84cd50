-- Numbers of one width in a row, which a source gives.
use Rattle.std.proofs.Common.{◌≡◌, ℕ, zero, suc, ◌*◌, ◌/◌, ◌%◌, ◌+◌, ◌-◌, ◌^◌, ◌<◌, ◌≤◌, ◌⊎◌, List, [], ◌++◌, length, take, drop, take-append-drop, length-take-le, Option, Some, inl, inr, refl, sym, ap, subst, ◌∙◌, append_assoc, arith, length-append, length-take}
use Rattle.std.specs.Prelude.{Ok, Vec}
use Rattle.std.specs.Global.{Global}
use Rattle.std.specs.Io.KnownBytes.{IsAtEnd}
use Rattle.std.specs.Simd.{first_chunks}
use Rattle.std.proofs.Math.Nat.{mod-lt}
use Rattle.std.proofs.lemmas.Nat.{div-add-mod'}
use Rattle.tls_codec_wire.specs.Bounded.{first_bytes, GaveWithin, inner_of, limit_of}
use Rattle.tls_codec_wire.specs.Counts.{Counts, none_fell_refl}
use Rattle.tls_codec_wire.specs.Device.{GivesFromFront, GivesInOrder, GivesNothing}
use Rattle.tls_codec_wire.specs.Digits.{AreBytes, value}
use Rattle.tls_codec_wire.specs.Seen.{RefusedFor, within}
use Rattle.tls_codec_wire.specs.Transfer.{BytesRefused, ReadRefused}
use Rattle.tls_codec_wire.specs.declared.bounded.Bounded.{Bounded}
use Rattle.tls_codec_wire.specs.declared.device.Source.{Ghosts}
use Rattle.tls_codec_wire.specs.declared.error.Error.{Error}
use Rattle.tls_codec_wire.specs.declared.error.Error.TheVariants.{DecodingError, EndOfStream, InvalidVectorLength, OutOfMemory}
use Rattle.tls_codec_wire.specs.Bounded.{gives_from_front_within, gives_in_order_within}
use Rattle.tls_codec_wire.proofs.Bytes.{AreBytes-left}
use Rattle.tls_codec_wire.proofs.Seen.{refused_now, seen_more}
use Rattle.tls_codec_grammar.specs.Tree.{Tree, Empty, Join, Number, number_trees, trees}
use Rattle.tls_codec_grammar.specs.Grammar.{Direction, Reading, content, number, sized}
use Rattle.tls_codec_grammar.specs.Decoding.{GaveSpelling, part_source_names}
use Rattle.tls_codec_grammar.specs.Format.{content_format, number_format, sized_format}
use Rattle.tls_codec_grammar.specs.laws.FormatLaws.{number_meets}
use Rattle.tls_codec_grammar.proofs.ByteContents.{bytes_content}
use Rattle.tls_codec_base.specs.PartNames.{elements_source_names}
use Rattle.tls_codec_base.specs.Runs.{ReadsRun, RefusesRun}
use Rattle.tls_codec_base.specs.Turns.{MemoryOrFault, TurnedBy}
use Rattle.tls_codec_base.specs.declared.lists.Turns.{Turns}
use Rattle.tls_codec_base.proofs.NumberRuns.{groups_content}
use Rattle.tls_codec_base.proofs.Turns.{no_memory_at_once, refused_after, turned_past_given}

-- ---- no memory

-- no memory for a run: the list is refused, as it is before the first number
run_refused : (k n : ℕ) (x : List ℕ) (old new : Counts) → part_source_names (sized_format n (content_format (number_format k))) (elements_source_names (number_format k) (ReadRefused k) n) x old new OutOfMemory
run_refused k n x old new = (record { cause = inr (inr refl); memory = λ h. inl refl }, inl refl)

module _ {S : Type 0} {source : Ghosts S} (a b : Bounded S) (k : ℕ) (digits : List ℕ) (nothing : GivesNothing source.given) where
  -- there was no memory for numbers whose digits were given
  pub run_without_memory : source.given (inner_of a) digits (inner_of b) → {old new : Turns} {e : Error} → e ≡ OutOfMemory → new ≡ old → RefusesRun k source a b old new e
  run_without_memory held {old} {new} {e} out same = subst (λ (u : Error). RefusesRun k source a b old new u) (sym out) (record {
    named = record { refused = refused_now digits nothing held (λ rest. run_refused k (limit_of a) (digits ++ rest) (source.counts (inner_of a)) (source.counts (inner_of b))) };
    turned = no_memory_at_once a b digits nothing held (number k) refl same;
  })

-- a run that was read, but there was no memory for its numbers
pub run_of_no_numbers : {S : Type 0} {source : Ghosts S} (a b : Bounded S) (old new : Turns) {e : Error} (k : ℕ) {found : Option (Vec ℕ Global)} (digits : Vec ℕ Global) → GivesNothing source.given → ReadsRun k source a b old new (Ok found) → found ≡ Some digits → e ≡ OutOfMemory → RefusesRun k source a b old new e
run_of_no_numbers {source = source} a b old new k digits nothing p some out =
    let run = subst (λ (o : Option (Vec ℕ Global)). ReadsRun k source a b old new (Ok o)) some p in
    run_without_memory a b k digits.items nothing run.0.held out run.1

-- ---- too few

-- a number has its width
number_width : (k : ℕ) (d : Direction) (s : List ℕ) (v : Tree) → number k d s v → length s ≡ k
number_width k d s (Number n) p = p.width
number_width k d s Empty p = absurd p
number_width k d s (Join v vs) p = absurd p

-- why digits aren't gathered
why_not_gathered : (n : ℕ) (x : List ℕ) (old new : Counts) (e : Error) → n < 2 ^ 63 → BytesRefused n x old new e → MemoryOrFault old new e ⊎ ((e ≡ EndOfStream) × (length x < n))
why_not_gathered n x old new (DecodingError text) small p = inl (inr p.1)
why_not_gathered n x old new EndOfStream small p = inr (refl, p)
why_not_gathered n x old new OutOfMemory small p = inl (inl refl)
why_not_gathered n x old new InvalidVectorLength small p = absurd (omega (arith, p, small))
why_not_gathered n x old new _ small p = absurd p

chunk_count : (k m : ℕ) (xs : List ℕ) → length (first_chunks k m xs) ≡ m
chunk_count k zero xs = refl
chunk_count k (suc m) xs = ap suc (chunk_count k m _)

-- m whole numbers, and a part of another one
record Parts (k : ℕ) (digits : List ℕ) : Type 0 where
  front : List ℕ
  part : List ℕ
  numbers : List (List ℕ)
  whole : digits ≡ front ++ part
  spelled : content (number k) Reading front (trees (λ x. Number (value x)) numbers)
  count : length numbers ≡ length digits / k
  short : length part < k

parts_of : (k : ℕ) (digits : List ℕ) → 0 < k → AreBytes digits → Parts k digits
parts_of k digits some small =
    let m = length digits / k in
    let sum : m * k + length digits % k ≡ length digits = div-add-mod' (length digits) k in
    let both : take (m * k) digits ++ drop (m * k) digits ≡ digits = take-append-drop (m * k) digits in
    let width : length (take (m * k) digits) ≡ m * k = length-take-le (m * k) digits (omega (arith, sum)) in
    record {
      front = take (m * k) digits;
      part = drop (m * k) digits;
      numbers = first_chunks k m (take (m * k) digits);
      whole = sym both;
      spelled = groups_content k m value (first_chunks k m (take (m * k) digits)) (take (m * k) digits) some (AreBytes-left (take (m * k) digits) (drop (m * k) digits) (subst AreBytes (sym both) small)) width refl;
      count = chunk_count k m (take (m * k) digits);
      short = omega (arith, sum, width, ap length both, length-append (take (m * k) digits) (drop (m * k) digits), mod-lt (length digits) some);
    }

-- what is named of such digits
named_parts : (k n : ℕ) (digits : List ℕ) (p : Parts k digits) (old new : Counts) (e : Error) (y rest : List ℕ) → 0 < n → n < 2 ^ 63 → length digits ≤ n → BytesRefused n y old new e → (e ≡ EndOfStream → (rest ≡ []) × (length digits < n))
    → part_source_names (sized_format n (content_format (number_format k))) (elements_source_names (number_format k) (ReadRefused k) n) (digits ++ rest) old new e
named_parts k n digits p old new OutOfMemory y rest some small fits refused end = run_refused k n (digits ++ rest) old new
named_parts k n digits p old new (DecodingError text) y rest some small fits refused end = (
  record { cause = inr (inl refused.1); memory = λ h. inl refl },
  inr (
    n,
    record {
      front = [];
      rest = digits ++ rest;
      between = old;
      whole = refl;
      is_front = record { elements = (Empty, refl); fills = omega arith; some = some };
      fell = none_fell_refl old;
      named = inl (record { cause = inr (inl refused.1); memory = λ h. absurd cc }, refused);
    },
  ),
)
named_parts k n digits p old new EndOfStream y rest some small fits refused end =
    let none = (end refl).0 in
    let less = (end refl).1 in
    let sum : length digits ≡ length p.front + length p.part = ap length p.whole ∙ length-append p.front p.part in
    let left = n - length p.front in
    let behind = p.part ++ rest in
    let short : length (take left behind) < k = omega (arith, p.short, length-take left behind, length-append p.part rest, ap length none) in (
      record {
        cause = inl (λ v r b. omega (arith, b.spelled.0, ap length b.whole, length-append b.front r, length-append digits rest, ap length none, less));
        memory = λ h. inl refl;
      },
      inr (
        left,
        record {
          front = p.front;
          rest = behind;
          between = old;
          whole = ap (λ (u : List ℕ). u ++ rest) p.whole ∙ append_assoc p.front p.part rest;
          is_front = record { elements = (_, p.spelled); fills = omega (arith, sum, less); some = omega (arith, sum, less) };
          fell = none_fell_refl old;
          named = inl (
            record {
              cause = inl (λ v r b. omega (arith, number_width k Reading b.front v b.spelled, ap length b.whole, length-append b.front r, short));
              memory = λ h. absurd cc;
            },
            short,
          );
        },
      ),
    )
named_parts k n digits p old new InvalidVectorLength y rest some small fits refused end = absurd (omega (arith, refused, small))
named_parts k n digits p old new _ y rest some small fits refused end = absurd refused

-- digits that came were not all
pub run_not_gathered : {S : Type 0} {source : Ghosts S} (a b : Bounded S) (k : ℕ) (digits : List ℕ) {e : Error} {old new : Turns} → 0 < k → k ≤ 8 → AreBytes digits → 0 < limit_of a → limit_of a < 2 ^ 63
    → GivesNothing source.given → GivesInOrder source.given → GivesFromFront source.given source.coming → GaveWithin source.given a digits b → RefusedFor (within source) (BytesRefused (limit_of a)) a b e
    → (e ≡ EndOfStream → IsAtEnd (first_bytes source.coming b)) → TurnedBy (length digits / k + 1) old new → RefusesRun k source a b old new e
run_not_gathered {S} {source} a b k digits {e} {old} {new} some width bytes least most nothing order from_front gave p ends turned =
    let n = limit_of a in
    let before = source.counts (inner_of a) in
    let after = source.counts (inner_of b) in
    let parts = parts_of k digits some bytes in
    let more = seen_more (gives_in_order_within source.given order) (gives_from_front_within source.given source.coming from_front) p.seen in
    let why = why_not_gathered n p.bytes before after e most p.cause in
    let less : e ≡ EndOfStream → length p.bytes < n = λ eos. subst (λ (u : Error). BytesRefused n p.bytes before after u) eos p.cause in
    let end : e ≡ EndOfStream → (0 < limit_of b) × IsAtEnd (first_bytes source.coming b) = λ eos. (omega (arith, less eos, more.2, more.1.fell), ends eos) in
    record {
      named = record {
        refused = refused_after a b digits nothing gave end (λ rest none. named_parts k n digits parts before after e p.bytes rest least most (omega (arith, gave.fell)) p.cause (λ eos. (none eos, omega (arith, gave.fell, (end eos).0))));
      };
      turned = turned_past_given a b digits nothing gave (number k) (λ v. k) (number_meets k (omega (arith, width))).spelled (λ x. Number (value x)) parts.front parts.part parts.numbers parts.whole parts.spelled end
          (λ eos row. omega (arith, number_width k Reading row.front row.first.0.0 row.first.0.1, ap length row.whole, length-append row.front row.rest, parts.short))
          (elim why [ inl excuse ↦ inl excuse | inr eos ↦ inr eos.0 ]) (omega (arith, turned, parts.count));
    }

-- ---- what a run is

-- a run fills what the source might still give
pub run_length : {S : Type 0} (source : Ghosts S) (a b : Bounded S) (old new : Turns) (k : ℕ) (found : Option (Vec ℕ Global)) (digits : Vec ℕ Global) → ReadsRun k source a b old new (Ok found) → found ≡ Some digits → length digits.items ≡ limit_of a
run_length source a b old new k found digits p e = (subst (λ (o : Option (Vec ℕ Global)). ReadsRun k source a b old new (Ok o)) e p).0.fills

-- a run of bytes is a list of them
pub byte_run : {S : Type 0} (source : Ghosts S) (a b : Bounded S) (old new : Turns) (found : Option (Vec ℕ Global)) (bytes : Vec ℕ Global) → ReadsRun 1 source a b old new (Ok found) → found ≡ Some bytes → GaveSpelling source.given (sized (limit_of a) (content (number 1))) (inner_of a) (inner_of b) (number_trees bytes.items)
byte_run source a b old new found bytes p e =
    let run = subst (λ (o : Option (Vec ℕ Global)). ReadsRun 1 source a b old new (Ok o)) e p in
    record { front = bytes.items; held = run.0.held; spelled = (run.0.fills, bytes_content Reading bytes.items run.0.bytes) }
