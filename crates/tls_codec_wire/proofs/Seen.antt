-- What a call has seen, and why it is refused, from what its steps have seen.
use Rattle.std.proofs.Common.{◌≡◌, ℕ, ◌<◌, ◌≤◌, List, [], ◌++◌, length, take, ◌∷◌, Option, None, Some, refl, sym, ap, ◌∙◌, append_assoc, append-nil, subst, arith, length-append, Bor, inl, inr}
use Rattle.std.specs.Prelude.{codes, option_map}
use Rattle.std.proofs.Math.Seq.{take-append-add}
use Rattle.std.proofs.lemmas.List.{nil_from_length, take_all}
use Rattle.std.specs.Io.KnownBytes.{Consumes, IsAtEnd}
use Rattle.tls_codec_wire.specs.Counts.{Counts, OnlyInterrupted, RoseBy}
use Rattle.tls_codec_wire.specs.Device.{FaultRaises, Gave, GivesFromFront, GivesInOrder, GivesNothing}
use Rattle.tls_codec_wire.specs.Seen.{Causes, RefusedFor, Seen, reported_or, within}
use Rattle.tls_codec_wire.specs.Bounded.{inner_of, limit_of}
use Rattle.tls_codec_wire.specs.declared.bounded.Bounded.{Bounded}
use Rattle.tls_codec_wire.specs.Transfer.{BytesRefused, EndRefused, ErrorOfFault, IsShortOf, ReadRefused}
use Rattle.tls_codec_wire.specs.declared.device.Fault.{Fault}
use Rattle.tls_codec_wire.specs.declared.device.Fault.TheVariants.{Failed, Interrupted, NoMemory}
use Rattle.tls_codec_wire.specs.declared.device.Source.{Ghosts}
use Rattle.tls_codec_wire.specs.declared.error.Error.{Error}
use Rattle.tls_codec_wire.specs.declared.error.Error.TheVariants.{DecodingError, EndOfStream, OutOfMemory, TrailingData}

module _ {S : Type 0} {source : Ghosts S} where
  -- what the source gave, and what it tells now
  pub seen_now : {old new : S} (front : List ℕ) → GivesNothing source.given → source.given old front new → Seen source old new (front ++ reported_or (source.coming new) [])
  seen_now {old} {new} front nothing held = record { front = front; at = new; rest = []; gave = held; goes_on = nothing new; whole = refl }

  -- what a later step has seen comes after what was given before
  pub seen_later : {a b c : S} (front : List ℕ) {x : List ℕ} → GivesInOrder source.given → source.given a front b → Seen source b c x → Seen source a c (front ++ x)
  seen_later {a} {b} {c} front {x} order held p = record {
    front = front ++ p.front;
    at = p.at;
    rest = p.rest;
    gave = order a front b p.front p.at held p.gave;
    goes_on = p.goes_on;
    whole = ap (λ (u : List ℕ). front ++ u) p.whole ∙ sym (append_assoc front p.front _);
  }

  -- and the source gave it, or told it
  pub seen_gave : {old new : S} {x : List ℕ} → GivesInOrder source.given → Seen source old new x → Gave source.given old new
  seen_gave {old} {new} order p = record { bytes = p.front ++ p.rest; held = order old p.front p.at p.rest new p.gave p.goes_on }

  -- a source that tells its bytes was seen to have these
  pub seen_told : {old new : S} {x told : List ℕ} → GivesFromFront source.given source.coming → source.coming old ≡ Some told → Seen source old new x → x ≡ told
  seen_told {old} {new} {x} {told} from_front tells p = p.whole ∙ told_so (source.coming p.at) (subst (λ (u : Option (List ℕ)). Consumes u (source.coming p.at) p.front) tells (from_front old p.front p.at p.gave))
    where
      told_so : (now : Option (List ℕ)) → Consumes (Some told) now p.front → p.front ++ reported_or now p.rest ≡ told
      told_so None took = absurd took
      told_so (Some rest) took = sym took

  -- no more was given than was seen
  pub seen_more : {old new : S} {x : List ℕ} → GivesInOrder source.given → GivesFromFront source.given source.coming → Seen source old new x → (g : List ℕ) × source.given old g new × (length g ≤ length x)
  seen_more {old} {new} {x} order from_front p = (
    p.front ++ p.rest,
    order old p.front p.at p.rest new p.gave p.goes_on,
    omega (arith, ap length p.whole, length-append p.front p.rest, length-append p.front (reported_or (source.coming p.at) p.rest), no_less (source.coming p.at) (source.coming new) (from_front p.at p.rest new p.goes_on)),
  )
    where
      no_less : (told now : Option (List ℕ)) → Consumes told now p.rest → length p.rest ≤ length (reported_or told p.rest)
      no_less None now took = omega arith
      no_less (Some y) None took = absurd took
      no_less (Some y) (Some z) took = omega (arith, ap length took, length-append p.rest z)

  -- if nothing was seen, nothing was given
  pub seen_nothing : {old new : S} → GivesInOrder source.given → GivesFromFront source.given source.coming → Seen source old new [] → source.given old [] new
  seen_nothing {old} {new} order from_front p = none p.front p.rest p.gave p.goes_on (source.coming p.at) (from_front p.at p.rest new p.goes_on) p.whole
    where
      none : (front rest : List ℕ) → source.given old front p.at → source.given p.at rest new → (told : Option (List ℕ)) → Consumes told (source.coming new) rest → [] ≡ front ++ reported_or told rest → source.given old [] new
      none [] [] gave on told took whole = order old [] p.at [] new gave on
      none [] (b ∷ bs) gave on None took whole = absurd (omega (arith, ap length whole))
      none [] (b ∷ bs) gave on (Some x) took whole = absurd (lost (source.coming new) took)
        where
          lost : (now : Option (List ℕ)) → Consumes (Some x) now (b ∷ bs) → ⊥
          lost None q = q
          lost (Some y) q = omega (arith, ap length whole, ap length q)
      none (b ∷ bs) rest gave on told took whole = absurd (omega (arith, ap length whole))

  -- if the source never tells any, what it gave was seen
  pub seen_untold : {old new : S} {x : List ℕ} → GivesInOrder source.given → ((s : S) → source.coming s ≡ None) → Seen source old new x → source.given old x new
  seen_untold {old} {new} {x} order never p =
      subst (λ (u : List ℕ). source.given old u new) (sym (p.whole ∙ ap (λ (u : Option (List ℕ)). p.front ++ reported_or u p.rest) (never p.at))) (order old p.front p.at p.rest new p.gave p.goes_on)

  module _ {causes others : Causes} {e : Error} where
    -- one cause is another
    pub refused_so : {old new : S} → ((x : List ℕ) → causes x (source.counts old) (source.counts new) e → others x (source.counts old) (source.counts new) e) → RefusedFor source causes old new e → RefusedFor source others old new e
    refused_so f p = record { bytes = p.bytes; seen = p.seen; cause = f p.bytes p.cause }

    -- one of a later step is another, after what was given before
    pub refused_later : {a b c : S} (front : List ℕ) → GivesInOrder source.given → source.given a front b → ((x : List ℕ) → causes x (source.counts b) (source.counts c) e → others (front ++ x) (source.counts a) (source.counts c) e) → RefusedFor source causes b c e → RefusedFor source others a c e
    refused_later front order held f p = record { bytes = front ++ p.bytes; seen = seen_later front order held p.seen; cause = f p.bytes p.cause }

  -- refused for what was given, whatever comes after it
  pub refused_now : {causes : Causes} {e : Error} {old new : S} (front : List ℕ) → GivesNothing source.given → source.given old front new → ((rest : List ℕ) → causes (front ++ rest) (source.counts old) (source.counts new) e) → RefusedFor source causes old new e
  refused_now {new = new} front nothing held f = record { bytes = _; seen = seen_now front nothing held; cause = f (reported_or (source.coming new) []) }

  -- at the end of the bytes what was given is all that was seen
  pub ended : {causes : Causes} {e : Error} {old new : S} (front : List ℕ) (mid : S) → GivesNothing source.given → GivesInOrder source.given → source.given old front mid → source.given mid [] new → IsAtEnd (source.coming new) → causes front (source.counts old) (source.counts new) e → RefusedFor source causes old new e
  ended {causes} {e} {old} {new} front mid nothing order held none end cause = record {
    bytes = _;
    seen = seen_now (front ++ []) nothing (order old front mid [] new held none);
    cause = subst (λ (u : List ℕ). causes u (source.counts old) (source.counts new) e) (sym (none_left (source.coming new) end)) cause;
  }
    where
      none_left : (now : Option (List ℕ)) → IsAtEnd now → (front ++ []) ++ reported_or now [] ≡ front
      none_left None end = append-nil (front ++ []) ∙ append-nil front
      none_left (Some rest) end = ap (λ (u : List ℕ). (front ++ []) ++ u) end ∙ append-nil (front ++ []) ∙ append-nil front

  -- none is taken if fewer are to come
  pub too_few : {old new : S} (n : ℕ) → GivesNothing source.given → 0 < n → IsShortOf n (source.coming old) → new ≡ old → RefusedFor source (ReadRefused n) old new EndOfStream
  too_few {old} {new} n nothing some short same = record {
    bytes = _;
    seen = seen_now [] nothing (subst (source.given old []) (sym same) (nothing old));
    cause = subst (λ (s : S). length (reported_or (source.coming s) []) < n) (sym same) (fewer (source.coming old) short);
  }
    where
      fewer : (coming : Option (List ℕ)) → IsShortOf n coming → length (reported_or coming []) < n
      fewer None short = some
      fewer (Some x) short = short

-- ---- faults

-- a fault that isn't tried again
pub fault_refuses : (text : Bor (List ℕ)) (retries : ℕ) (start before after : Counts) (fault : Fault) (e : Error) (n : ℕ) (x : List ℕ) → text.now ≡ codes "read failed" → RoseBy retries start.interruptions before.interruptions → OnlyInterrupted start before → FaultRaises fault before after
    → ErrorOfFault fault retries (DecodingError text) e → ReadRefused n x start after e
fault_refuses text retries start before after Interrupted e n x named rose retried raises (most, same) = subst (ReadRefused n x start after) (sym same) (named, inr (omega (arith, most, rose, raises.1)))
fault_refuses text retries start before after NoMemory e n x named rose retried raises same = subst (ReadRefused n x start after) (sym same) (omega (arith, retried.shortages, raises.2))
fault_refuses text retries start before after Failed e n x named rose retried raises same = subst (ReadRefused n x start after) (sym same) (named, inl (omega (arith, retried.failures, raises.0)))

-- bytes that are not read are not gathered
pub not_gathered : (n : ℕ) (x : List ℕ) (old new : Counts) (e : Error) → ReadRefused n x old new e → BytesRefused n x old new e
not_gathered n x old new (DecodingError text) p = p
not_gathered n x old new EndOfStream p = p
not_gathered n x old new OutOfMemory p = tt
not_gathered n x old new _ p = absurd p

-- ---- within a limit

-- what was seen within a limit is the first of what was seen of the inner source
pub record SeenWithin {S : Type 0} (source : Ghosts S) (a b : Bounded S) (y : List ℕ) : Type 0 where
  pub bytes : List ℕ
  pub seen : Seen source (inner_of a) (inner_of b) bytes
  pub first : y ≡ take (limit_of a) bytes

told_within : (n : ℕ) (coming : Option (List ℕ)) (rest : List ℕ) → length rest ≤ n → reported_or (option_map (take n) coming) rest ≡ take n (reported_or coming rest)
told_within n None rest fits = sym (take_all n rest fits)
told_within n (Some x) rest fits = refl

pub seen_within : {S : Type 0} {source : Ghosts S} {a b : Bounded S} {y : List ℕ} → Seen (within source) a b y → SeenWithin source a b y
seen_within {S} {source} {a} {b} {y} p =
    let told = reported_or (source.coming (inner_of p.at)) p.rest in
    record {
      bytes = p.front ++ told;
      seen = record { front = p.front; at = inner_of p.at; rest = p.rest; gave = p.gave.held; goes_on = p.goes_on.held; whole = refl };
      first = p.whole
          ∙ ap (λ (u : List ℕ). p.front ++ u) (told_within (limit_of p.at) (source.coming (inner_of p.at)) p.rest (omega (arith, p.goes_on.fell)))
          ∙ sym (take-append-add p.front told (limit_of p.at))
          ∙ ap (λ (k : ℕ). take k (p.front ++ told)) (omega (arith, p.gave.fell));
    }

-- so what is refused within it is refused of the inner source, by the first of what was seen there
pub refused_within : {S : Type 0} {source : Ghosts S} {causes others : Causes} {a b : Bounded S} {e : Error} → ((x : List ℕ) → causes (take (limit_of a) x) (source.counts (inner_of a)) (source.counts (inner_of b)) e → others x (source.counts (inner_of a)) (source.counts (inner_of b)) e)
    → RefusedFor (within source) causes a b e → RefusedFor source others (inner_of a) (inner_of b) e
refused_within {S} {source} {causes} {others} {a} {b} {e} f p =
    let inner = seen_within p.seen in
    record { bytes = inner.bytes; seen = inner.seen; cause = f inner.bytes (subst (λ (u : List ℕ). causes u (source.counts (inner_of a)) (source.counts (inner_of b)) e) inner.first p.cause) }

-- a source that tells its bytes is refused by them
pub told_cause : {S : Type 0} {source : Ghosts S} {causes : Causes} {old new : S} {e : Error} {told : List ℕ} → GivesFromFront source.given source.coming → source.coming old ≡ Some told → RefusedFor source causes old new e → causes told (source.counts old) (source.counts new) e
told_cause {S} {source} {causes} {old} {new} {e} from_front tells p = subst (λ (u : List ℕ). causes u (source.counts old) (source.counts new) e) (seen_told from_front tells p.seen) p.cause

-- ---- the end

-- a byte was given
pub not_at_end : {S : Type 0} {source : Ghosts S} {old new : S} (byte : List ℕ) → GivesNothing source.given → source.given old byte new → length byte ≡ 1 → RefusedFor source EndRefused old new TrailingData
not_at_end byte nothing held one = refused_now byte nothing held (λ rest. omega (arith, one, length-append byte rest))

-- fewer than one is none
pub at_end : {S : Type 0} {source : Ghosts S} {old new : S} → RefusedFor source (ReadRefused 1) old new EndOfStream → Seen source old new []
at_end {source = source} {old} {new} p = subst (Seen source old new) (nil_from_length p.bytes (omega (arith, p.cause))) p.seen

pub end_refused : (x : List ℕ) (old new : Counts) (e : Error) → (e ≡ EndOfStream → ⊥) → ReadRefused 1 x old new e → EndRefused x old new e
end_refused x old new (DecodingError text) other p = p
end_refused x old new OutOfMemory other p = p
end_refused x old new EndOfStream other p = absurd (other refl)
end_refused x old new _ other p = absurd p
