-- What is sent of an option, from what is sent of its payload.
use Rattle.std.proofs.Common.{◌≡◌, inl, inr, ℕ, ◌+◌, List, [], ◌∷◌, ◌++◌, length, Result, Ok, Err, refl, sym, ap, subst, ◌∙◌, append_assoc, arith}
use Rattle.std.specs.Prelude.{IfErr, IfOk, Vec}
use Rattle.std.specs.Global.{Global}
use Rattle.std.specs.Io.KnownBytes.{Appends}
use Rattle.std.proofs.KnownBytes.{Appends-trans}
use Rattle.tls_codec_wire.specs.Counts.{NoneFell, none_fell_trans}
use Rattle.tls_codec_wire.specs.Device.{Received}
use Rattle.tls_codec_wire.specs.Transfer.{WriteRefused}
use Rattle.tls_codec_wire.specs.declared.device.Sink.{Ghosts}
use Rattle.tls_codec_wire.specs.declared.error.Error.{Error}
use Rattle.tls_codec_wire.specs.declared.error.Error.TheVariants.{OutOfMemory}
use Rattle.tls_codec_grammar.specs.Tree.{Tree, Empty, Join}
use Rattle.tls_codec_grammar.specs.Grammar.{option}
use Rattle.tls_codec_grammar.specs.Shortest.{IsShortest}
use Rattle.tls_codec_grammar.specs.Announced.{capped}
use Rattle.tls_codec_grammar.specs.Format.{Format, option_format}
use Rattle.tls_codec_grammar.specs.Lawful.{MeetsLaws}
use Rattle.tls_codec_grammar.specs.Encoding.{Breaks, Makes, RefusesVector, Sends}
use Rattle.tls_codec_grammar.specs.laws.AloneLaws.{alone_shortest}
use Rattle.tls_codec_grammar.specs.laws.OptionLaws.{option_some}
use Rattle.tls_codec_wire.proofs.Later.{cause_later}
use Rattle.tls_codec_grammar.proofs.Sent.{breaks_whole}

-- the shortest form of an option with no payload
none_form : (payload : Format) → IsShortest (option payload.spells) (0 ∷ []) Empty
none_form payload = record { spelled = refl; least = λ t q. inl q }

-- what a vector holds of it, or that there was no memory
pub none_made : (payload : Format) (result : Result (Vec ℕ Global) Error) → IfOk result (λ bytes. bytes.items ≡ 0 ∷ [])
    → IfErr result (λ e. e ≡ OutOfMemory) → Makes (option_format payload) Empty result
none_made payload (Ok bytes) made out = subst (λ (s : List ℕ). IsShortest (option payload.spells) s Empty) (sym made) (none_form payload)
none_made payload (Err e) made out = record { cause = inl out }

module _ (payload : Format) {S : Type 0} {sink : Ghosts S} {a b : S} where
  pub none_sends : Appends (sink.received a) (sink.received b) (0 ∷ []) → NoneFell (sink.counts a) (sink.counts b)
      → Sends (option_format payload) Empty sink a b 1
  none_sends held fell = record { form = 0 ∷ []; shortest = none_form payload; held = held; count = omega arith; fell = fell }

  -- its byte is refused
  pub none_breaks : {e : Error} → Received (sink.received a) (sink.received b) (0 ∷ [])
      → WriteRefused (sink.counts a) (sink.counts b) e → NoneFell (sink.counts a) (sink.counts b)
      → Breaks (option_format payload) Empty sink a b e
  none_breaks {e} = breaks_whole (option_format payload) Empty (0 ∷ []) (none_form payload) sink a b e

module _ {payload : Format} (l : MeetsLaws payload) {v : Tree} where
  -- the shortest form of an option with a payload
  pub some_form : (s : List ℕ) → IsShortest (option payload.spells) s (Join v Empty) → (x : List ℕ) × (s ≡ 1 ∷ x) × IsShortest payload.spells x v
  some_form s p = (p.spelled.0, p.spelled.1, alone_shortest l.spelled p.spelled.0 v p.spelled.2)

  module _ {S : Type 0} {sink : Ghosts S} where
    pub option_sends : {a b c : S} {k n : ℕ} → Appends (sink.received a) (sink.received b) (1 ∷ []) → NoneFell (sink.counts a) (sink.counts b) → Sends payload v sink b c k → n ≡ capped (k + 1) → Sends (option_format payload) (Join v Empty) sink a c n
    option_sends {a} {b} {c} {k} {n} tag fell q e = record {
      form = 1 ∷ q.form;
      shortest = option_some payload.spells v q.form q.shortest;
      held = Appends-trans (sink.received a) (sink.received b) (sink.received c) (1 ∷ []) q.form tag q.held;
      count = omega (arith, e, q.count);
      fell = none_fell_trans fell q.fell;
    }

    -- the tag is refused
    pub tag_breaks : {a b : S} {e : Error} → Received (sink.received a) (sink.received b) (1 ∷ [])
        → WriteRefused (sink.counts a) (sink.counts b) e → NoneFell (sink.counts a) (sink.counts b)
        → Breaks (option_format payload) (Join v Empty) sink a b e
    tag_breaks tag refused fell = record {
      sent = tag.front;
      held = tag.held;
      beginning = λ s p.
          let x = some_form s p in
          let rest = tag.beginning.0 in
          (rest ++ x.0, x.1 ∙ ap (λ (u : List ℕ). u ++ x.0) tag.beginning.1 ∙ append_assoc tag.front rest x.0);
      cause = inl refused;
      fell = fell;
    }

    -- the payload is refused
    pub option_breaks : {a b c : S} {e : Error} → Appends (sink.received a) (sink.received b) (1 ∷ []) → NoneFell (sink.counts a) (sink.counts b) → Breaks payload v sink b c e → Breaks (option_format payload) (Join v Empty) sink a c e
    option_breaks {a} {b} {c} {e} tag fell q = record {
      sent = 1 ∷ q.sent;
      held = Appends-trans (sink.received a) (sink.received b) (sink.received c) (1 ∷ []) q.sent tag q.held;
      beginning = λ s p.
          let x = some_form s p in
          let k = q.beginning x.0 x.2 in
          (k.0, x.1 ∙ ap (λ (u : List ℕ). 1 ∷ u) k.1);
      cause = cause_later (sink.counts a) (sink.counts b) (sink.counts c) e fell (λ named. named) q.cause;
      fell = none_fell_trans fell q.fell;
    }

  -- the payload's vector is refused
  pub option_refuses_vector : (e : Error) → RefusesVector payload v e → RefusesVector (option_format payload) (Join v Empty) e
  option_refuses_vector e p = record {
    cause = elim p.cause [
      | inl memory ↦ inl memory
      | inr (inl named) ↦ inr (inl named)
      | inr (inr long) ↦ inr (inr (long.0, λ s q. let x = some_form s q in omega (arith, long.1 x.0 x.2, ap length x.1)))
    ];
  }
