-- What is read and written of a payload that is there if the context says so.
use Rattle.std.proofs.Common.{ℕ, List, [], true, false, inl, inr, refl, append-nil, sym}
use Rattle.std.proofs.KnownBytes.{Appends-nil}
use Rattle.tls_codec_wire.specs.Counts.{Counts, none_fell_refl}
use Rattle.tls_codec_wire.specs.Device.{GivesNothing}
use Rattle.tls_codec_wire.specs.Seen.{Causes}
use Rattle.tls_codec_wire.specs.declared.device.Sink.{Ghosts as SinkGhosts}
use Rattle.tls_codec_wire.specs.declared.device.Source.{Ghosts}
use Rattle.tls_codec_wire.specs.declared.error.Error.{Error}
use Rattle.tls_codec_wire.proofs.Seen.{refused_so}
use Rattle.tls_codec_grammar.specs.Tree.{Tree, Empty, Join}
use Rattle.tls_codec_grammar.specs.Format.{Format}
use Rattle.tls_codec_grammar.specs.Decoding.{Begins, GaveSpelling, Named, NoneBegins, Refuses, RefusesFromSource, RefusesSeen}
use Rattle.tls_codec_grammar.specs.Encoding.{Appended, AppendRefused, Breaks, Sends}
use Rattle.tls_codec_grammar.specs.Contexts.{present, present_format}

module _ (payload : Format) where
  none_present : (x : List ℕ) → NoneBegins payload.spells x → NoneBegins (present true payload.spells) x
  none_present x none (Join v Empty) s b = none v s (record { front = b.front; whole = b.whole; spelled = b.spelled })
  none_present x none _ s b = absurd b.spelled

  -- ---- from a slice

  pub present_begins : {x : List ℕ} {v : Tree} {r : List ℕ} → Begins payload.spells x v r → Begins (present true payload.spells) x (Join v Empty) r
  present_begins p = record { front = p.front; whole = p.whole; spelled = p.spelled }

  pub absent_begins : (x : List ℕ) → Begins (present false payload.spells) x Empty x
  absent_begins x = record { front = []; whole = refl; spelled = refl }

  pub present_refused : {x : List ℕ} {e : Error} → Refuses payload.spells payload.lean x e → Refuses (present true payload.spells) payload.lean x e
  present_refused {x} r = record {
    cause = elim r.cause [
      | inl none ↦ inl (none_present x none)
      | inr out ↦ inr out
    ];
    memory = r.memory;
  }

  -- ---- from a source

  source_present : {before after : Counts} {e : Error} (x : List ℕ) → RefusesSeen payload.spells payload.lean x before after e → RefusesSeen (present true payload.spells) payload.lean x before after e
  source_present x r = record {
    cause = elim r.cause [
      | inl none ↦ inl (none_present x none)
      | inr out ↦ inr out
    ];
    memory = r.memory;
  }

  pub present_given : {S : Type 0} {given : S → List ℕ → S → Type 0} {a b : S} {v : Tree} → GaveSpelling given payload.spells a b v → GaveSpelling given (present true payload.spells) a b (Join v Empty)
  present_given p = record { front = p.front; held = p.held; spelled = p.spelled }

  pub absent_given : {S : Type 0} {given : S → List ℕ → S → Type 0} → GivesNothing given → (a : S) → GaveSpelling given (present false payload.spells) a a Empty
  absent_given gives a = record { front = []; held = gives a; spelled = refl }

  module _ {S : Type 0} {source : Ghosts S} where
    pub present_leaves : {a b : S} {e : Error} → RefusesFromSource payload source a b e → RefusesFromSource (present_format true payload) source a b e
    present_leaves p = record { refused = refused_so source_present p.refused }

    pub present_named : {a b : S} {e : Error} (names : Causes) → Named payload names source a b e → Named (present_format true payload) names source a b e
    present_named names p = record { refused = refused_so (λ x q. (source_present x q.0, q.1)) p.refused }

  -- ---- to a sink

  module _ {S : Type 0} {sink : SinkGhosts S} where
    pub present_sends : {a b : S} {v : Tree} {n : ℕ} → Sends payload v sink a b n → Sends (present_format true payload) (Join v Empty) sink a b n
    present_sends p = record { form = p.form; shortest = record { spelled = p.shortest.spelled; least = p.shortest.least }; held = p.held; count = p.count; fell = p.fell }

    pub absent_sends : (a : S) → Sends (present_format false payload) Empty sink a a 0
    absent_sends a = record { form = []; shortest = record { spelled = refl; least = λ t q. inl q }; held = Appends-nil (sink.received a); count = refl; fell = none_fell_refl (sink.counts a) }

    pub present_breaks : {a b : S} {v : Tree} {e : Error} → Breaks payload v sink a b e → Breaks (present_format true payload) (Join v Empty) sink a b e
    present_breaks p = record { sent = p.sent; held = p.held; beginning = λ s q. p.beginning s (record { spelled = q.spelled; least = q.least }); cause = p.cause; fell = p.fell }

  -- ---- after what a vector has

  pub present_appended : {a b : List ℕ} {v : Tree} {n : ℕ} → Appended payload v a b n → Appended (present_format true payload) (Join v Empty) a b n
  present_appended p = record { form = p.form; shortest = record { spelled = p.shortest.spelled; least = p.shortest.least }; held = p.held; count = p.count }

  pub absent_appended : (a : List ℕ) → Appended (present_format false payload) Empty a a 0
  absent_appended a = record { form = []; shortest = record { spelled = refl; least = λ t q. inl q }; held = sym (append-nil a); count = refl }

  pub present_not_appended : {a b : List ℕ} {v : Tree} {e : Error} → AppendRefused payload v a b e → AppendRefused (present_format true payload) (Join v Empty) a b e
  present_not_appended p = record {
    kept = p.kept;
    cause = elim p.cause [
      | inl memory ↦ inl memory
      | inr (inl named) ↦ inr (inl named)
      | inr (inr long) ↦ inr (inr (long.0, λ s q. long.1 s (record { spelled = q.spelled; least = q.least })))
    ];
  }

-- ---- refusals of a format before anything is written

pub refused_breaks : {f : Format} {v : Tree} {S : Type 0} {sink : SinkGhosts S} (a : S) {e : Error} → f.refuses v e → Breaks f v sink a a e
refused_breaks {f} {v} {S} {sink} a named = record { sent = []; held = Appends-nil (sink.received a); beginning = λ s q. (s, refl); cause = inr named; fell = none_fell_refl (sink.counts a) }

pub refused_append : {f : Format} {v : Tree} (a : List ℕ) {e : Error} → f.refuses v e → AppendRefused f v a a e
refused_append a named = record { kept = refl; cause = inr (inl named) }
