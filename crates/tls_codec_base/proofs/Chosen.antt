-- What is read and written of the parts of a variant, whose tag is read elsewhere.
use Rattle.std.proofs.Common.{ℕ, List, Result, Ok, Err, inl, inr, refl, subst}
use Rattle.tls_codec_wire.specs.Counts.{Counts}
use Rattle.tls_codec_wire.specs.Seen.{Causes}
use Rattle.tls_codec_wire.specs.declared.device.Sink.{Ghosts as SinkGhosts}
use Rattle.tls_codec_wire.specs.declared.device.Source.{Ghosts}
use Rattle.tls_codec_wire.specs.declared.error.Error.{Error}
use Rattle.tls_codec_wire.proofs.Seen.{refused_so}
use Rattle.tls_codec_grammar.specs.Tree.{Tree, Number, Join}
use Rattle.tls_codec_grammar.specs.Grammar.{Reading}
use Rattle.tls_codec_grammar.specs.Tagged.{MeetsVariantLaws, Variants}
use Rattle.tls_codec_grammar.specs.Decoding.{Begins, GaveSpelling, Named, NoneBegins, Refuses, RefusesFromSource, RefusesSeen}
use Rattle.tls_codec_grammar.specs.Encoding.{AppendsForm, Writes}
use Rattle.tls_codec_grammar.specs.Contexts.{chosen, chosen_format}

module _ {variants : Variants} (m : MeetsVariantLaws variants) (n : ℕ) where
  none_chosen : (x : List ℕ) → NoneBegins (variants.parts n).spells x → NoneBegins (chosen n variants) x
  none_chosen x none (Join (Number i) vs) s b = none vs s (record { front = b.front; whole = b.whole; spelled = subst (λ (u : ℕ). (variants.parts u).spells Reading b.front vs) b.spelled.0 b.spelled.1 })
  none_chosen x none _ s b = absurd b.spelled

  -- ---- from a slice

  pub chosen_begins : {x : List ℕ} {vs : Tree} {r : List ℕ} → Begins (variants.parts n).spells x vs r → Begins (chosen n variants) x (Join (Number n) vs) r
  chosen_begins p = record { front = p.front; whole = p.whole; spelled = (refl, p.spelled) }

  pub chosen_refused : {x : List ℕ} {e : Error} → Refuses (variants.parts n).spells (variants.parts n).lean x e → Refuses (chosen n variants) variants.lean x e
  chosen_refused {x} r = record {
    cause = elim r.cause [
      | inl none ↦ inl (none_chosen x none)
      | inr out ↦ inr out
    ];
    memory = λ h. m.memory n (r.memory h);
  }

  -- ---- from a source

  source_chosen : {before after : Counts} {e : Error} (x : List ℕ) → RefusesSeen (variants.parts n).spells (variants.parts n).lean x before after e → RefusesSeen (chosen n variants) variants.lean x before after e
  source_chosen x r = record {
    cause = elim r.cause [
      | inl none ↦ inl (none_chosen x none)
      | inr out ↦ inr out
    ];
    memory = λ h. elim (r.memory h) [
      | inl not_lean ↦ inl (m.memory n not_lean)
      | inr rose ↦ inr rose
    ];
  }

  pub chosen_given : {S : Type 0} {given : S → List ℕ → S → Type 0} {a b : S} {vs : Tree} → GaveSpelling given (variants.parts n).spells a b vs → GaveSpelling given (chosen n variants) a b (Join (Number n) vs)
  chosen_given p = record { front = p.front; held = p.held; spelled = (refl, p.spelled) }

  module _ {S : Type 0} {source : Ghosts S} where
    pub chosen_leaves : {a b : S} {e : Error} → RefusesFromSource (variants.parts n) source a b e → RefusesFromSource (chosen_format n variants) source a b e
    chosen_leaves p = record { refused = refused_so source_chosen p.refused }

    pub chosen_named : {a b : S} {e : Error} (names : Causes) → Named (variants.parts n) names source a b e → Named (chosen_format n variants) names source a b e
    chosen_named names p = record { refused = refused_so (λ x q. (source_chosen x q.0, q.1)) p.refused }

  -- ---- to a sink, and after what a vector has

  pub chosen_writes : {S : Type 0} (vs : Tree) (sink : SinkGhosts S) (a b : S) (r : Result ℕ Error) → Writes (variants.parts n) vs sink a b r → Writes (chosen_format n variants) (Join (Number n) vs) sink a b r
  chosen_writes vs sink a b (Ok j) p = record {
    form = p.form;
    shortest = record { spelled = (refl, p.shortest.spelled); least = λ t q. p.shortest.least t q.1 };
    held = p.held;
    count = p.count;
    fell = p.fell;
  }
  chosen_writes vs sink a b (Err e) p = record {
    sent = p.sent;
    held = p.held;
    beginning = λ s q. p.beginning s (record { spelled = q.spelled.1; least = λ t u. q.least t (refl, u) });
    cause = elim p.cause [
      | inl refused ↦ inl refused
      | inr named ↦ inr (inl (refl, named))
    ];
    fell = p.fell;
  }

  pub chosen_appends : (vs : Tree) (a b : List ℕ) (r : Result ℕ Error) → AppendsForm (variants.parts n) vs a b r → AppendsForm (chosen_format n variants) (Join (Number n) vs) a b r
  chosen_appends vs a b (Ok j) p = record {
    form = p.form;
    shortest = record { spelled = (refl, p.shortest.spelled); least = λ t q. p.shortest.least t q.1 };
    held = p.held;
    count = p.count;
  }
  chosen_appends vs a b (Err e) p = record {
    kept = p.kept;
    cause = elim p.cause [
      | inl memory ↦ inl memory
      | inr (inl named) ↦ inr (inl (inl (refl, named)))
      | inr (inr long) ↦ inr (inr (long.0, λ s q. long.1 s (record { spelled = q.spelled.1; least = λ t u. q.least t (refl, u) })))
    ];
  }
