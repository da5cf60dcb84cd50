-- What the bytes of a pair begin with, of which the first part decides the others.
use Rattle.std.proofs.Common.{◌≡◌, ℕ, List, ◌++◌, true, false, inl, inr, refl, sym, ap, subst, ◌∙◌, append_assoc}
use Rattle.tls_codec_wire.specs.Counts.{Counts, NoneFell}
use Rattle.tls_codec_wire.specs.Device.{GivesInOrder, NoCountFalls}
use Rattle.tls_codec_wire.specs.Seen.{Causes}
use Rattle.tls_codec_wire.specs.declared.device.Source.{Ghosts}
use Rattle.tls_codec_wire.specs.declared.error.Error.{Error}
use Rattle.tls_codec_wire.proofs.Seen.{refused_later, refused_so}
use Rattle.tls_codec_grammar.specs.Tree.{Tree, Join}
use Rattle.tls_codec_grammar.specs.Grammar.{Grammar, Reading, fields}
use Rattle.tls_codec_grammar.specs.Lawful.{MeetsLaws}
use Rattle.tls_codec_grammar.specs.Format.{Format}
use Rattle.tls_codec_grammar.specs.Decoding.{Begins, GaveSpelling, Named, NoneBegins, Refuses, RefusesFromSource, RefusesSeen}
use Rattle.tls_codec_base.specs.PartNames.{NamedAfter, SliceNames}
use Rattle.tls_codec_base.proofs.Coming.{named_after}
use Rattle.tls_codec_base.proofs.FieldsDecoding.{fields_begins, fields_given, fields_refuses_others, fields_source_refuses_others}
use Rattle.tls_codec_grammar.specs.Contexts.{then_format}
use Rattle.tls_codec_base.specs.ContextNames.{then_source_names}

module _ (first : Format) (rest : Tree → Format) where
  -- if no first part begins, no pair does
  none_first : (x : List ℕ) → NoneBegins first.spells x → NoneBegins (then_format first rest).spells x
  none_first x none (Join v vs) s b = none v (b.spelled.rest ++ s) (record {
    front = b.spelled.front;
    whole = b.whole ∙ ap (λ (u : List ℕ). u ++ s) b.spelled.whole ∙ append_assoc b.spelled.front b.spelled.rest s;
    spelled = b.spelled.first;
  })
  none_first x none _ s b = absurd b.spelled

  -- if x begins with a first part of this value, and with no product at this value, it begins with no pair
  none_at : MeetsLaws first → {x : List ℕ} {v : Tree} {r : List ℕ} → Begins first.spells x v r → NoneBegins (fields first.spells (rest v).spells) x → NoneBegins (then_format first rest).spells x
  none_at l {x} {v} {r} p none (Join w ws) s b =
      let whole : p.front ++ r ≡ b.spelled.front ++ (b.spelled.rest ++ s) = sym p.whole ∙ b.whole ∙ ap (λ (u : List ℕ). u ++ s) b.spelled.whole ∙ append_assoc b.spelled.front b.spelled.rest s in
      let same : w ≡ v = sym (l.spelled.one p.front b.spelled.front r (b.spelled.rest ++ s) v w p.spelled b.spelled.first whole).1 in
      none (Join v ws) s (record { front = b.front; whole = b.whole; spelled = subst (λ (u : Tree). fields first.spells (rest u).spells Reading b.front (Join u ws)) same b.spelled })
  none_at l p none _ s b = absurd b.spelled

  -- ---- from a slice

  pub then_begins : {x : List ℕ} {v : Tree} {r : List ℕ} {vs : Tree} {s : List ℕ} → Begins first.spells x v r → Begins (rest v).spells r vs s → Begins (then_format first rest).spells x (Join v vs) s
  then_begins p q = let both = fields_begins p q in record { front = both.front; whole = both.whole; spelled = both.spelled }

  pub then_refuses_first : {x : List ℕ} {e : Error} → Refuses first.spells first.lean x e → Refuses (then_format first rest).spells false x e
  then_refuses_first {x} r = record {
    cause = elim r.cause [
      | inl none ↦ inl (none_first x none)
      | inr out ↦ inr out
    ];
    memory = λ h. refl;
  }

  pub then_refuses_rest : MeetsLaws first → {x : List ℕ} {v : Tree} {r : List ℕ} {e : Error} → Begins first.spells x v r → Refuses (rest v).spells (rest v).lean r e → Refuses (then_format first rest).spells false x e
  then_refuses_rest l p q = record {
    cause = elim (fields_refuses_others true l.spelled p q).cause [
      | inl none ↦ inl (none_at l p none)
      | inr out ↦ inr out
    ];
    memory = λ h. refl;
  }

  -- ---- from a source

  source_refuses_first : {before after : Counts} {e : Error} (x : List ℕ) → RefusesSeen first.spells first.lean x before after e → RefusesSeen (then_format first rest).spells false x before after e
  source_refuses_first x r = record {
    cause = elim r.cause [
      | inl none ↦ inl (none_first x none)
      | inr out ↦ inr out
    ];
    memory = λ h. inl refl;
  }

  source_refuses_rest : MeetsLaws first → {start before after : Counts} {e : Error} (front : List ℕ) {v : Tree} → NoneFell start before → first.spells Reading front v
      → (x : List ℕ) → RefusesSeen (rest v).spells (rest v).lean x before after e → RefusesSeen (then_format first rest).spells false (front ++ x) start after e
  source_refuses_rest l front fell spelled x r = record {
    cause = elim (fields_source_refuses_others true front l.spelled fell spelled x r).cause [
      | inl none ↦ inl (none_at l (record { front = front; whole = refl; spelled = spelled }) none)
      | inr out ↦ inr out
    ];
    memory = λ h. inl refl;
  }

  pub then_given : {S : Type 0} {given : S → List ℕ → S → Type 0} {a b c : S} {v vs : Tree} → GivesInOrder given → GaveSpelling given first.spells a b v → GaveSpelling given (rest v).spells b c vs → GaveSpelling given (then_format first rest).spells a c (Join v vs)
  then_given order p q = let both = fields_given order p q in record { front = both.front; held = both.held; spelled = both.spelled }

  module _ {S : Type 0} {source : Ghosts S} {e : Error} where
    pub then_leaves_first : {a b : S} → RefusesFromSource first source a b e → RefusesFromSource (then_format first rest) source a b e
    then_leaves_first p = record { refused = refused_so source_refuses_first p.refused }

    pub then_leaves_rest : {a b c : S} {v : Tree} → GivesInOrder source.given → NoCountFalls source.given source.counts → MeetsLaws first
        → GaveSpelling source.given first.spells a b v → RefusesFromSource (rest v) source b c e → RefusesFromSource (then_format first rest) source a c e
    then_leaves_rest {a} {b} order falls l p q = record { refused = refused_later p.front order p.held (source_refuses_rest l p.front (falls a p.front b p.held) p.spelled) q.refused }

    -- and what is named
    module _ (first_names : Causes) (names : Tree → Causes) where
      pub then_named_first : {a b : S} → Named first first_names source a b e → Named (then_format first rest) (then_source_names first first_names names) source a b e
      then_named_first p = record { refused = refused_so (λ x q. (source_refuses_first x q.0, inl q)) p.refused }

      pub then_named_rest : {a b c : S} {v : Tree} → GivesInOrder source.given → NoCountFalls source.given source.counts → MeetsLaws first
          → GaveSpelling source.given first.spells a b v → Named (rest v) (names v) source b c e → Named (then_format first rest) (then_source_names first first_names names) source a c e
      then_named_rest {a} {b} {c} {v} order falls l p q =
          let fell = falls a p.front b p.held in
          record { refused = refused_later p.front order p.held (λ x r. (source_refuses_rest l p.front fell p.spelled x r.0, inr (v, named_after p.front fell p.spelled x r.1))) q.refused }

-- ---- what is named after the first part of a slice

pub rest_named : {first : Grammar} {x : List ℕ} {v : Tree} {r : List ℕ} {e : Error} (names : SliceNames) → Begins first x v r → names r e → NamedAfter (λ s. first Reading s v) names x e
rest_named {first} {x} {v} {r} names p named = record { front = p.front; rest = r; whole = p.whole; is_front = p.spelled; named = named }
