-- What a product's bytes begin with, from what its first part's begin with and the others'.
use Rattle.std.proofs.Common.{◌≡◌, ℕ, List, [], ◌++◌, Bool, true, false, ◌&&◌, inl, inr, refl, sym, ap, ◌∙◌, append_assoc}
use Rattle.std.proofs.lemmas.List.{append_cancel_left}
use Rattle.tls_codec_wire.specs.Counts.{Counts, NoneFell}
use Rattle.tls_codec_wire.specs.Device.{GivesInOrder, GivesNothing, NoCountFalls}
use Rattle.tls_codec_wire.specs.Seen.{Causes}
use Rattle.tls_codec_wire.specs.declared.device.Source.{Ghosts}
use Rattle.tls_codec_wire.specs.declared.error.Error.{Error}
use Rattle.tls_codec_wire.proofs.Seen.{refused_later, refused_so}
use Rattle.tls_codec_grammar.specs.Tree.{Tree, Empty, Join}
use Rattle.tls_codec_grammar.specs.Grammar.{Grammar, Reading, nothing, fields}
use Rattle.tls_codec_grammar.specs.Lawful.{IsLawful, MeetsLaws}
use Rattle.tls_codec_grammar.specs.Format.{Format, fields_format, nothing_format}
use Rattle.tls_codec_grammar.specs.Decoding.{Begins, GaveSpelling, Named, NoneBegins, Refuses, RefusesFromSource, RefusesSeen}
use Rattle.tls_codec_base.specs.PartNames.{IsSpelling, NamedAfter, SliceNames, fields_source_names}
use Rattle.tls_codec_base.proofs.Coming.{named_after}
use Rattle.tls_codec_wire.proofs.Later.{fault_later, rose_later}

-- ---- no parts

pub nothing_begins : (x : List ℕ) → Begins nothing x Empty x
nothing_begins x = record { front = []; whole = refl; spelled = refl }

pub nothing_given : {S : Type 0} {given : S → List ℕ → S → Type 0} → GivesNothing given → (a : S) → GaveSpelling given nothing a a Empty
nothing_given {S} {given} gives a = record { front = []; held = gives a; spelled = refl }

-- ---- from a slice

pub fields_begins : {first others : Grammar} {x : List ℕ} {v : Tree} {r : List ℕ} {vs : Tree} {rest : List ℕ} → Begins first x v r → Begins others r vs rest → Begins (fields first others) x (Join v vs) rest
fields_begins {first} {others} {x} {v} {r} {vs} {rest} p q = record {
  front = p.front ++ q.front;
  whole = p.whole ∙ ap (λ (u : List ℕ). p.front ++ u) q.whole ∙ sym (append_assoc p.front q.front rest);
  spelled = record { front = p.front; rest = q.front; whole = refl; first = p.spelled; second = q.spelled };
}

module _ (first others : Grammar) where
  -- if no first part begins, no product does
  pub none_at_first : (x : List ℕ) → NoneBegins first x → NoneBegins (fields first others) x
  none_at_first x none (Join v vs) rest b = none v (b.spelled.rest ++ rest) (record {
    front = b.spelled.front;
    whole = b.whole ∙ ap (λ (u : List ℕ). u ++ rest) b.spelled.whole ∙ append_assoc b.spelled.front b.spelled.rest rest;
    spelled = b.spelled.first;
  })
  none_at_first x none _ rest b = absurd b.spelled

  -- if the others don't begin after the first part, no product does
  none_at_others : (f : Tree → ℕ) → IsLawful first f → (x : List ℕ) (v : Tree) (r : List ℕ) → Begins first x v r → NoneBegins others r → NoneBegins (fields first others) x
  none_at_others f l x v r p none (Join w ws) rest b =
      let behind : x ≡ b.spelled.front ++ (b.spelled.rest ++ rest) =
      b.whole ∙ ap (λ (u : List ℕ). u ++ rest) b.spelled.whole ∙ append_assoc b.spelled.front b.spelled.rest rest in
      let whole : p.front ++ r ≡ b.spelled.front ++ (b.spelled.rest ++ rest) = sym p.whole ∙ behind in
      let same = l.one p.front b.spelled.front r (b.spelled.rest ++ rest) v w p.spelled b.spelled.first whole in
      let left : r ≡ b.spelled.rest ++ rest = append_cancel_left p.front r (b.spelled.rest ++ rest) (whole ∙ ap (λ (u : List ℕ). u ++ (b.spelled.rest ++ rest)) (sym same.0)) in
      none ws rest (record { front = b.spelled.rest; whole = left; spelled = b.spelled.second })
  none_at_others f l x v r p none _ rest b = absurd b.spelled

-- a product is not lean if a part isn't
first_not_lean : (a b : Bool) → a ≡ false → (a && b) ≡ false
first_not_lean a b e = ap (λ (u : Bool). u && b) e

others_not_lean : (a b : Bool) → b ≡ false → (a && b) ≡ false
others_not_lean true b e = e
others_not_lean false b e = refl

pub fields_refuses_first : {first others : Grammar} {a : Bool} {x : List ℕ} {e : Error} (b : Bool) → Refuses first a x e → Refuses (fields first others) (a && b) x e
fields_refuses_first {first} {others} {a} {x} {e} b r = record {
  cause = elim r.cause [
    | inl none ↦ inl (none_at_first first others x none)
    | inr out ↦ inr out
  ];
  memory = λ h. first_not_lean a b (r.memory h);
}

pub fields_refuses_others : {first others : Grammar} {f : Tree → ℕ} {b : Bool} {x : List ℕ} {v : Tree} {y : List ℕ} {e : Error} (a : Bool) → IsLawful first f → Begins first x v y → Refuses others b y e → Refuses (fields first others) (a && b) x e
fields_refuses_others {first} {others} {f} {b} {x} {v} {y} {e} a l p r = record {
  cause = elim r.cause [
    | inl none ↦ inl (none_at_others first others f l x v y p none)
    | inr out ↦ inr out
  ];
  memory = λ h. others_not_lean a b (r.memory h);
}

-- ---- from a source

pub fields_given : {S : Type 0} {given : S → List ℕ → S → Type 0} {first others : Grammar} {a b c : S} {v vs : Tree} → GivesInOrder given → GaveSpelling given first a b v → GaveSpelling given others b c vs → GaveSpelling given (fields first others) a c (Join v vs)
fields_given {S} {given} {first} {others} {a} {b} {c} {v} {vs} order p q = record {
  front = p.front ++ q.front;
  held = order a p.front b q.front c p.held q.held;
  spelled = record { front = p.front; rest = q.front; whole = refl; first = p.spelled; second = q.spelled };
}

pub fields_source_refuses_first : {first others : Grammar} {a : Bool} (b : Bool) {before after : Counts} {e : Error} (x : List ℕ) → RefusesSeen first a x before after e → RefusesSeen (fields first others) (a && b) x before after e
fields_source_refuses_first {first} {others} {a} b {before} {after} {e} x r = record {
  cause = elim r.cause [
    | inl none ↦ inl (none_at_first first others x none)
    | inr out ↦ inr out
  ];
  memory = λ h. elim (r.memory h) [
    | inl not_lean ↦ inl (first_not_lean a b not_lean)
    | inr rose ↦ inr rose
  ];
}

pub fields_source_refuses_others : {first others : Grammar} {f : Tree → ℕ} {b : Bool} (a : Bool) {start before after : Counts} {e : Error} (front : List ℕ) {v : Tree} → IsLawful first f → NoneFell start before → first Reading front v
    → (x : List ℕ) → RefusesSeen others b x before after e → RefusesSeen (fields first others) (a && b) (front ++ x) start after e
fields_source_refuses_others {first} {others} {f} {b} a {start} {before} {after} {e} front {v} l fell spelled x r = record {
  cause = elim r.cause [
    | inl none ↦ inl (none_at_others first others f l (front ++ x) v x (record { front = front; whole = refl; spelled = spelled }) none)
    | inr (inl fault) ↦ inr (inl (fault_later start before after fell fault))
    | inr (inr out) ↦ inr (inr out)
  ];
  memory = λ h. elim (r.memory h) [
    | inl not_lean ↦ inl (others_not_lean a b not_lean)
    | inr rose ↦ inr (rose_later start before after fell rose)
  ];
}

-- ---- the same over formats: one citation a field

module _ {S : Type 0} {source : Ghosts S} {first : Format} (others : Format) {e : Error} where
  pub fields_leaves_first : {a b : S} → RefusesFromSource first source a b e → RefusesFromSource (fields_format first others) source a b e
  fields_leaves_first p = record { refused = refused_so (fields_source_refuses_first others.lean) p.refused }

  pub fields_leaves_others : {a b c : S} {v : Tree} → GivesInOrder source.given → NoCountFalls source.given source.counts → MeetsLaws first
      → GaveSpelling source.given first.spells a b v → RefusesFromSource others source b c e → RefusesFromSource (fields_format first others) source a c e
  fields_leaves_others {a} {b} order falls l p q = record { refused = refused_later p.front order p.held (fields_source_refuses_others first.lean p.front l.spelled (falls a p.front b p.held) p.spelled) q.refused }

  -- and what is named
  module _ (first_names others_names : Causes) where
    pub fields_named_first : {a b : S} → Named first first_names source a b e → Named (fields_format first others) (fields_source_names first first_names others_names) source a b e
    fields_named_first p = record { refused = refused_so (λ x q. (fields_source_refuses_first others.lean x q.0, inl q)) p.refused }

    pub fields_named_others : {a b c : S} {v : Tree} → GivesInOrder source.given → NoCountFalls source.given source.counts → MeetsLaws first
        → GaveSpelling source.given first.spells a b v → Named others others_names source b c e → Named (fields_format first others) (fields_source_names first first_names others_names) source a c e
    fields_named_others {a} {b} {c} {v} order falls l p q =
        let fell = falls a p.front b p.held in
        record { refused = refused_later p.front order p.held (λ x r. (fields_source_refuses_others first.lean p.front l.spelled fell p.spelled x r.0, inr (named_after p.front fell (v, p.spelled) x r.1))) q.refused }

-- the last part alone
pub last_named : {S : Type 0} {source : Ghosts S} {last : Format} (names : Causes) {a b : S} {e : Error} → Named last names source a b e → Named (fields_format last nothing_format) names source a b e
last_named names p = record { refused = refused_so (λ x q. (fields_source_refuses_first true x q.0, q.1)) p.refused }

-- ---- what the others name after the first part of a slice: one citation a field

pub others_named : {first : Grammar} {x : List ℕ} {v : Tree} {rest : List ℕ} {e : Error} (names : SliceNames) → Begins first x v rest → names rest e → NamedAfter (IsSpelling first) names x e
others_named {first} {x} {v} {rest} names p named = record { front = p.front; rest = rest; whole = p.whole; is_front = (v, p.spelled); named = named }
