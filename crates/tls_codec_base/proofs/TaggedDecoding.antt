-- What a choice's bytes begin with, from what its tag begins with and the parts after it.
use Rattle.std.proofs.Common.{◌≡◌, ℕ, List, ◌++◌, Bool, true, false, Result, Ok, Err, inl, inr, refl, sym, ap, subst, ◌∙◌, append_assoc}
use Rattle.std.specs.Prelude.{IfErr, IsErrAnd}
use Rattle.std.specs.Borrow.{Bor}
use Rattle.std.proofs.lemmas.List.{append_cancel_left}
use Rattle.tls_codec_wire.specs.Counts.{Counts, NoneFell}
use Rattle.tls_codec_wire.specs.Device.{GivesInOrder, GivesNothing, NoCountFalls}
use Rattle.tls_codec_wire.specs.Seen.{Causes}
use Rattle.tls_codec_wire.specs.Digits.{Digits}
use Rattle.tls_codec_wire.specs.Transfer.{ReadRefused}
use Rattle.tls_codec_wire.specs.declared.device.Source.{Ghosts}
use Rattle.tls_codec_wire.specs.declared.error.Error.{Error}
use Rattle.tls_codec_wire.specs.declared.error.Error.TheVariants.{UnknownValue}
use Rattle.tls_codec_wire.proofs.Seen.{refused_later, refused_now, refused_so}
use Rattle.tls_codec_grammar.specs.Tree.{Tree, Number, Empty, Join}
use Rattle.tls_codec_grammar.specs.Grammar.{Grammar, Reading, number, nothing, fields}
use Rattle.tls_codec_grammar.specs.Format.{Format, fields_format, nothing_format, number_format}
use Rattle.tls_codec_grammar.specs.Lawful.{MeetsLaws}
use Rattle.tls_codec_grammar.specs.Decoding.{Begins, GaveSpelling, Named, NoneBegins, Reads, Refuses, RefusesFromSource, RefusesSeen, Splits}
use Rattle.tls_codec_grammar.specs.Tagged.{MeetsVariantLaws, Variants, tagged, tagged_format}
use Rattle.tls_codec_wire.proofs.Later.{fault_later, rose_later}
use Rattle.tls_codec_base.specs.PartNames.{SliceNames}
use Rattle.tls_codec_base.proofs.Coming.{named_after}
use Rattle.tls_codec_base.proofs.FieldsDecoding.{fields_begins, fields_given, fields_leaves_first, last_named, none_at_first, nothing_begins, nothing_given}
use Rattle.tls_codec_base.specs.TaggedNames.{tagged_names, tagged_source_names}

-- ---- which fronts no choice has

module _ (k : ℕ) (variants : Variants) where
  -- if the parts of the tag's variant don't begin after it, no choice does
  none_at_parts : MeetsLaws (number_format k) → (x : List ℕ) (tag : ℕ) (r : List ℕ) → Begins (number k) x (Number tag) r → NoneBegins (variants.parts tag).spells r → NoneBegins (tagged k variants) x
  none_at_parts l x tag r p none (Join (Number m) vs) rest b =
      let whole : p.front ++ r ≡ b.spelled.front ++ (b.spelled.rest ++ rest) = sym p.whole ∙ b.whole ∙ ap (λ (u : List ℕ). u ++ rest) b.spelled.whole ∙ append_assoc b.spelled.front b.spelled.rest rest in
      let tags = l.spelled.one p.front b.spelled.front r (b.spelled.rest ++ rest) (Number tag) (Number m) p.spelled b.spelled.first whole in
      let same : m ≡ tag = cc in
      let left : r ≡ b.spelled.rest ++ rest = append_cancel_left p.front r (b.spelled.rest ++ rest) (whole ∙ ap (λ (u : List ℕ). u ++ (b.spelled.rest ++ rest)) (sym tags.0)) in
      none vs rest (record { front = b.spelled.rest; whole = left; spelled = subst (λ (u : ℕ). (variants.parts u).spells Reading b.spelled.rest vs) same b.spelled.second })
  none_at_parts l x tag r p none _ rest b = absurd b.spelled

-- ---- from a slice

-- a variant with one part
pub part_begins : {part : Grammar} {x : List ℕ} {v : Tree} {rest : List ℕ} → Begins part x v rest → Begins (fields part nothing) x (Join v Empty) rest
part_begins {part} {x} {v} {rest} p = fields_begins p (nothing_begins rest)

pub part_refuses : {part others : Grammar} {lean : Bool} {x : List ℕ} {e : Error} → Refuses part lean x e → Refuses (fields part others) lean x e
part_refuses {part} {others} {lean} {x} {e} r = record {
  cause = elim r.cause [
    | inl none ↦ inl (none_at_first part others x none)
    | inr out ↦ inr out
  ];
  memory = r.memory;
}

module _ {k : ℕ} {variants : Variants} (l : MeetsLaws (number_format k)) (m : MeetsVariantLaws variants) where
  -- the tag is n, and after it come the parts of its variant
  pub tagged_begins : {x : List ℕ} {tag : ℕ} {r : List ℕ} {n : ℕ} {vs : Tree} {rest : List ℕ} → Begins (number k) x (Number tag) r → tag ≡ n → Begins (variants.parts n).spells r vs rest → Begins (tagged k variants) x (Join (Number n) vs) rest
  tagged_begins {x} {tag} {r} {n} {vs} {rest} p same q =
      let both = fields_begins (subst (λ (u : ℕ). Begins (number k) x (Number u) r) same p) q in
      record { front = both.front; whole = both.whole; spelled = both.spelled }

  -- they are refused, and that is handed on
  pub tagged_splits : {T : Type 0} (plain : T → Tree) (x : List ℕ) (result : Result (T × Bor (List ℕ)) Error) {tag : ℕ} {r : List ℕ} {n : ℕ} {e : Error} → IsErrAnd result (λ y. y ≡ e) → Begins (number k) x (Number tag) r → tag ≡ n
      → Refuses (variants.parts n).spells (variants.parts n).lean r e → Splits (tagged_format k variants) plain x result
  tagged_splits {T} plain x (Ok found) h p same q = absurd h
  tagged_splits {T} plain x (Err y) {tag} {r} {n} {e} h p same q = record {
    cause = elim q.cause [
      | inl none ↦ inl (none_at_parts k variants l x n r (subst (λ (u : ℕ). Begins (number k) x (Number u) r) same p) none)
      | inr out ↦ inr (h ∙ out)
    ];
    memory = λ out. m.memory n (q.memory (sym h ∙ out));
  }

  -- no variant has the tag
  pub tagged_refuses_unknown : {x : List ℕ} {tag : ℕ} {r : List ℕ} {n : ℕ} → Begins (number k) x (Number tag) r → variants.has tag ≡ false → Refuses (tagged k variants) variants.lean x (UnknownValue n)
  tagged_refuses_unknown {x} {tag} {r} {n} p none = record {
    cause = inl (none_at_parts k variants l x tag r p (λ v rest b. m.unknown tag none Reading b.front v b.spelled));
    memory = λ h. absurd cc;
  }

-- what is named after the tag
pub tagged_named : {T : Type 0} (result : Result T Error) {k : ℕ} (names : ℕ → SliceNames) {x : List ℕ} {tag : ℕ} {r : List ℕ} {n : ℕ} {e : Error} → IsErrAnd result (λ y. y ≡ e) → Begins (number k) x (Number tag) r → tag ≡ n → names n r e → IfErr result (tagged_names k names x)
tagged_named {T} (Ok v) names h p same named = absurd h
tagged_named {T} (Err y) {k} names {x} {tag} {r} {n} {e} h p same named =
    inr (n, record { front = p.front; rest = r; whole = p.whole; is_front = subst (λ (u : ℕ). Digits k p.front u) same p.spelled; named = subst (λ (u : Error). names n r u) (sym h) named })

-- ---- from a source

-- a variant with one part
pub part_given : {S : Type 0} {given : S → List ℕ → S → Type 0} {part : Grammar} {a b : S} {v : Tree} → GivesInOrder given → GivesNothing given → GaveSpelling given part a b v → GaveSpelling given (fields part nothing) a b (Join v Empty)
part_given {S} {given} {part} {a} {b} {v} order gives p = fields_given order p (nothing_given gives b)

pub part_leaves : {S : Type 0} {source : Ghosts S} {part : Format} {a b : S} {e : Error} → RefusesFromSource part source a b e → RefusesFromSource (fields_format part nothing_format) source a b e
part_leaves p = fields_leaves_first nothing_format p

-- and what it names
pub part_named : {S : Type 0} {source : Ghosts S} {part : Format} (names : Causes) {a b : S} {e : Error} → Named part names source a b e → Named (fields_format part nothing_format) names source a b e
part_named names p = last_named names p

module _ {k : ℕ} {variants : Variants} (l : MeetsLaws (number_format k)) (m : MeetsVariantLaws variants) where
  -- the parts are refused
  parts_refused : {start before after : Counts} {e : Error} (front : List ℕ) (tag n : ℕ) → NoneFell start before → number k Reading front (Number tag) → tag ≡ n
      → (x : List ℕ) → RefusesSeen (variants.parts n).spells (variants.parts n).lean x before after e → RefusesSeen (tagged k variants) variants.lean (front ++ x) start after e
  parts_refused {start} {before} {after} {e} front tag n fell spelled same x q = record {
    cause = elim q.cause [
      | inl none ↦ inl (none_at_parts k variants l (front ++ x) n x (record { front = front; whole = refl; spelled = subst (λ (u : ℕ). number k Reading front (Number u)) same spelled }) none)
      | inr (inl fault) ↦ inr (inl (fault_later start before after fell fault))
      | inr (inr out) ↦ inr (inr out)
    ];
    memory = λ h. elim (q.memory h) [
      | inl parts_not_lean ↦ inl (m.memory n parts_not_lean)
      | inr rose ↦ inr (rose_later start before after fell rose)
    ];
  }

  -- the tag is refused
  none_at_tag : (x : List ℕ) → NoneBegins (number k) x → NoneBegins (tagged k variants) x
  none_at_tag x none (Join (Number n) vs) rest b = none (Number n) (b.spelled.rest ++ rest) (record {
    front = b.spelled.front;
    whole = b.whole ∙ ap (λ (u : List ℕ). u ++ rest) b.spelled.whole ∙ append_assoc b.spelled.front b.spelled.rest rest;
    spelled = b.spelled.first;
  })
  none_at_tag x none _ rest b = absurd b.spelled

  tag_refused : {before after : Counts} {e : Error} (x : List ℕ) → RefusesSeen (number k) true x before after e → RefusesSeen (tagged k variants) variants.lean x before after e
  tag_refused x r = record {
    cause = elim r.cause [
      | inl none ↦ inl (none_at_tag x none)
      | inr out ↦ inr out
    ];
    memory = λ h. elim (r.memory h) [
      | inl not_lean ↦ absurd cc
      | inr rose ↦ inr rose
    ];
  }

  pub tag_reads : {S T : Type 0} (plain : T → Tree) (source : Ghosts S) (a b : S) (result : Result T Error) {e : Error} → IsErrAnd result (λ y. y ≡ e) → RefusesFromSource (number_format k) source a b e → Reads (tagged_format k variants) plain source a b result
  tag_reads plain source a b (Ok v) h p = absurd h
  tag_reads plain source a b (Err y) h p = subst (λ (u : Error). RefusesFromSource (tagged_format k variants) source a b u) (sym h) (record { refused = refused_so tag_refused p.refused })

  pub tag_named_source : {S T : Type 0} (source : Ghosts S) (a b : S) (result : Result T Error) (names : ℕ → Causes) {e : Error} → IsErrAnd result (λ y. y ≡ e) → Named (number_format k) (ReadRefused k) source a b e → IfErr result (Named (tagged_format k variants) (tagged_source_names k names) source a b)
  tag_named_source source a b (Ok v) names h p = absurd h
  tag_named_source source a b (Err y) names h p = subst (λ (u : Error). Named (tagged_format k variants) (tagged_source_names k names) source a b u) (sym h) (record { refused = refused_so (λ x q. (tag_refused x q.0, inl q.1)) p.refused })

  -- no variant has the tag
  unknown_refused : {before after : Counts} {tag n : ℕ} (front : List ℕ) → number k Reading front (Number tag) → variants.has tag ≡ false → (x : List ℕ) → RefusesSeen (tagged k variants) variants.lean (front ++ x) before after (UnknownValue n)
  unknown_refused {tag = tag} front spelled none x = record {
    cause = inl (none_at_parts k variants l (front ++ x) tag x (record { front = front; whole = refl; spelled = spelled }) (λ v rest b. m.unknown tag none Reading b.front v b.spelled));
    memory = λ h. absurd cc;
  }

  module _ {S : Type 0} where
    pub tagged_given : {given : S → List ℕ → S → Type 0} {a b c : S} {tag n : ℕ} {vs : Tree} → GivesInOrder given → GaveSpelling given (number k) a b (Number tag) → tag ≡ n → GaveSpelling given (variants.parts n).spells b c vs → GaveSpelling given (tagged k variants) a c (Join (Number n) vs)
    tagged_given {given} {a} {b} {c} {tag} {n} {vs} order p same q =
        let both = fields_given order (subst (λ (u : ℕ). GaveSpelling given (number k) a b (Number u)) same p) q in
        record { front = both.front; held = both.held; spelled = both.spelled }

    -- and that is handed on
    pub tagged_reads : {T : Type 0} (plain : T → Tree) (source : Ghosts S) (a c : S) (result : Result T Error) {b : S} {tag n : ℕ} {e : Error} → GivesInOrder source.given → NoCountFalls source.given source.counts
        → IsErrAnd result (λ y. y ≡ e) → GaveSpelling source.given (number k) a b (Number tag) → tag ≡ n → RefusesFromSource (variants.parts n) source b c e → Reads (tagged_format k variants) plain source a c result
    tagged_reads {T} plain source a c (Ok v) order falls h p same q = absurd h
    tagged_reads {T} plain source a c (Err y) {b} {tag} {n} {e} order falls h p same q =
        subst (λ (u : Error). RefusesFromSource (tagged_format k variants) source a c u) (sym h) (record { refused = refused_later p.front order p.held (parts_refused p.front tag n (falls a p.front b p.held) p.spelled same) q.refused })

    -- with what is named
    pub tagged_named_source : {T : Type 0} (source : Ghosts S) (a c : S) (result : Result T Error) (names : ℕ → Causes) {b : S} {tag n : ℕ} {e : Error} → GivesInOrder source.given → NoCountFalls source.given source.counts
        → IsErrAnd result (λ y. y ≡ e) → GaveSpelling source.given (number k) a b (Number tag) → tag ≡ n → Named (variants.parts n) (names n) source b c e → IfErr result (Named (tagged_format k variants) (tagged_source_names k names) source a c)
    tagged_named_source {T} source a c (Ok v) names order falls h p same q = absurd h
    tagged_named_source {T} source a c (Err y) names {b} {tag} {n} {e} order falls h p same q =
        let fell = falls a p.front b p.held in
        let digits : Digits k p.front n = subst (λ (u : ℕ). Digits k p.front u) same p.spelled in
        subst (λ (u : Error). Named (tagged_format k variants) (tagged_source_names k names) source a c u) (sym h)
        (record { refused = refused_later p.front order p.held (λ x r. (parts_refused p.front tag n fell p.spelled same x r.0, inr (n, named_after p.front fell digits x r.1))) q.refused })

    -- no variant has the tag
    pub tagged_leaves_unknown : {source : Ghosts S} {a b : S} {tag n : ℕ} → GivesNothing source.given → GaveSpelling source.given (number k) a b (Number tag) → variants.has tag ≡ false → RefusesFromSource (tagged_format k variants) source a b (UnknownValue n)
    tagged_leaves_unknown nothing p none = record { refused = refused_now p.front nothing p.held (unknown_refused p.front p.spelled none) }

    pub unknown_named_source : {source : Ghosts S} {a b : S} (names : ℕ → Causes) {tag n : ℕ} → GivesNothing source.given → NoCountFalls source.given source.counts → GaveSpelling source.given (number k) a b (Number tag) → variants.has tag ≡ false
        → ((x : List ℕ) → names tag x (source.counts b) (source.counts b) (UnknownValue n)) → Named (tagged_format k variants) (tagged_source_names k names) source a b (UnknownValue n)
    unknown_named_source {source} {a} {b} names {tag} nothing falls p none named =
        record { refused = refused_now p.front nothing p.held (λ rest. (unknown_refused p.front p.spelled none rest, inr (tag, named_after p.front (falls a p.front b p.held) p.spelled rest (named rest)))) }
