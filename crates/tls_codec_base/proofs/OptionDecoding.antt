-- What an option's bytes begin with, from what its payload's begin with.
use Rattle.std.proofs.Common.{◌≡◌, ◌≢◌, ℕ, List, [], ◌∷◌, ◌++◌, length, get_or, Bool, inl, inr, refl, sym, ap, ◌∙◌, arith}
use Rattle.tls_codec_wire.specs.Counts.{Counts, NoneFell}
use Rattle.tls_codec_wire.specs.Device.{GivesInOrder}
use Rattle.tls_codec_wire.specs.declared.error.Error.{Error}
use Rattle.tls_codec_wire.specs.declared.error.Error.TheVariants.{DecodingError, EndOfStream, OutOfMemory}
use Rattle.tls_codec_wire.specs.Transfer.{ReadRefused}
use Rattle.tls_codec_wire.proofs.Later.{fault_later, rose_later}
use Rattle.tls_codec_grammar.specs.Tree.{Tree, Empty, Join}
use Rattle.tls_codec_grammar.specs.Grammar.{Grammar, option}
use Rattle.tls_codec_grammar.specs.Decoding.{Begins, NoneBegins, GaveSpelling, Refuses, RefusesSeen}
use Rattle.tls_codec_base.specs.PartNames.{IsOtherByte}

-- a buffer of one byte
pub one_byte_buffer : (buffer : List ℕ) (b : ℕ) → length buffer ≡ 1 → get_or buffer 0 0 ≡ b → buffer ≡ b ∷ []
one_byte_buffer [] b width e = absurd (omega (arith, width))
one_byte_buffer (x ∷ []) b width e = ap (λ (u : ℕ). u ∷ []) e
one_byte_buffer (x ∷ y ∷ more) b width e = absurd (omega (arith, width))

-- another tag
pub other_byte : (buffer : List ℕ) → length buffer ≡ 1 → get_or buffer 0 0 ≢ 0 → get_or buffer 0 0 ≢ 1 → IsOtherByte buffer
other_byte buffer width zero one = (get_or buffer 0 0, one_byte_buffer buffer (get_or buffer 0 0) width refl, omega (arith, zero, one))

module _ (payload : Grammar) where
  -- ---- from a slice

  pub option_begins : (b : List ℕ) (tag : ℕ) (x : List ℕ) (v : Tree) (rest : List ℕ) → b ≡ tag ∷ x → tag ≡ 1 → Begins payload x v rest → Begins (option payload) b (Join v Empty) rest
  option_begins b tag x v rest e k p = record {
    front = 1 ∷ p.front;
    whole = e ∙ ap (λ (u : ℕ). u ∷ x) k ∙ ap (λ (u : List ℕ). 1 ∷ u) p.whole;
    spelled = (p.front, refl, p.spelled);
  }

  -- if no payload begins after the tag, no option does
  none_after : (b x : List ℕ) → b ≡ 1 ∷ x → NoneBegins payload x → NoneBegins (option payload) b
  none_after b x e none Empty rest p =
      let h : 1 ∷ x ≡ 0 ∷ rest = sym e ∙ p.whole ∙ ap (λ (u : List ℕ). u ++ rest) p.spelled in
      absurd cc
  none_after b x e none (Join v Empty) rest p =
      let h : 1 ∷ x ≡ 1 ∷ (p.spelled.0 ++ rest) = sym e ∙ p.whole ∙ ap (λ (u : List ℕ). u ++ rest) p.spelled.1 in
      none v rest (record { front = p.spelled.0; whole = cc; spelled = p.spelled.2 })
  none_after b x e none _ rest p = absurd p.spelled

  pub option_refuses : (lean : Bool) (b : List ℕ) (tag : ℕ) (x : List ℕ) (e : Error) → b ≡ tag ∷ x → tag ≡ 1 → Refuses payload lean x e → Refuses (option payload) lean b e
  option_refuses lean b tag x e h k r = record {
    cause = elim r.cause [
      | inl none ↦ inl (none_after b x (h ∙ ap (λ (u : ℕ). u ∷ x) k) none)
      | inr out ↦ inr out
    ];
    memory = r.memory;
  }

  -- ---- from a source

  none_with_other_tag : (tag : ℕ) (x : List ℕ) → tag ≢ 0 → tag ≢ 1 → NoneBegins (option payload) (tag ∷ x)
  none_with_other_tag tag x zero one Empty rest p =
      let h : tag ∷ x ≡ 0 ∷ rest = p.whole ∙ ap (λ (u : List ℕ). u ++ rest) p.spelled in
      absurd (zero cc)
  none_with_other_tag tag x zero one (Join v Empty) rest p =
      let h : tag ∷ x ≡ 1 ∷ (p.spelled.0 ++ rest) = p.whole ∙ ap (λ (u : List ℕ). u ++ rest) p.spelled.1 in
      absurd (one cc)
  none_with_other_tag tag x zero one _ rest p = absurd p.spelled

  -- another tag is read
  pub other_tag_refused : (lean : Bool) (buffer : List ℕ) → length buffer ≡ 1 → get_or buffer 0 0 ≢ 0 → get_or buffer 0 0 ≢ 1 → {before after : Counts} {text : _} (x : List ℕ) → RefusesSeen (option payload) lean (buffer ++ x) before after (DecodingError text)
  other_tag_refused lean (tag ∷ []) width zero one x = record { cause = inl (none_with_other_tag tag x zero one); memory = λ h. absurd cc }
  other_tag_refused lean [] width zero one x = absurd (omega (arith, width))
  other_tag_refused lean (tag ∷ t ∷ more) width zero one x = absurd (omega (arith, width))

  -- no tag is read
  pub no_tag_refused : (lean : Bool) (x : List ℕ) (before after : Counts) (e : Error) → ReadRefused 1 x before after e → RefusesSeen (option payload) lean x before after e
  no_tag_refused lean x before after (DecodingError text) p = record { cause = inr (inl p.1); memory = λ h. absurd cc }
  no_tag_refused lean x before after OutOfMemory p = record { cause = inr (inr refl); memory = λ h. inr p }
  no_tag_refused lean [] before after EndOfStream p = record { cause = inl none_in_nothing; memory = λ h. absurd cc }
    where
      none_in_nothing : NoneBegins (option payload) []
      none_in_nothing Empty rest b = let h : [] ≡ 0 ∷ rest = b.whole ∙ ap (λ (u : List ℕ). u ++ rest) b.spelled in absurd cc
      none_in_nothing (Join v Empty) rest b = let h : [] ≡ 1 ∷ (b.spelled.0 ++ rest) = b.whole ∙ ap (λ (u : List ℕ). u ++ rest) b.spelled.1 in absurd cc
      none_in_nothing _ rest b = absurd b.spelled
  no_tag_refused lean (b ∷ bs) before after EndOfStream p = absurd (omega (arith, p))
  no_tag_refused lean x before after _ p = absurd p

  -- the payload is refused
  pub payload_refused : (lean : Bool) {start before after : Counts} {e : Error} (buffer : List ℕ) → length buffer ≡ 1 → get_or buffer 0 0 ≡ 1 → NoneFell start before → (x : List ℕ) → RefusesSeen payload lean x before after e → RefusesSeen (option payload) lean (buffer ++ x) start after e
  payload_refused lean {start} {before} {after} {e} buffer width one fell x r = record {
    cause = elim r.cause [
      | inl none ↦ inl (none_after (buffer ++ x) x (ap (λ (u : List ℕ). u ++ x) (one_byte_buffer buffer 1 width one)) none)
      | inr (inl fault) ↦ inr (inl (fault_later start before after fell fault))
      | inr (inr memory) ↦ inr (inr memory)
    ];
    memory = λ h. elim (r.memory h) [
      | inl not_lean ↦ inl not_lean
      | inr rose ↦ inr (rose_later start before after fell rose)
    ];
  }

  pub option_given : {S : Type 0} (given : S → List ℕ → S → Type 0) (a b c : S) (buffer : List ℕ) (v : Tree) → GivesInOrder given → length buffer ≡ 1 → given a buffer b → get_or buffer 0 0 ≡ 1 → GaveSpelling given payload b c v → GaveSpelling given (option payload) a c (Join v Empty)
  option_given given a b c buffer v order width tag one q = record {
    front = buffer ++ q.front;
    held = order a buffer b q.front c tag q.held;
    spelled = (q.front, ap (λ (u : List ℕ). u ++ q.front) (one_byte_buffer buffer 1 width one), q.spelled);
  }
