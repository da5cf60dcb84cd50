-- Elements that are read in a row from a source that ends where their list does.
use Rattle.std.proofs.Common.{◌≡◌, ℕ, ◌+◌, ◌-◌, ◌<◌, List, [], ◌∷◌, ◌++◌, length, take, refl, sym, ap, subst, ◌∙◌, inl, inr, arith, length-append}
use Rattle.std.specs.Prelude.{codes}
use Rattle.std.proofs.Math.Seq.{take-append-add}
use Rattle.std.proofs.lemmas.List.{nil_from_length}
use Rattle.tls_codec_wire.specs.declared.bounded.Bounded.{Bounded}
use Rattle.tls_codec_wire.specs.declared.error.Error.{Error}
use Rattle.tls_codec_wire.specs.Bounded.{GaveWithin, inner_of, limit_of}
use Rattle.tls_codec_wire.specs.Device.{GivesInOrder, GivesNothing, NoCountFalls}
use Rattle.tls_codec_wire.specs.Seen.{Causes, RefusedFor, within}
use Rattle.tls_codec_wire.specs.declared.device.Source.{Ghosts}
use Rattle.tls_codec_wire.specs.declared.error.Error.TheVariants.{OutOfMemory}
use Rattle.tls_codec_grammar.specs.Tree.{Tree, trees}
use Rattle.tls_codec_grammar.specs.Grammar.{Reading, Grammar, content, sized}
use Rattle.tls_codec_grammar.specs.Lawful.{IsLawful}
use Rattle.tls_codec_grammar.specs.Decoding.{GaveSpelling, Named, NoneBegins, part_source_names}
use Rattle.tls_codec_grammar.specs.Errors.{Says}
use Rattle.tls_codec_base.proofs.ListReading.{ReadSoFar, content_more, next_of, none_if_empty}
use Rattle.tls_codec_grammar.specs.Shortest.{IsHollow}
use Rattle.tls_codec_grammar.specs.Format.{Format, content_format, sized_format}
use Rattle.tls_codec_base.specs.PartNames.{IsRun, elements_source_names}
use Rattle.tls_codec_base.proofs.Coming.{named_after}
use Rattle.tls_codec_wire.proofs.Later.{fault_later}
use Rattle.tls_codec_wire.proofs.Seen.{refused_later, refused_now, refused_within}

-- the source gave a content of v, and left of n bytes are still to be read
pub record GivenSoFar {S : Type 0} (given : S → List ℕ → S → Type 0) (element : Grammar) (old new : S) (n left : ℕ) (v : Tree) : Type 0 where
  pub front : List ℕ
  pub held : given old front new
  pub fills : length front + left ≡ n
  pub spelled : content element Reading front v

module _ {S : Type 0} (given : S → List ℕ → S → Type 0) (element : Grammar) where
  module _ (order : GivesInOrder given) (start : S) (n : ℕ) (a b : Bounded S) where
    -- one element more was read
    pub given_more : {T : Type 0} (plain : T → Tree) (xs : List T) (y : T) (ys : List T) → GivenSoFar given element start (inner_of a) n (limit_of a) (trees plain xs) → GaveSpelling (GaveWithin given) element a b (plain y) → (limit_of b ≡ limit_of a → ⊥) → ys ≡ xs ++ y ∷ []
        → GivenSoFar given element start (inner_of b) n (limit_of b) (trees plain ys)
    given_more {T} plain xs y ys p q some e = record {
      front = p.front ++ q.front;
      held = order start p.front (inner_of a) q.front (inner_of b) p.held q.held.held;
      fills = omega (arith, p.fills, q.held.fell, length-append p.front q.front);
      spelled = subst (λ (zs : List T). content element Reading (p.front ++ q.front) (trees plain zs)) (sym e)
          (content_more plain element p.front xs q.front y p.spelled q.spelled (omega (arith, some, q.held.fell)));
    }

module _ (element : Grammar) (f : Tree → ℕ) (l : IsLawful element f) where
  -- if no element begins the bytes up to the list's end, no list begins the bytes
  none_within : (x : List ℕ) (n left : ℕ) (v : Tree) (rest : List ℕ) → ReadSoFar element x n left v rest → 0 < left → NoneBegins element (take left rest) → NoneBegins (sized n (content element)) x
  none_within x n left v rest p lt none w t b =
      let h = next_of element f l x n left v rest p lt w t b in
      let k : left ≡ length h.begins.front + (left - length h.begins.front) = omega (arith, h.fits, p.fills, b.spelled.0) in
      none h.tree (take (left - length h.begins.front) h.behind) (record {
        front = h.begins.front;
        whole = ap (take left) h.begins.whole ∙ ap (λ (m : ℕ). take m (h.begins.front ++ h.behind)) k ∙ take-append-add h.begins.front h.behind (left - length h.begins.front);
        spelled = h.begins.spelled;
      })

-- ---- the next element isn't taken

-- an element is refused that ends where the list does
abbrev pub ElementRefused : Format → Causes → ℕ → Causes
ElementRefused element names left x old new e = part_source_names element names (take left x) old new e

pub refused_inside : {S : Type 0} {source : Ghosts S} {element : Format} {names : Causes} {a b : Bounded S} {e : Error} → Named element names (within source) a b e → RefusedFor source (ElementRefused element names (limit_of a)) (inner_of a) (inner_of b) e
refused_inside p = refused_within (λ x q. q) p.refused

-- nothing is said of the bytes
abbrev pub AnyCause : Causes
AnyCause x old new e = Unit {0}

-- the element was given
pub given_inside : {S : Type 0} {source : Ghosts S} {element : Grammar} {a b : Bounded S} {u : Tree} {e : Error} → GivesNothing source.given → GaveSpelling (GaveWithin source.given) element a b u → RefusedFor source AnyCause (inner_of a) (inner_of b) e
given_inside nothing p = refused_now p.front nothing p.held.held (λ rest. tt)

-- an element of no bytes was given
pub given_empty : {S : Type 0} {given : S → List ℕ → S → Type 0} {element : Grammar} {a b : Bounded S} {u : Tree} → GaveSpelling (GaveWithin given) element a b u → limit_of b ≡ limit_of a → IsHollow element
given_empty {S} {given} {element} {a} {b} {u} p same =
    let empty : p.front ≡ [] = nil_from_length p.front (omega (arith, same, p.held.fell)) in
    (u, subst (λ (s : List ℕ). element Reading s u) empty p.spelled)

-- what was read, and what was seen after it
read_so_far : {S : Type 0} {given : S → List ℕ → S → Type 0} {element : Grammar} {start mid : S} {n left : ℕ} {v : Tree} (p : GivenSoFar given element start mid n left v) (x : List ℕ) → ReadSoFar element (p.front ++ x) n left v x
read_so_far p x = record { front = p.front; whole = refl; fills = p.fills; spelled = p.spelled }

is_run : {S : Type 0} {given : S → List ℕ → S → Type 0} {element : Grammar} {start mid : S} {n left : ℕ} {v : Tree} (p : GivenSoFar given element start mid n left v) → 0 < left → IsRun element n left p.front
is_run {v = v} p some = record { elements = (v, p.spelled); fills = p.fills; some = some }

module _ {S : Type 0} {source : Ghosts S} (element : Format) (names : Causes) (l : IsLawful element.spells element.announced) (order : GivesInOrder source.given) (falls : NoCountFalls source.given source.counts)
    {start : S} {n left : ℕ} {mid end : S} {v : Tree} (p : GivenSoFar source.given element.spells start mid n left v) {e : Error} where
  -- it is refused
  pub list_refused : 0 < left → RefusedFor source (ElementRefused element names left) mid end e → Named (sized_format n (content_format element)) (elements_source_names element names n) source start end e
  list_refused some r = record {
    refused = refused_later p.front order p.held (λ x q. (
      record {
        cause = elim q.0.cause [
          | inl none ↦ inl (none_within element.spells element.announced l (p.front ++ x) n left v x (read_so_far p x) some none)
          | inr (inl fault) ↦ inr (inl (fault_later (source.counts start) (source.counts mid) (source.counts end) (falls start p.front mid p.held) fault))
          | inr (inr memory) ↦ inr (inr memory)
        ];
        memory = λ h. inl refl;
      },
      inr (left, named_after p.front (falls start p.front mid p.held) (is_run p some) x (inl q)),
    )) r;
  }

  -- it has no bytes
  pub list_of_hollow : 0 < left → Says (codes "vector element consumed 0 bytes") e → IsHollow element.spells → RefusedFor source AnyCause mid end e → Named (sized_format n (content_format element)) (elements_source_names element names n) source start end e
  list_of_hollow some says hollow r = record {
    refused = refused_later p.front order p.held (λ x q. (
      record {
        cause = inl (none_if_empty element.spells element.announced l (p.front ++ x) n left v x hollow.0 x (read_so_far p x) some (record { front = []; whole = refl; spelled = hollow.1 }) (omega arith));
        memory = λ h. inl refl;
      },
      inr (left, named_after p.front (falls start p.front mid p.held) (is_run p some) x (inr (says, hollow))),
    )) r;
  }

  -- there is no memory for it
  pub list_without_memory : e ≡ OutOfMemory → RefusedFor source AnyCause mid end e → Named (sized_format n (content_format element)) (elements_source_names element names n) source start end e
  list_without_memory out r = record { refused = refused_later p.front order p.held (λ x q. (record { cause = inr (inr out); memory = λ h. inl refl }, inl out)) r }
