-- What two decoders of one type say of the same bytes.
use Rattle.std.proofs.Common.{◌≡◌, ℕ, List, [], ◌++◌, Bool, Option, None, Some, Result, Ok, refl, sym, ap, subst, ◌∙◌, inl, inr}
use Rattle.std.proofs.lemmas.List.{append_cancel_left}
use Rattle.std.specs.Borrow.{Bor}
use Rattle.std.specs.Io.KnownBytes.{Consumes}
use Rattle.tls_codec_wire.specs.Counts.{Counts}
use Rattle.tls_codec_wire.specs.Device.{GivesFromFront}
use Rattle.tls_codec_wire.specs.declared.device.Source.{Ghosts}
use Rattle.tls_codec_wire.specs.declared.error.Error.{Error}
use Rattle.tls_codec_grammar.specs.Tree.{Tree}
use Rattle.tls_codec_grammar.specs.Grammar.{Grammar, Reading}
use Rattle.tls_codec_grammar.specs.Format.{Format}
use Rattle.tls_codec_grammar.specs.Lawful.{IsLawful}
use Rattle.tls_codec_grammar.specs.Decoding.{Begins, Refuses, RefusesSeen, RefusesWhole}
use Rattle.tls_codec_base.specs.Paths.{BothRead, FaultOrNoMemory, NoMemory}

module _ (spells : Grammar) (x : List ℕ) where
  -- x begins with a spelling, given by a source which told x, and the source tells the rest
  told_first : (front : List ℕ) (v : Tree) (now : Option (List ℕ)) → Consumes (Some x) now front → spells Reading front v → (rest : List ℕ) × (now ≡ Some rest) × Begins spells x v rest
  told_first front v (Some rest) took p = (rest, refl, record { front = front; whole = took; spelled = p })
  told_first front v None took p = absurd took

  -- if a spelling begins x, a source that tells x is refused for another cause
  pub source_alone : (lean : Bool) (v : Tree) (rest : List ℕ) (old new : Counts) (e : Error) → Begins spells x v rest → RefusesSeen spells lean x old new e → FaultOrNoMemory lean old new e
  source_alone lean v rest old new e b r = elim r.cause [
    | inl none ↦ absurd (none v rest b)
    | inr (inl fault) ↦ inl fault
    | inr (inr memory) ↦ inr (memory, r.memory memory)
  ]

  -- and so is the slice x
  pub slice_alone : (lean : Bool) (v : Tree) (rest : List ℕ) (e : Error) → Begins spells x v rest → Refuses spells lean x e → NoMemory lean e
  slice_alone lean v rest e b r = elim r.cause [
    | inl none ↦ absurd (none v rest b)
    | inr memory ↦ (memory, r.memory memory)
  ]

  -- if x is a spelling, there was no memory for all of it
  pub whole_alone : (lean : Bool) (v : Tree) (e : Error) → spells Reading x v → RefusesWhole spells lean x e → NoMemory lean e
  whole_alone lean v e p r = elim r.cause [
    | inl none ↦ absurd (none v p)
    | inr memory ↦ (memory, r.memory memory)
  ]

  module _ (f : Tree → ℕ) (l : IsLawful spells f) where
    -- x begins with one spelling, which leaves one rest
    pub one_front : (v w : Tree) (rest left : List ℕ) → Begins spells x v rest → Begins spells x w left → (v ≡ w) × (left ≡ rest)
    one_front v w rest left b c =
        let both : b.front ++ rest ≡ c.front ++ left = sym b.whole ∙ c.whole in
        let h = l.one b.front c.front rest left v w b.spelled c.spelled both in
        (h.1, sym (append_cancel_left b.front rest left (both ∙ ap (λ (u : List ℕ). u ++ left) (sym h.0))))

    -- x spells one value
    pub one_whole : (v w : Tree) → spells Reading x v → spells Reading x w → v ≡ w
    one_whole v w p q = (l.one x x [] [] v w p q refl).1

-- what was read from a source
pub was_first : {T S : Type 0} {f : Format} {plain : T → Tree} {source : Ghosts S} {x : List ℕ} {old new : S} {from_slice : Result (T × Bor (List ℕ)) Error} {v : T} → GivesFromFront source.given source.coming
    → BothRead f plain source x old new from_slice (Ok v) → (rest : List ℕ) × (source.coming new ≡ Some rest) × Begins f.spells x (plain v) rest
was_first {f} {plain} {source} {x} {old} {new} {v} from_front b =
    let took = subst (λ (u : Option (List ℕ)). Consumes u (source.coming new) b.reads.front) b.reported (from_front old b.reads.front new b.reads.held) in
    told_first f.spells x b.reads.front (plain v) (source.coming new) took b.reads.spelled
