-- Elements that are skipped in a row from the front of some bytes.
use Rattle.std.proofs.Common.{◌≡◌, ℕ, ◌-◌, ◌≤◌, List, [], ◌∷◌, ◌++◌, length, refl, arith}
use Rattle.tls_codec_grammar.specs.Tree.{Tree, trees}
use Rattle.tls_codec_grammar.specs.Grammar.{Grammar, content, sized}
use Rattle.tls_codec_base.proofs.ListReading.{ReadSoFar, read_more, read_none}
use Rattle.tls_codec_validate.specs.Validated.{BeginsLeaving}

-- elements were skipped, whatever they were
pub record SkippedSoFar (element : Grammar) (x : List ℕ) (n left : ℕ) (rest : List ℕ) : Type 0 where
  pub elements : List Tree
  pub read : ReadSoFar element x n left (trees (λ v. v) elements) rest

pub skipped_none : (element : Grammar) (x : List ℕ) (n : ℕ) → SkippedSoFar element x n n x
skipped_none element x n = record { elements = []; read = read_none element x n }

pub skipped_more : {element : Grammar} {x : List ℕ} {n left : ℕ} {rest behind : List ℕ} → SkippedSoFar element x n left rest → BeginsLeaving element rest behind → (length rest - length behind ≡ 0 → ⊥) → length rest - length behind ≤ left → SkippedSoFar element x n (left - (length rest - length behind)) behind
skipped_more {element} {x} {n} {left} {rest} {behind} p q some fits = record {
  elements = p.elements ++ q.value ∷ [];
  read = read_more (λ v. v) element x n left p.elements rest q.value behind (p.elements ++ q.value ∷ []) p.read q.begins some fits refl;
}

-- all of them were
pub skipped_all : {element : Grammar} {x : List ℕ} {n left : ℕ} {rest : List ℕ} → SkippedSoFar element x n left rest → left ≡ 0 → BeginsLeaving (sized n (content element)) x rest
skipped_all {element} {x} {n} {left} {rest} p done = record {
  value = trees (λ v. v) p.elements;
  begins = record { front = p.read.front; whole = p.read.whole; spelled = (omega (arith, p.read.fills, done), p.read.spelled) };
}
