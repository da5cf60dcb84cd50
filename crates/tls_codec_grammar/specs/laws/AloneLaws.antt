-- What follows if a value has at most one writing spelling.
use Rattle.std.proofs.Common.{ℕ, List, subst, inl}
use Rattle.tls_codec_grammar.specs.Tree.{Tree}
use Rattle.tls_codec_grammar.specs.Grammar.{Grammar, Reading, Writing}
use Rattle.tls_codec_grammar.specs.Shortest.{IsShortest, IsFull}
use Rattle.tls_codec_grammar.specs.Lawful.{IsLawful, IsLawfulInside}

-- it is the shortest form
pub alone_shortest : {spells : Grammar} {f : Tree → ℕ} → IsLawful spells f → (s : List ℕ) (v : Tree) → spells Writing s v → IsShortest spells s v
alone_shortest l s v p = record { spelled = p; least = λ t q. inl (l.alone t s v q p) }

pub alone_inside : {inside : Grammar} {f : Tree → ℕ} → IsLawfulInside inside f → (c : List ℕ) (v : Tree) → inside Writing c v → IsShortest inside c v
alone_inside l c v p = record { spelled = p; least = λ d q. inl (l.alone d c v q p) }

-- a value with a reading spelling is full
pub alone_full : {spells : Grammar} {f : Tree → ℕ} → IsLawful spells f → (s : List ℕ) (v : Tree) → spells Reading s v → IsFull spells v
alone_full {spells} l s v p t q = subst (λ (u : List ℕ). spells Reading u v) (l.alone s t v (l.written s v p) q) p
