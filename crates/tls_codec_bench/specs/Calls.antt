-- What is made by the calls that are timed.
use Rattle.std.specs.Prelude.{◌≡◌, ◌++◌, ℕ, List, length}
use Rattle.tls_codec_grammar.specs.Tree.{Tree}
use Rattle.tls_codec_grammar.specs.Grammar.{Grammar}
use Rattle.tls_codec_grammar.specs.Shortest.{IsShortest}
use Rattle.tls_codec_grammar.specs.Decoding.{Begins}

-- x begins with a spelling of v
pub record BeginsWith (spells : Grammar) (x : List ℕ) (v : Tree) : Type 0 where
  pub rest : List ℕ
  pub begins : Begins spells x v rest

-- the shortest form of v has n bytes
pub record IsLengthOf (spells : Grammar) (v : Tree) (n : ℕ) : Type 0 where
  pub form : List ℕ
  pub shortest : IsShortest spells form v
  pub count : n ≡ length form

-- x ends with these bytes
pub record IsEndOf (x part : List ℕ) : Type 0 where
  pub front : List ℕ
  pub whole : x ≡ front ++ part
