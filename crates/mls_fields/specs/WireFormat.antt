-- The wire format of an MLSMessage.
use Rattle.std.specs.Prelude.{ℕ, List}
use Rattle.tls_codec_grammar.specs.Decoding.{Begins}
use Rattle.tls_codec.specs.OwnMessages.{Tree, Number, Join, pair_tree}
use Rattle.mls.specs.MLSMessage.{mls_message_format}

-- x begins with an MLSMessage, and its wire format is of the case with this number
pub record IsWireFormat (x : List ℕ) (number : ℕ) : Type 0 where
  pub version : Tree
  pub message : Tree
  pub rest : List ℕ
  pub begins : Begins mls_message_format.spells x (pair_tree version (Join (Number number) message)) rest
