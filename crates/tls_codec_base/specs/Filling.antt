-- Elements that fill what a source may still give.
use Rattle.std.specs.Prelude.{◌≡◌, [], Result, Vec, IfErr, IfOk, IsOkAnd}
use Rattle.std.specs.Global.{Global}
use Rattle.tls_codec_wire.specs.Bounded.{BorrowAlike, inner_of, limit_of}
use Rattle.tls_codec_wire.specs.Seen.{Causes, RefusedFor}
use Rattle.tls_codec_wire.specs.declared.bounded.Bounded.{Bounded}
use Rattle.tls_codec_wire.specs.declared.device.Source.{Ghosts}
use Rattle.tls_codec_wire.specs.declared.error.Error.{Error}
use Rattle.tls_codec_grammar.specs.Tree.{Tree, trees}
use Rattle.tls_codec_grammar.specs.Format.{Format, content_format, sized_format}
use Rattle.tls_codec_grammar.specs.Decoding.{Reads}
use Rattle.tls_codec_base.specs.PartNames.{NamedWithin}
use Rattle.tls_codec_base.specs.Turns.{SourceTurnedRefused, TurnedEach, TurnedWithinGiven}
use Rattle.tls_codec_base.specs.declared.lists.Turns.{Turns}

-- a list that fills a source's limit is read, or refused, in this number of turns; from no bytes it
-- is empty, and takes no turn
pub record FillsLimit {T S : Type 0} (element : Format) (plain : T → Tree) (names : Causes) (source : Ghosts S)
    (a b : Bounded S) (old new : Turns) (result : Result (Vec T Global) Error) : Type 0 where
  pub same : BorrowAlike a b
  pub reads : Reads (sized_format (limit_of a) (content_format element)) (λ (elements : Vec T Global). trees plain elements.items)
      source (inner_of a) (inner_of b) result
  pub named : IfErr result (NamedWithin element names source a b)
  pub turned : IfOk result (λ elements. TurnedEach elements.items old new)
  pub turned_if_refused : IfErr result
      (RefusedFor source (SourceTurnedRefused element.spells (limit_of a) old new) (inner_of a) (inner_of b))
  pub turned_at_most : TurnedWithinGiven source.given (limit_of a) (inner_of a) (inner_of b) old new
  pub nothing_asked : limit_of a ≡ 0 → IsOkAnd result (λ elements. elements.items ≡ []) × (inner_of b ≡ inner_of a) × (new ≡ old)
