-- Numbers of one width in a row, read at once.
use Rattle.std.specs.Prelude.{◌≡◌, ◌%◌, ℕ, List, length, Option, None, Some, Result, Ok, Err, Vec}
use Rattle.std.specs.Global.{Global}
use Rattle.tls_codec_wire.specs.Bounded.{inner_of, limit_of}
use Rattle.tls_codec_wire.specs.Digits.{AreBytes}
use Rattle.tls_codec_wire.specs.Transfer.{ReadRefused}
use Rattle.tls_codec_wire.specs.declared.bounded.Bounded.{Bounded}
use Rattle.tls_codec_wire.specs.declared.device.Source.{Ghosts}
use Rattle.tls_codec_wire.specs.declared.error.Error.{Error}
use Rattle.tls_codec_grammar.specs.Grammar.{number}
use Rattle.tls_codec_grammar.specs.Format.{number_format}
use Rattle.tls_codec_base.specs.PartNames.{NamedWithin}
use Rattle.tls_codec_base.specs.Turns.{TurnedRefusedAtOnce}
use Rattle.tls_codec_base.specs.declared.lists.Turns.{Turns}

-- the source gave these bytes up to its limit: whole numbers of k bytes
pub record GaveRun {S : Type 0} (k : ℕ) (source : Ghosts S) (old new : Bounded S) (digits : List ℕ) : Type 0 where
  pub held : source.given (inner_of old) digits (inner_of new)
  pub fills : length digits ≡ limit_of old
  pub whole : length digits % k ≡ 0
  pub bytes : AreBytes digits

-- why it didn't, and how many turns that took
pub record RefusesRun {S : Type 0} (k : ℕ) (source : Ghosts S) (a b : Bounded S) (old new : Turns) (e : Error) : Type 0 where
  pub named : NamedWithin (number_format k) (ReadRefused k) source a b e
  pub turned : TurnedRefusedAtOnce (number k) source a b old new e

-- the bytes that fill what a source may still give; or none, and nothing was taken: neither takes a turn
abbrev pub ReadsRun : {S : Type 0} → ℕ → Ghosts S → Bounded S → Bounded S → Turns → Turns → Result (Option (Vec ℕ Global)) Error → Type 0
ReadsRun k source a b old new (Ok (Some digits)) = GaveRun k source a b digits.items × (new ≡ old)
ReadsRun k source a b old new (Ok None) = (b ≡ a) × (new ≡ old)
ReadsRun k source a b old new (Err e) = RefusesRun k source a b old new e
