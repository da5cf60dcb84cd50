-- What is reported about bytes from which no value is made.
use Rattle.std.specs.Prelude.{◌≡◌, ◌≢◌, ℕ, List, length, Result, Ok, Err}
use Rattle.std.specs.Borrow.{Bor}
use Rattle.tls_codec_wire.specs.Digits.{AreBytes}
use Rattle.tls_codec_wire.specs.declared.error.Error.{Error}
use Rattle.tls_codec_wire.specs.declared.error.Error.TheVariants.{OutOfMemory, TrailingData}
use Rattle.tls_codec_grammar.specs.Tree.{Tree, Number}
use Rattle.tls_codec_grammar.specs.Grammar.{Grammar, number}
use Rattle.tls_codec_grammar.specs.Format.{Format}
use Rattle.tls_codec_grammar.specs.Decoding.{Begins, LeavesBytes, NoneBegins, NoneSpelled}
use Rattle.tls_codec_base.specs.PartNames.{IsSpelling}
use Rattle.tls_codec_validate.specs.declared.rejected.Rejected.{Rejected}

-- x begins with a spelling, and leaves rest
pub record BeginsLeaving (spells : Grammar) (x rest : List ℕ) : Type 0 where
  pub value : Tree
  pub begins : Begins spells x value rest

-- no prefix of x is a spelling, and the error doesn't speak of memory, which nothing requests
pub record Rejects (spells : Grammar) (x : List ℕ) (e : Error) : Type 0 where
  pub none : NoneBegins spells x
  pub not_memory : e ≢ OutOfMemory

-- what is left after a spelling, or why there is none
abbrev pub Validates : Format → List ℕ → Result (Bor (List ℕ)) Rejected → Type 0
Validates f x (Ok rest) = BeginsLeaving f.spells x rest.now
Validates f x (Err r) = Rejects f.spells x r.error

-- a tag of k bytes and what is left after it, or why there is none
abbrev pub FindsTag : ℕ → List ℕ → Result (ℕ × Bor (List ℕ)) Rejected → Type 0
FindsTag k x (Ok found) = Begins (number k) x (Number found.0) found.1.now
FindsTag k x (Err r) = Rejects (number k) x r.error

-- x as a whole is no spelling, and if a proper prefix of it is one, that is what the error says
pub record RejectsWhole (spells : Grammar) (x : List ℕ) (e : Error) : Type 0 where
  pub none : NoneSpelled spells x
  pub not_memory : e ≢ OutOfMemory
  pub trailing : LeavesBytes spells x → e ≡ TrailingData

-- all of x is a spelling, or why it isn't one
abbrev pub ValidatesWhole : {T : Type 0} → Format → List ℕ → Result T Rejected → Type 0
ValidatesWhole f x (Ok done) = IsSpelling f.spells x
ValidatesWhole f x (Err r) = RejectsWhole f.spells x r.error

-- each k bytes are a spelling, whichever they are
pub record EachIs (spells : Grammar) (k : ℕ) : Type 0 where
  pub each : (x : List ℕ) → AreBytes x → length x ≡ k → IsSpelling spells x
