-- What is reported about the messages that bytes are in a row.
use Rattle.std.specs.Prelude.{◌≡◌, ◌≢◌, ◌≤◌, ◌⊎◌, ℕ, List, [], ◌∷◌, ◌++◌, length, Option, Some, None, ⊤}
use Rattle.tls_codec.specs.Calls.{Error}
use Rattle.tls_codec.specs.Errors.{OutOfMemory}
use Rattle.tls_codec.specs.OwnMessages.{Format, Tree}
use Rattle.tls_codec.specs.Spellings.{IsHollow, NoneBegins, Reading}
use Rattle.tlsdump.specs.Rows.{row}
use Rattle.tlsdump.specs.declared.walk.Walked.{Walked}
use Rattle.tlsdump.specs.declared.dump.Dump.{Dump}
use Rattle.tlsdump.specs.declared.dump.Part.{Part}
use Rattle.tlsdump.specs.declared.dump.Part.TheVariants.{Message, NoMessage}
use Rattle.tlsdump.specs.declared.dump.Rejection.{Rejection}

-- the bytes that the lines of messages show, in a row
abbrev pub rows : List Walked → List ℕ
rows [] = []
rows (walked ∷ others) = row walked.lines.items ++ rows others

-- the lines show a message
abbrev pub IsMessage : Format → Walked → Type 0
IsMessage format walked = (message : Tree) × format.spells Reading (row walked.lines.items) message

-- the bytes begin with no message, and the lines show some of the first of them; running out of
-- memory is no reason
pub record IsNone (format : Format) (bytes : List ℕ) (rejection : Rejection) : Type 0 where
  pub none : NoneBegins format.spells bytes
  pub of_bytes : rejection.error ≢ OutOfMemory
  pub behind : List ℕ
  pub shown : bytes ≡ row rejection.walked.lines.items ++ behind

-- the bytes are rejected with this error, and the lines show some of the first of them
pub record IsRejected (bytes : List ℕ) (error : Error) (rejection : Rejection) : Type 0 where
  pub named : rejection.error ≡ error
  pub behind : List ℕ
  pub shown : bytes ≡ row rejection.walked.lines.items ++ behind

-- the lines show the message that the bytes begin with, all of it and nothing twice; and this is left
pub record Shows (format : Format) (bytes : List ℕ) (walked : Walked) (rest : List ℕ) : Type 0 where
  pub message : IsMessage format walked
  pub whole : bytes ≡ row walked.lines.items ++ rest

-- the bytes begin with a message, or with none
abbrev pub Tells : Format → List ℕ → Part → Type 0
Tells format bytes (Message walked rest) = Shows format bytes walked rest.now
Tells format bytes (NoMessage rejection) = IsNone format bytes rejection

-- nothing is left, or no less than before
abbrev pub IsNoLess : (before left : List ℕ) → Type 0
IsNoLess before left = (left ≡ []) ⊎ (length before ≤ length left)

-- nothing is left, or a message may have no bytes; or what is left begins with no message
abbrev pub Ends : Format → List ℕ → Option Rejection → Type 0
Ends format rest None = (rest ≡ []) ⊎ IsHollow format.spells
Ends format rest (Some rejection) = IsNone format rest rejection

-- each of them shows a message
abbrev pub AreMessages : Format → List Walked → Type 0
AreMessages format [] = ⊤
AreMessages format (walked ∷ others) = IsMessage format walked × AreMessages format others

-- the lines show messages in a row, which the bytes begin with, all of them and nothing twice; and this is left
pub record InARow (format : Format) (bytes : List ℕ) (messages : List Walked) (rest : List ℕ) : Type 0 where
  pub each : AreMessages format messages
  pub whole : bytes ≡ rows messages ++ rest

-- messages in a row up to an end
pub record IsDump (format : Format) (bytes : List ℕ) (dump : Dump) : Type 0 where
  pub rest : List ℕ
  pub messages : InARow format bytes dump.messages.items rest
  pub end : Ends format rest dump.rejection
