-- What is told of a message, of bytes that begin with none, and of messages in a row.
use Rattle.std.proofs.Common.{◌≡◌, ◌++◌, ◌∙◌, ◌+◌, ◌≤◌, ℕ, List, [], ◌∷◌, length, length-append, inl, inr, refl, sym, ap, arith, append-nil, append_assoc}
use Rattle.std.specs.Prelude.{Err, None, Ok, Option, Result, Some, ⊤, ◌⊎◌}
use Rattle.std.specs.Borrow.{Bor}
use Rattle.tls_codec.specs.OwnMessages.{Format}
use Rattle.tls_codec_validate.specs.Validated.{BeginsLeaving, Rejects}
use Rattle.tls_codec.specs.Spellings.{IsHollow}
use Rattle.tls_codec_validate.specs.declared.rejected.Rejected.{Rejected}
use Rattle.tlsdump.proofs.Named.{of_both, of_each, of_one}
use Rattle.tlsdump.specs.Dumps.{AreMessages, InARow, IsDump, IsMessage, IsNoLess, IsNone, IsRejected, Shows, Tells, rows}
use Rattle.tlsdump.specs.Kinds.{Checks, FirstNamed, Kind}
use Rattle.tlsdump.specs.Rows.{ShowsInOrder, row}
use Rattle.tlsdump.specs.declared.dump.Dump.{Dump}
use Rattle.tlsdump.specs.declared.dump.Part.{Part}
use Rattle.tlsdump.specs.declared.dump.Part.TheVariants.{Message, NoMessage}
use Rattle.tlsdump.specs.declared.dump.Rejection.{Rejection}
use Rattle.tlsdump.specs.declared.walk.Walked.{Walked}

-- the lines of what is in front of the rest show a message
pub shown : (f : Format) (x rest message : List ℕ) (walked : Walked) → BeginsLeaving f.spells x rest
    → ((front : List ℕ) → x ≡ front ++ rest → message ≡ front) → ShowsInOrder message None walked → Shows f x walked rest
shown f x rest message walked left before lines =
    let begins = left.begins in
    let is : message ≡ begins.front = before begins.front begins.whole in
    let all : begins.front ≡ row walked.lines.items = sym is ∙ lines.whole ∙ ap (λ r. row walked.lines.items ++ r) lines.all ∙ append-nil (row walked.lines.items) in
    record {
      message = (left.value, rw (← all) begins.spelled);
      whole = begins.whole ∙ ap (λ s. s ++ rest) all;
    }

-- bytes that are rejected begin with no message
pub rejected_is_none : (f : Format) (x : List ℕ) (rejected : Rejected) (rejection : Rejection) → Rejects f.spells x rejected.error
    → IsRejected x rejected.error rejection → IsNone f x rejection
rejected_is_none f x rejected rejection rejects is = record {
  none = rejects.none;
  of_bytes = rw is.named rejects.not_memory;
  behind = is.behind;
  shown = is.shown;
}

-- one message more
pub rows_push : (ws : List Walked) (w : Walked) (x rest behind : List ℕ) → x ≡ rows ws ++ rest → rest ≡ row w.lines.items ++ behind
    → x ≡ rows (ws ++ w ∷ []) ++ behind
rows_push ws w x rest behind is more = is ∙ ap (λ r. rows ws ++ r) more ∙ sym (append_assoc (rows ws) (row w.lines.items) behind) ∙ ap (λ r. r ++ behind) (sym (rows_end ws w))
  where
    rows_end : (vs : List Walked) (v : Walked) → rows (vs ++ v ∷ []) ≡ rows vs ++ row v.lines.items
    rows_end [] v = append-nil (row v.lines.items)
    rows_end (u ∷ us) v = ap (λ r. row u.lines.items ++ r) (rows_end us v) ∙ sym (append_assoc (row u.lines.items) (rows us) (row v.lines.items))

-- what a validator returns, or nothing
abbrev pub Checked : Type 0
Checked = Option (Result (Bor (List ℕ)) Rejected)

-- the same of the type of a name
pub none_named : (ks : List Kind) (name x : List ℕ) (checked : Checked) (rejected : Rejected) (rejection : Rejection) → checked ≡ Some (Err rejected)
    → FirstNamed ks name (λ k. Checks k.format x checked) (checked ≡ None) → IsRejected x rejected.error rejection
    → FirstNamed ks name (λ k. IsNone k.format x rejection) ⊤
none_named ks name x checked rejected rejection is of_kind is_rejected =
    of_one ks name (λ k found. rejected_is_none k.format x rejected rejection (rw is at found) is_rejected) (λ none. tt) of_kind

pub shown_named : (ks : List Kind) (name x : List ℕ) (checked : Checked) (rest : Bor (List ℕ)) (message : List ℕ) (walked : Walked)
    → checked ≡ Some (Ok rest) → FirstNamed ks name (λ k. Checks k.format x checked) (checked ≡ None)
    → ((front : List ℕ) → x ≡ front ++ rest.now → message ≡ front) → ShowsInOrder message None walked
    → FirstNamed ks name (λ k. Shows k.format x walked rest.now) ⊤
shown_named ks name x checked rest message walked is of_kind before lines =
    of_one ks name (λ k found. shown k.format x rest.now message walked (rw is at found) before lines) (λ none. tt) of_kind

pub unknown_named : (ks : List Kind) (name x : List ℕ) (checked : Checked) (part : Part) → checked ≡ None
    → FirstNamed ks name (λ k. Checks k.format x checked) (checked ≡ None) → FirstNamed ks name (λ k. Tells k.format x part) ⊤
unknown_named ks name x checked part is of_kind =
    of_one ks name (λ k found. absurd (rw is at found)) (λ none. tt) of_kind

-- nothing was shown yet
pub first : (ks : List Kind) (name x : List ℕ) → FirstNamed ks name (λ k. InARow k.format x [] x) ⊤
first ks name x = of_each ks name (λ k. record { each = tt; whole = refl }) tt

more : (f : Format) (ws : List Walked) (w : Walked) → AreMessages f ws → IsMessage f w → AreMessages f (ws ++ w ∷ [])
more f [] w each one = (one, tt)
more f (v ∷ vs) w each one = (each.0, more f vs w each.1 one)

one_more : (f : Format) (x : List ℕ) (ws : List Walked) (rest : List ℕ) (w : Walked) (behind : List ℕ) → InARow f x ws rest
    → Shows f rest w behind → InARow f x (ws ++ w ∷ []) behind
one_more f x ws rest w behind row shows = record {
  each = more f ws w row.each shows.message;
  whole = rows_push ws w x rest behind row.whole shows.whole;
}

-- one message more was shown
pub next : (ks : List Kind) (name x : List ℕ) (ws now : List Walked) (rest : List ℕ) (w : Walked) (behind : List ℕ) → now ≡ ws ++ w ∷ []
    → FirstNamed ks name (λ k. InARow k.format x ws rest) ⊤ → FirstNamed ks name (λ k. Shows k.format rest w behind) ⊤
    → FirstNamed ks name (λ k. InARow k.format x now behind) ⊤
next ks name x ws now rest w behind is row shows =
    rw is (of_both ks name (λ k a b. one_more k.format x ws rest w behind a b) (λ a b. tt) row shows)

nothing_before : (xs ys : List ℕ) → length (xs ++ ys) ≤ length ys → xs ≡ []
nothing_before [] ys small = refl
nothing_before (x ∷ xs) ys small = let sum : length (xs ++ ys) ≡ length xs + length ys = length-append xs ys in absurd (omega arith)

-- a message behind which as much is left as before has no bytes
ends : (f : Format) (rest : List ℕ) (w : Walked) (behind : List ℕ) → Shows f rest w behind → IsNoLess rest behind
    → (behind ≡ []) ⊎ IsHollow f.spells
ends f rest w behind shows (inl none) = inl none
ends f rest w behind shows (inr small) =
    let no_bytes : row w.lines.items ≡ [] = nothing_before (row w.lines.items) behind (rw shows.whole at small) in
    inr (shows.message.0, rw (← no_bytes) shows.message.1)

-- no message comes behind the last one
pub ended : (ks : List Kind) (name x : List ℕ) (ws : List Walked) (rest : List ℕ) (w : Walked) (behind : List ℕ) (dump : Dump)
    → dump.messages.items ≡ ws ++ w ∷ [] → dump.rejection ≡ None → IsNoLess rest behind
    → FirstNamed ks name (λ k. InARow k.format x ws rest) ⊤ → FirstNamed ks name (λ k. Shows k.format rest w behind) ⊤
    → FirstNamed ks name (λ k. IsDump k.format x dump) ⊤
ended ks name x ws rest w behind dump are none end row shows = of_both ks name (λ k a b. record {
  rest = behind;
  messages = rw are (one_more k.format x ws rest w behind a b);
  end = rw none (ends k.format rest w behind b end);
}) (λ a b. tt) row shows

-- what is left begins with no message
pub stopped : (ks : List Kind) (name x : List ℕ) (rest : List ℕ) (rejection : Rejection) (dump : Dump) → dump.rejection ≡ Some rejection
    → FirstNamed ks name (λ k. InARow k.format x dump.messages.items rest) ⊤ → FirstNamed ks name (λ k. IsNone k.format rest rejection) ⊤
    → FirstNamed ks name (λ k. IsDump k.format x dump) ⊤
stopped ks name x rest rejection dump is row none = of_both ks name (λ k a b. record {
  rest = rest;
  messages = a;
  end = rw is b;
}) (λ a b. tt) row none

-- which of both it is
pub message_named : (ks : List Kind) (name x : List ℕ) (part : Part) (w : Walked) (behind : Bor (List ℕ)) → part ≡ Message w behind
    → FirstNamed ks name (λ k. Tells k.format x part) ⊤ → FirstNamed ks name (λ k. Shows k.format x w behind.now) ⊤
message_named ks name x part w behind is told = let whole = rw is at told in whole

pub no_message_named : (ks : List Kind) (name x : List ℕ) (part : Part) (rejection : Rejection) → part ≡ NoMessage rejection
    → FirstNamed ks name (λ k. Tells k.format x part) ⊤ → FirstNamed ks name (λ k. IsNone k.format x rejection) ⊤
no_message_named ks name x part rejection is told = let whole = rw is at told in whole
