-- What was to come of a source that has given a spelling, and what is named after one.
use Rattle.std.proofs.Common.{ℕ, List, ◌++◌, Option, None, Some, refl}
use Rattle.std.specs.Io.KnownBytes.{Consumes}
use Rattle.tls_codec_wire.specs.Counts.{Counts, NoneFell}
use Rattle.tls_codec_wire.specs.Seen.{Causes}
use Rattle.tls_codec_wire.specs.declared.error.Error.{Error}
use Rattle.tls_codec_grammar.specs.Tree.{Tree}
use Rattle.tls_codec_grammar.specs.Grammar.{Grammar, Reading}
use Rattle.tls_codec_grammar.specs.Decoding.{ComesFirst}
use Rattle.tls_codec_base.specs.PartNames.{SourceNamedAfter}

-- the bytes that it tells begin with what it gave
pub comes_first : (spells : Grammar) (old new : Option (List ℕ)) (front : List ℕ) (v : Tree) → Consumes old new front → spells Reading front v → ComesFirst spells old v new
comes_first spells None new front v took spelled = tt
comes_first spells (Some x) None front v took spelled = absurd took
comes_first spells (Some x) (Some rest) front v took spelled = record { front = front; whole = took; spelled = spelled }

-- what is named after a prefix
pub named_after : {Front : List ℕ → Type 0} {names : Causes} {start before after : Counts} {e : Error} (front : List ℕ) → NoneFell start before → Front front → (x : List ℕ) → names x before after e → SourceNamedAfter Front names (front ++ x) start after e
named_after {before = before} front fell is_front x named = record { front = front; rest = x; between = before; whole = refl; is_front = is_front; fell = fell; named = named }
