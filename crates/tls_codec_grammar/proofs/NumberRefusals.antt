-- What a refused number means for a value that begins with one.
use Rattle.std.proofs.Common.{◌≡◌, ◌≢◌, ◌<◌, List, ℕ, length, Bool, true, inl, inr, ap, refl, subst, arith, length-append}
use Rattle.tls_codec_wire.specs.Counts.{Counts}
use Rattle.tls_codec_wire.specs.Numbers.{NumberNotRead}
use Rattle.tls_codec_wire.specs.Seen.{RefusedFor}
use Rattle.tls_codec_wire.specs.declared.device.Source.{Ghosts}
use Rattle.tls_codec_wire.proofs.Seen.{refused_so}
use Rattle.tls_codec_wire.specs.declared.error.Error.{Error}
use Rattle.tls_codec_wire.specs.declared.error.Error.TheVariants.{DecodingError, EndOfStream, OutOfMemory, TrailingData}
use Rattle.tls_codec_wire.specs.Transfer.{ReadRefused}
use Rattle.tls_codec_grammar.specs.Tree.{Number}
use Rattle.tls_codec_grammar.specs.Field.{RefusesDigits}
use Rattle.tls_codec_grammar.specs.Grammar.{Grammar, number}
use Rattle.tls_codec_grammar.specs.Decoding.{Named, NoneBegins, Refuses, RefusesSeen}
use Rattle.tls_codec_grammar.specs.Format.{number_format}

module _ {spells : Grammar} {lean : Bool} {refuses : List ℕ → Error → Type 0}
    (none : (x : List ℕ) (e : Error) → refuses x e → NoneBegins spells x) (named : (x : List ℕ) (e : Error) → refuses x e → (e ≢ OutOfMemory) × (e ≢ TrailingData)) where
  pub number_refuses : (x : List ℕ) (e : Error) → refuses x e → Refuses spells lean x e
  number_refuses x e p = record { cause = inl (none x e p); memory = λ h. absurd ((named x e p).0 h) }

  pub number_refused : (e : Error) (x : List ℕ) (old new : Counts) → NumberNotRead refuses x old new e → RefusesSeen spells lean x old new e
  number_refused (DecodingError text) x old new (inl failed) = record { cause = inr (inl failed.1); memory = λ h. absurd cc }
  number_refused (DecodingError text) x old new (inr refused) = record { cause = inl (none x (DecodingError text) refused); memory = λ h. absurd cc }
  number_refused OutOfMemory x old new p = record { cause = inr (inr refl); memory = λ h. inr p }
  number_refused e x old new p = record { cause = inl (none x e p); memory = λ h. absurd ((named x e p).0 h) }

-- ---- numbers of k bytes

none_in_fewer : (k : ℕ) (x : List ℕ) → length x < k → NoneBegins (number k) x
none_in_fewer k x short (Number n) rest b = omega (arith, short, b.spelled.width, ap length b.whole, length-append b.front rest)
none_in_fewer k x short _ rest b = absurd b.spelled

-- if k bytes are not read, no number of as many is
digits_not_read : (k : ℕ) (e : Error) (x : List ℕ) (old new : Counts) → ReadRefused k x old new e → RefusesSeen (number k) true x old new e
digits_not_read k (DecodingError text) x old new p = record { cause = inr (inl p.1); memory = λ h. absurd cc }
digits_not_read k EndOfStream x old new p = record { cause = inl (none_in_fewer k x p); memory = λ h. absurd cc }
digits_not_read k OutOfMemory x old new p = record { cause = inr (inr refl); memory = λ h. inr p }
digits_not_read k _ x old new p = absurd p

pub digits_named : {S : Type 0} {source : Ghosts S} {old new : S} {e : Error} {k n : ℕ} → n ≡ k → RefusedFor source (ReadRefused n) old new e → Named (number_format k) (ReadRefused k) source old new e
digits_named {S} {source} {old} {new} {e} {k} same p =
    record { refused = refused_so (λ x q. (digits_not_read k e x (source.counts old) (source.counts new) q, q)) (subst (λ (u : ℕ). RefusedFor source (ReadRefused u) old new e) same p) }

-- nor a length of as many
pub field_not_read : (k : ℕ) (e : Error) (x : List ℕ) (old new : Counts) → ReadRefused k x old new e → NumberNotRead (RefusesDigits k) x old new e
field_not_read k (DecodingError text) x old new p = inl p
field_not_read k EndOfStream x old new p = p
field_not_read k OutOfMemory x old new p = p
field_not_read k _ x old new p = absurd p
