-- The lemmas that an enum of values cites: one for each way of a call.
use Rattle.std.proofs.Common.{◌≡◌, ℕ, List, Bool, true, Result, sym, ap, subst}
use Rattle.tls_codec_wire.specs.Device.{GivesInOrder, GivesNothing}
use Rattle.tls_codec_wire.specs.declared.device.Sink.{Ghosts as SinkGhosts}
use Rattle.tls_codec_wire.specs.declared.error.Error.{Error}
use Rattle.tls_codec_grammar.specs.Tree.{Number, Empty, Join}
use Rattle.tls_codec_grammar.specs.Grammar.{number}
use Rattle.tls_codec_grammar.specs.Format.{Format, number_format, fields_format, nothing_format}
use Rattle.tls_codec_grammar.specs.Lawful.{MeetsLaws}
use Rattle.tls_codec_grammar.specs.Tagged.{either_format, no_format, tagged}
use Rattle.tls_codec_grammar.specs.Decoding.{Begins, GaveSpelling}
use Rattle.tls_codec_grammar.specs.Encoding.{AppendsForm, Writes}
use Rattle.tls_codec_base.specs.Values.{values, values_format, values_meet}
use Rattle.tls_codec_base.proofs.FieldsDecoding.{nothing_begins, nothing_given}
use Rattle.tls_codec_base.proofs.TaggedDecoding.{tagged_begins, tagged_given}
use Rattle.tls_codec_base.proofs.TaggedEncoding.{alone_appends, alone_writes, tagged_appends, tagged_writes}

behind : (has : ℕ → Bool) {n : ℕ} → has n ≡ true → nothing_format ≡ (values has).parts n
behind has {n} e = ap (λ (b : Bool). either_format b nothing_format no_format) (sym e)

module _ (has : ℕ → Bool) {k : ℕ} (l : MeetsLaws (number_format k)) {m n : ℕ} (e : has n ≡ true) (same : m ≡ n) where
  pub value_writes : {S : Type 0} (sink : SinkGhosts S) (a b : S) (r : Result ℕ Error) → Writes (number_format k) (Number m) sink a b r → Writes (values_format k has) (Join (Number n) Empty) sink a b r
  value_writes sink a b r p = tagged_writes k n (values_meet has) Empty sink a b r (subst (λ (f : Format). Writes (fields_format (number_format k) f) (Join (Number n) Empty) sink a b r) (behind has e) (alone_writes l (Number n) sink a b r (subst (λ (u : ℕ). Writes (number_format k) (Number u) sink a b r) same p)))

  pub value_appends : (old new : List ℕ) (r : Result ℕ Error) → AppendsForm (number_format k) (Number m) old new r → AppendsForm (values_format k has) (Join (Number n) Empty) old new r
  value_appends old new r p = tagged_appends k n (values_meet has) Empty old new r (subst (λ (f : Format). AppendsForm (fields_format (number_format k) f) (Join (Number n) Empty) old new r) (behind has e) (alone_appends l (Number n) old new r (subst (λ (u : ℕ). AppendsForm (number_format k) (Number u) old new r) same p)))

  pub value_begins : {x rest : List ℕ} → Begins (number k) x (Number m) rest → Begins (tagged k (values has)) x (Join (Number n) Empty) rest
  value_begins {x} {rest} p = tagged_begins l (values_meet has) p same (subst (λ (f : Format). Begins f.spells rest Empty rest) (behind has e) (nothing_begins rest))

  pub value_given : {S : Type 0} {given : S → List ℕ → S → Type 0} {a b : S} → GivesInOrder given → GivesNothing given → GaveSpelling given (number k) a b (Number m) → GaveSpelling given (tagged k (values has)) a b (Join (Number n) Empty)
  value_given {S} {given} {a} {b} order gives p = tagged_given l (values_meet has) order p same (subst (λ (f : Format). GaveSpelling given f.spells b b Empty) (behind has e) (nothing_given gives b))
