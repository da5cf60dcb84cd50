-- What is told in numbers, from what validation and the decoder return.
use Rattle.std.proofs.Common.{◌≡◌, ◌≢◌, ℕ, ◌-◌, ◌+◌, List, length, take, refl, sym, ap, subst, ◌∙◌, arith, length-append}
use Rattle.std.proofs.Math.Seq.{take-append_seam}
use Rattle.tls_codec_wire.specs.declared.error.Error.{Error}
use Rattle.tls_codec_wire.specs.declared.error.Error.TheVariants.{EncodingError, InvalidVectorLength, InvalidWriteLength, InvalidInput, DecodingError, EndOfStream, TrailingData, UnknownValue, LibraryError, OutOfMemory}
use Rattle.tls_codec_grammar.specs.Tree.{Tree}
use Rattle.tls_codec_grammar.specs.Grammar.{Reading}
use Rattle.tls_codec_grammar.specs.Format.{Format}
use Rattle.tls_codec_grammar.specs.Decoding.{Begins}
use Rattle.tls_codec_validate.specs.Validated.{Rejects}
use Rattle.tls_codec_outcome.specs.Statuses.{status_number}
use Rattle.tls_codec_outcome.specs.Outcomes.{Decides, IsTaken}

-- ---- the status

-- no error has the status of accepted bytes
not_accepted : (e : Error) → status_number e ≢ 0
not_accepted (EncodingError text) is = absurd (omega (arith, is))
not_accepted InvalidVectorLength is = absurd (omega (arith, is))
not_accepted (InvalidWriteLength text) is = absurd (omega (arith, is))
not_accepted InvalidInput is = absurd (omega (arith, is))
not_accepted (DecodingError text) is = absurd (omega (arith, is))
not_accepted EndOfStream is = absurd (omega (arith, is))
not_accepted TrailingData is = absurd (omega (arith, is))
not_accepted (UnknownValue n) is = absurd (omega (arith, is))
not_accepted LibraryError is = absurd (omega (arith, is))
not_accepted OutOfMemory is = absurd (omega (arith, is))

-- one error alone has the last one
is_memory : (e : Error) → status_number e ≡ 10 → e ≡ OutOfMemory
is_memory (EncodingError text) is = absurd (omega (arith, is))
is_memory InvalidVectorLength is = absurd (omega (arith, is))
is_memory (InvalidWriteLength text) is = absurd (omega (arith, is))
is_memory InvalidInput is = absurd (omega (arith, is))
is_memory (DecodingError text) is = absurd (omega (arith, is))
is_memory EndOfStream is = absurd (omega (arith, is))
is_memory TrailingData is = absurd (omega (arith, is))
is_memory (UnknownValue n) is = absurd (omega (arith, is))
is_memory LibraryError is = absurd (omega (arith, is))
is_memory OutOfMemory is = refl

pub decides_rejected : (f : Format) {x : List ℕ} {e : Error} {status : ℕ} → Rejects f.spells x e → status ≡ status_number e → Decides f x status
decides_rejected f {e = e} r is = record {
  accepted = (λ zero. absurd (not_accepted e (sym is ∙ zero)), λ b. absurd (r.none b.value b.rest b.begins));
  not_memory = λ ten. r.not_memory (is_memory e (sym is ∙ ten));
}

-- ---- how many bytes are taken

-- bytes that an encoding begins, less those that are left, are the encoding's
pub takes : (f : Format) {x rest : List ℕ} {v : Tree} {status taken : ℕ} → Begins f.spells x v rest → status ≡ 0 → taken ≡ length x - length rest → IsTaken f x status taken
takes f {x} {rest} {v} {status} {taken} b zero is =
    let whole : length x ≡ length b.front + length rest = ap length b.whole ∙ length-append b.front rest in
    let count : taken ≡ length b.front = omega (arith, is, whole) in
    let front : take taken x ≡ b.front = ap (λ (k : ℕ). take k x) count ∙ ap (λ (u : List ℕ). take (length b.front) u) b.whole ∙ take-append_seam b.front rest in
    record {
      accepted = λ _. record {
        within = omega (arith, whole, count);
        spelled = (v, subst (λ (u : List ℕ). f.spells Reading u v) (sym front) b.spelled);
      };
      refused = λ not. absurd (not zero);
    }
