-- What is written to a vector as a sink, and why nothing is.
use Rattle.std.proofs.Common.{◌≡◌, ◌<◌, ◌^◌, ◌⊎◌, ℕ, List, ◌++◌, length, length-append, ap, inl, inr, refl, arith}
use Rattle.tls_codec_wire.specs.Counts.{FaultIsCounted, only_shortages}
use Rattle.tls_codec_wire.specs.Transfer.{WriteRefused}
use Rattle.tls_codec_wire.specs.declared.error.Error.{Error}
use Rattle.tls_codec_wire.specs.declared.error.Error.TheVariants.{EncodingError, OutOfMemory}
use Rattle.tls_codec_grammar.specs.Tree.{Tree}
use Rattle.tls_codec_grammar.specs.Format.{Format}
use Rattle.tls_codec_grammar.specs.Shortest.{IsShortest}
use Rattle.tls_codec_grammar.specs.Announced.{capped}
use Rattle.tls_codec_grammar.specs.Encoding.{Appended, AppendRefused}

-- a vector as a sink counts no fault
no_fault : FaultIsCounted only_shortages only_shortages → ⊥
no_fault (inl failed) = omega (arith, failed)
no_fault (inr interrupted) = omega (arith, interrupted)

-- what a vector as a sink received
pub written_appended : {f : Format} {v : Tree} {form a b : List ℕ} {n : ℕ} → IsShortest f.spells form v → b ≡ a ++ form → n ≡ capped (length form) → length b < 2 ^ 63 → Appended f v a b n
written_appended {f} {v} {form} {a} {b} {n} p held count fits = record { form = form; shortest = p; held = held; count = omega (arith, count, fits, ap length held, length-append a form) }

-- a refusal of the vector that is written to
pub write_not_appended : {f : Format} {v : Tree} {a d : List ℕ} (e : Error) → d ≡ a → WriteRefused only_shortages only_shortages e ⊎ f.refuses v e → AppendRefused f v a d e
write_not_appended e kept (inr named) = record { kept = kept; cause = inr (inl named) }
write_not_appended OutOfMemory kept (inl refused) = record { kept = kept; cause = inl refl }
write_not_appended (EncodingError text) kept (inl refused) = absurd (no_fault refused.1)
write_not_appended _ kept (inl refused) = absurd refused
