-- A value that was given, but no memory was there for it.
use Rattle.std.proofs.Common.{◌≡◌, ℕ, List, ◌++◌, false, Result, Ok, Err, inl, inr, refl}
use Rattle.std.specs.Prelude.{IfErr, IfOk}
use Rattle.tls_codec_wire.specs.Device.{GivesNothing}
use Rattle.tls_codec_wire.specs.Seen.{Causes}
use Rattle.tls_codec_wire.specs.declared.device.Source.{Ghosts}
use Rattle.tls_codec_wire.specs.declared.error.Error.{Error}
use Rattle.tls_codec_wire.specs.declared.error.Error.TheVariants.{OutOfMemory}
use Rattle.tls_codec_wire.proofs.Seen.{refused_now}
use Rattle.tls_codec_grammar.specs.Tree.{Tree}
use Rattle.tls_codec_grammar.specs.Format.{Format, with_memory}
use Rattle.tls_codec_grammar.specs.Decoding.{GaveSpelling, Named, Reads}
use Rattle.tls_codec_grammar.proofs.Named.{named_leaves}
use Rattle.tls_codec_base.specs.PartNames.{box_source_names}

pub without_memory : {S : Type 0} {source : Ghosts S} (f : Format) (names : Causes) {a b : S} {v : Tree} {e : Error} → GivesNothing source.given → (p : GaveSpelling source.given f.spells a b v) → f.lean ≡ false → e ≡ OutOfMemory
    → ((rest : List ℕ) → names (p.front ++ rest) (source.counts a) (source.counts b) e) → Named f names source a b e
without_memory f names nothing p not_lean out named = record { refused = refused_now p.front nothing p.held (λ rest. (record { cause = inr (inr out); memory = λ h. inl not_lean }, named rest)) }

module _ {S T U : Type 0} (source : Ghosts S) (f : Format) (inside : U → T) (plain : T → Tree) {a b : S} {v : T} (nothing : GivesNothing source.given) (p : GaveSpelling source.given f.spells a b (plain v)) where
  -- a box holds the value, or there was no memory for it
  pub boxed_reads : (result : Result U Error) → IfOk result (λ u. inside u ≡ v) → IfErr result (λ e. e ≡ OutOfMemory) → Reads (with_memory f) (λ u. plain (inside u)) source a b result
  boxed_reads (Ok u) same out = rw same p
  boxed_reads (Err e) same out = named_leaves (boxed_out e out)
    where
      boxed_out : (e : Error) → e ≡ OutOfMemory → Named (with_memory f) (λ x old new u. u ≡ OutOfMemory) source a b e
      boxed_out e out = without_memory (with_memory f) _ nothing p refl out (λ rest. out)

  pub boxed_named : (names : Causes) (result : Result U Error) → IfErr result (λ e. e ≡ OutOfMemory) → IfErr result (Named (with_memory f) (box_source_names f names) source a b)
  boxed_named names (Ok u) out = tt
  boxed_named names (Err e) out = without_memory (with_memory f) _ nothing p refl out (λ rest. inl (out, record { value = plain v; rest = rest; begins = record { front = p.front; whole = refl; spelled = p.spelled } }))
