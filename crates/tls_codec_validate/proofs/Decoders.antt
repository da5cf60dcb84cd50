-- What both decoders return of bytes that are validated.
use Rattle.std.proofs.Common.{◌≡◌, ◌↔◌, ◌-◌, ℕ, List, length, Option, None, Some, Result, Ok, Err, refl, ap, subst, ◌∙◌, arith, length-append}
use Rattle.std.specs.Prelude.{IsOk}
use Rattle.std.specs.Borrow.{Bor}
use Rattle.std.specs.Io.KnownBytes.{Consumes}
use Rattle.tls_codec_wire.specs.Device.{GivesFromFront}
use Rattle.tls_codec_wire.specs.declared.device.Source.{Ghosts}
use Rattle.tls_codec_grammar.specs.Tree.{Tree}
use Rattle.tls_codec_grammar.specs.Grammar.{Grammar}
use Rattle.tls_codec_grammar.specs.Format.{Format}
use Rattle.tls_codec_grammar.specs.Announced.{capped}
use Rattle.tls_codec_grammar.specs.Lawful.{IsLawful}
use Rattle.tls_codec_grammar.specs.Decoding.{Begins, BeginsSome, GaveSpelling}
use Rattle.tls_codec_base.proofs.BothPaths.{one_front}
use Rattle.tls_codec_validate.specs.declared.rejected.Rejected.{Rejected}
use Rattle.tls_codec_validate.specs.Validated.{BeginsLeaving, Validates}

-- bytes are accepted exactly if an encoding begins them
pub accepted : (f : Format) {x : List ℕ} (result : Result (Bor (List ℕ)) Rejected) → Validates f x result → (IsOk result ↔ BeginsSome f.spells x)
accepted f (Ok rest) p = (λ h. record { value = p.value; rest = rest.now; begins = p.begins }, λ b. refl)
accepted f (Err r) p = (λ h. absurd cc, λ b. absurd (p.none b.value b.rest b.begins))

module _ {spells : Grammar} {announced : Tree → ℕ} (l : IsLawful spells announced) {x : List ℕ} {v : Tree} {rest left : List ℕ} where
  -- one rest is left
  pub one_rest : BeginsLeaving spells x rest → Begins spells x v left → left ≡ rest
  one_rest p b = (one_front spells x announced l p.value v rest left p.begins b).1

  -- as many bytes are taken as the value announces
  pub one_length : BeginsLeaving spells x rest → Begins spells x v left → announced v ≡ capped (length x - length rest)
  one_length p b =
      let taken : length b.front ≡ length x - length rest = omega (arith, ap length b.whole, length-append b.front left, ap length (one_rest p b)) in
      l.announces b.front v (l.written b.front v b.spelled) ∙ ap capped taken

-- what a source gave that told its bytes was their front
pub was_front : {S : Type 0} (source : Ghosts S) {spells : Grammar} {x : List ℕ} {old new : S} {v : Tree} → GivesFromFront source.given source.coming → source.coming old ≡ Some x
    → GaveSpelling source.given spells old new v → (rest : List ℕ) × (source.coming new ≡ Some rest) × Begins spells x v rest
was_front {S} source {spells} {x} {old} {new} {v} from_front told p =
    let took = subst (λ (u : Option (List ℕ)). Consumes u (source.coming new) p.front) told (from_front old p.front new p.held) in
    told_front (source.coming new) took
  where
    told_front : (now : Option (List ℕ)) → Consumes (Some x) now p.front → (rest : List ℕ) × (now ≡ Some rest) × Begins spells x v rest
    told_front (Some rest) front = (rest, refl, record { front = p.front; whole = front; spelled = p.spelled })
    told_front None front = absurd front
