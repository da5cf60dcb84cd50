-- What is validated, from what is split off, and back.
use Rattle.std.proofs.Common.{◌≡◌, ◌≢◌, List, ℕ, Bool, true, false, inl, inr, length, refl, sym, arith, ◌<◌}
use Rattle.std.specs.Prelude.{◌==◌}
use Rattle.std.proofs.lemmas.Bool.{eqb-false}
use Rattle.tls_codec_wire.specs.declared.error.Error.{Error}
use Rattle.tls_codec_wire.specs.declared.error.Error.TheVariants.{OutOfMemory, TrailingData}
use Rattle.tls_codec_grammar.specs.Tree.{Tree}
use Rattle.tls_codec_grammar.specs.Grammar.{Grammar}
use Rattle.tls_codec_grammar.specs.Decoding.{Begins, Refuses, RefusesWhole}
use Rattle.tls_codec_grammar.specs.Lawful.{IsLawful}
use Rattle.tls_codec_base.proofs.Whole.{refuses_trailing, refuses_whole}
use Rattle.tls_codec_validate.specs.Validated.{BeginsLeaving, Rejects, RejectsWhole}

-- what is refused, and not for want of memory, is rejected
pub rejects_unless : {spells : Grammar} {lean : Bool} {x : List ℕ} {e : Error} → e ≢ OutOfMemory → Refuses spells lean x e → Rejects spells x e
rejects_unless {spells} {lean} {x} {e} not r = record {
  none = elim r.cause [
    | inl none ↦ none
    | inr out ↦ absurd (not out)
  ];
  not_memory = not;
}

-- what is refused of a lean type is rejected
pub rejects : {spells : Grammar} {x : List ℕ} {e : Error} → Refuses spells true x e → Rejects spells x e
rejects r = rejects_unless (λ out. let lost : true ≡ false = r.memory out in absurd cc) r

-- what is rejected is refused, whatever the type is
pub refuses : {spells : Grammar} {lean : Bool} {x : List ℕ} {e : Error} → Rejects spells x e → Refuses spells lean x e
refuses r = record { cause = inl r.none; memory = λ out. absurd (r.not_memory out) }

-- a value begins the bytes
pub leaves : {spells : Grammar} {x : List ℕ} {v : Tree} {rest : List ℕ} → Begins spells x v rest → BeginsLeaving spells x rest
leaves {v = v} p = record { value = v; begins = p }

-- ---- all of the bytes

-- what is rejected as the front of the bytes is rejected as the whole of them
pub rejects_whole : {spells : Grammar} {x : List ℕ} {e : Error} → Rejects spells x e → RejectsWhole spells x e
rejects_whole {spells} {x} {e} r =
    let whole = refuses_whole spells true x e (refuses r) in record {
      none = elim whole.cause [
        | inl none ↦ none
        | inr out ↦ absurd (r.not_memory out)
      ];
      not_memory = r.not_memory;
      trailing = λ more. absurd (r.none more.value more.rest more.begins);
    }

pub some_left : (rest : List ℕ) → false ≡ (length rest == 0) → 0 < length rest
some_left rest some = omega (arith, eqb-false (length rest) 0 (sym some))

-- a byte is left
pub trailing_rejects : {spells : Grammar} {f : Tree → ℕ} {x : List ℕ} {v : Tree} {rest : List ℕ} → IsLawful spells f → Begins spells x v rest → false ≡ (length rest == 0) → RejectsWhole spells x TrailingData
trailing_rejects {spells} {f} {x} {v} {rest} l b some =
    let whole = refuses_trailing spells f l true x v rest b some in record {
      none = elim whole.cause [
        | inl none ↦ none
        | inr out ↦ absurd cc
      ];
      not_memory = λ out. absurd cc;
      trailing = λ more. refl;
    }

-- what is rejected as a whole is refused, whatever the type is
pub refuses_all : {spells : Grammar} {lean : Bool} {x : List ℕ} {e : Error} → RejectsWhole spells x e → RefusesWhole spells lean x e
refuses_all r = record { cause = inl r.none; memory = λ out. absurd (r.not_memory out); trailing = λ more. inl (r.trailing more) }
