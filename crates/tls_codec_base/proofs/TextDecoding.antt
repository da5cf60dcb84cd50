-- Texts, which are bytes that are UTF-8, read from a slice and from a source.
use Rattle.std.proofs.Common.{ℕ, List, Bool, false, ◌++◌, IsUtf8, inl, inr, refl, sym, subst, ◌∙◌}
use Rattle.std.specs.Prelude.{codes}
use Rattle.tls_codec_wire.specs.Counts.{Counts}
use Rattle.tls_codec_wire.specs.Device.{GivesNothing}
use Rattle.tls_codec_wire.specs.declared.device.Source.{Ghosts}
use Rattle.tls_codec_wire.specs.declared.error.Error.{Error}
use Rattle.tls_codec_grammar.specs.Tree.{number_trees}
use Rattle.tls_codec_grammar.specs.Grammar.{Reading, bytes, text}
use Rattle.tls_codec_grammar.specs.Decoding.{Begins, GaveSpelling, Named, NoneBegins, Refuses, RefusesSeen}
use Rattle.tls_codec_grammar.specs.Errors.{Says}
use Rattle.tls_codec_grammar.specs.Format.{text_format}
use Rattle.tls_codec_wire.proofs.Seen.{refused_now}
use Rattle.tls_codec_grammar.specs.laws.NumberLaws.{number_trees_one}
use Rattle.tls_codec_grammar.specs.Opaque.{IsNoText, TextSourceRefused}
use Rattle.tls_codec_grammar.specs.laws.ListLaws.{bytes_lawful}
use Rattle.tls_codec_grammar.proofs.ByteContents.{content_bytes}
use Rattle.tls_codec_base.proofs.TextForms.{text_from_bytes, text_to_bytes}

-- ---- from a slice

pub text_begin : {x c rest : List ℕ} → IsUtf8 c → Begins bytes x (number_trees c) rest → Begins text x (number_trees c) rest
text_begin {x} {c} {rest} valid p = record { front = p.front; whole = p.whole; spelled = text_from_bytes Reading c p.front valid p.spelled }

-- if no bytes begin after their length, no text does
no_text_begins : (x : List ℕ) → NoneBegins bytes x → NoneBegins text x
no_text_begins x none v rest b = none v rest (record { front = b.front; whole = b.whole; spelled = text_to_bytes Reading v b.front b.spelled })

pub text_refuses : {lean : Bool} {x : List ℕ} {e : Error} → Refuses bytes lean x e → Refuses text false x e
text_refuses {lean} {x} {e} r = record {
  cause = elim r.cause [
    | inl none ↦ inl (no_text_begins x none)
    | inr out ↦ inr out
  ];
  memory = λ h. refl;
}

-- nor if they are not UTF-8
invalid_begins_none : (x : List ℕ) → IsNoText x → NoneBegins text x
invalid_begins_none x p v rest b =
    let found = text_to_bytes Reading v b.front b.spelled in
    let same = bytes_lawful.one p.begins.front b.front p.rest rest (number_trees p.content) v p.begins.spelled found (sym p.begins.whole ∙ b.whole) in
    let inside = number_trees_one p.content b.spelled.inside (same.1 ∙ content_bytes Reading b.spelled.inside v b.spelled.is_inside.0) in
    p.invalid (subst IsUtf8 (sym inside) b.spelled.is_inside.1)

pub invalid_refuses : {x : List ℕ} {e : Error} → IsNoText x → Refuses text false x e
invalid_refuses {x} {e} p = record { cause = inl (invalid_begins_none x p); memory = λ h. refl }

-- ---- from a source

pub text_given : {S : Type 0} {given : S → List ℕ → S → Type 0} {a b : S} {c : List ℕ} → IsUtf8 c → GaveSpelling given bytes a b (number_trees c) → GaveSpelling given text a b (number_trees c)
text_given {S} {given} {a} {b} {c} valid p = record { front = p.front; held = p.held; spelled = text_from_bytes Reading c p.front valid p.spelled }

pub text_source_refuses : {old new : Counts} {e : Error} (x : List ℕ) → RefusesSeen bytes false x old new e → RefusesSeen text false x old new e
text_source_refuses {old} {new} {e} x r = record {
  cause = elim r.cause [
    | inl none ↦ inl (no_text_begins x none)
    | inr other ↦ inr other
  ];
  memory = r.memory;
}

-- bytes that are not UTF-8 were given
pub invalid_named : {S : Type 0} {source : Ghosts S} {a b : S} {c : List ℕ} {e : Error} → GivesNothing source.given → GaveSpelling source.given bytes a b (number_trees c) → (IsUtf8 c → ⊥) → Says (codes "invalid utf8") e → Named text_format TextSourceRefused source a b e
invalid_named {c = c} nothing p invalid says =
    record {
      refused = refused_now p.front nothing p.held (λ rest.
          let no_text : IsNoText (p.front ++ rest) = record { content = c; rest = rest; begins = record { front = p.front; whole = refl; spelled = p.spelled }; invalid = invalid } in
          (record { cause = inl (invalid_begins_none (p.front ++ rest) no_text); memory = λ h. inl refl }, inr (says, no_text)));
    }
