use Rattle.std.proofs.Common.{◌≡◌, ◌⊎◌, ℕ, List, Result, Ok, Err, Vec, inl, inr}
use Rattle.std.specs.Prelude.{IsErrAnd}
use Rattle.std.specs.Global.{Global}
use Rattle.tls_codec_wire.specs.declared.error.Error.{Error}
use Rattle.tls_codec_wire.specs.declared.error.Error.TheVariants.{InvalidVectorLength, OutOfMemory}
use Rattle.tls_codec_grammar.specs.Tree.{Tree}
use Rattle.tls_codec_grammar.specs.Grammar.{Writing, content, utf8}
use Rattle.tls_codec_grammar.specs.Field.{Field}
use Rattle.tls_codec_grammar.specs.Format.{Format, counted_list_format, text_format}
use Rattle.tls_codec_grammar.specs.Lawful.{MeetsLaws}
use Rattle.tls_codec_grammar.specs.Encoding.{AppendsForm, Makes}
use Rattle.tls_codec_grammar.specs.laws.FormatLaws.{content_meets, counted_list_meets, text_meets, utf8_meets}
use Rattle.tls_codec_grammar.proofs.Appending.{out_of_bounds_no_form}
use Rattle.tls_codec_base.proofs.OutOfBounds.{content_out_of_bounds, text_out_of_bounds}
use Rattle.tls_codec_base.proofs.error_laws.contents_out_of_bounds_are_refused.Goals as goal

-- a value out of bounds, of which nothing inside the format names a refusal
module _ {f : Format} (l : MeetsLaws f) {v : Tree} (outside : f.out_of_bounds v) (alone : (e : Error) → f.refuses v e → e ≡ InvalidVectorLength) where
  names : {e : Error} {Passes : Type 0} → (e ≡ OutOfMemory) ⊎ (f.refuses v e ⊎ ((e ≡ InvalidVectorLength) × Passes)) → (e ≡ InvalidVectorLength) ⊎ (e ≡ OutOfMemory)
  names (inl memory) = inr memory
  names (inr (inl refused)) = inl (alone _ refused)
  names (inr (inr passes)) = inl passes.0

  not_appended : (old new : List ℕ) (result : Result ℕ Error) → AppendsForm f v old new result → IsErrAnd result (λ e. (e ≡ InvalidVectorLength) ⊎ (e ≡ OutOfMemory))
  not_appended old new (Ok n) q = out_of_bounds_no_form l outside q.shortest
  not_appended old new (Err e) q = names q.cause

  not_made : (result : Result (Vec ℕ Global) Error) → Makes f v result → IsErrAnd result (λ e. (e ≡ InvalidVectorLength) ⊎ (e ≡ OutOfMemory))
  not_made (Ok bytes) q = out_of_bounds_no_form l outside q
  not_made (Err e) q = names q.cause

-- no element that has a form names one
list_alone : (field : Field) {element : Format} → MeetsLaws element → (form : List ℕ) (v : Tree) → content element.spells Writing form v → (e : Error) → (counted_list_format field element).refuses v e → e ≡ InvalidVectorLength
list_alone field l form v p e (inl refused) = refused.0
list_alone field l form v p e (inr named) = absurd ((content_meets l).unspelled v e named form p)

-- nor do the bytes of a text
text_alone : (form : List ℕ) (v : Tree) → utf8 Writing form v → (e : Error) → text_format.refuses v e → e ≡ InvalidVectorLength
text_alone form v p e (inl refused) = refused.0
text_alone form v p e (inr named) = absurd (utf8_meets.unspelled v e named form p)

pub returns : goal.returns
returns g c =
    let m = g.met.F.LengthField.lawful in
    let l = g.met.T.Size.lawful in
    record {
      appended = λ form v old new result p outside q. not_appended (counted_list_meets m l) (content_out_of_bounds m l form v p.spelled outside) (list_alone g.F.LengthField.field l form v p.spelled) old new result q;
      made = λ form v result p outside q. not_made (counted_list_meets m l) (content_out_of_bounds m l form v p.spelled outside) (list_alone g.F.LengthField.field l form v p.spelled) result q;
      text_appended = λ form v old new result p outside q. not_appended text_meets (text_out_of_bounds form v p.spelled outside) (text_alone form v p.spelled) old new result q;
      text_made = λ form v result p outside q. not_made text_meets (text_out_of_bounds form v p.spelled outside) (text_alone form v p.spelled) result q;
    }
