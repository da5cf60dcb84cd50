use Rattle.std.proofs.Common.{arith, ◌≡◌, ℕ, ◌+◌, List, ◌∷◌, ◌++◌, [], length, refl, ap, ◌∙◌, length-append}
use Rattle.std.specs.Prelude.{get_or}
use Rattle.mls_signed.proofs.Front.{front_is, says_of_same}
use Rattle.mls_signed.proofs.signed_content.framed_content_tbs.Goals as goal

pub returns-clause-says : goal.returns-clause-says
returns-clause-says c =
    let head = c.copy_from_slice.ensures.after ∙ ap (λ (r : List ℕ). 0 ∷ 1 ∷ get_or r 0 0 ∷ get_or r 1 0 ∷ []) c.to_be_bytes.ensures in
    let size : c.saturating_add-size.result ≡ 4 + length (c.args.content.now ++ c.args.context.now) = omega (arith, c.saturating_add.ensures, c.saturating_add-size.ensures, c.if-out-size.false, length-append c.args.content.now c.args.context.now) in
    let is = front_is _ _ _ _ _ _ _ _ _ head c.copy_from_slice-2.ensures.after c.copy_from_slice-3.ensures.after refl size c.split_at.ensures.front in
    says_of_same _ _ is c.validate.ensures.status c.validate.ensures.taken c.validate.ensures.rejected
