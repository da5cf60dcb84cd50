-- Messages of which a set has the modules.
use Rattle.std.proofs.Common.{◌≡◌, List, [], ◌∷◌, ◌++◌, Bool, true, false, refl, sym, ◌∙◌, ap, subst, cond}
use Rattle.std.specs.BTreeSet.{BTreeSet, Updates, contains, contains_text}
use Rattle.std.specs.List.{list_any}
use Rattle.std.specs.String.{string_cmp, string_eq}
use Rattle.std.specs.Cmp.Lexicographic.{same_text}
use Rattle.std.specs.declared.alloc.Global.{Global}
use Rattle.std.specs.declared.string.String.{String}
use Rattle.std.proofs.lemmas.Bool.{cases_Bool, or_from, true≢false}
use Rattle.std.proofs.lemmas.List.Folds.{list_any-append}
use Rattle.tlsgen_model.specs.Taking.{Covers}
use Rattle.tlsgen_model.specs.declared.plan.Message.{Message}
use mathlib.Core.Logic.{⊎_elim}

-- another name than one that is in a set, of two of which one is there
apart : (modules : BTreeSet (String Global)) (name own : String Global) → contains string_cmp modules name ≡ false → contains string_cmp modules own ≡ true → string_eq name own ≡ false
apart modules name own none there =
    ⊎_elim
    (λ same. absurd (true≢false (sym there ∙ sym (ap (contains_text modules) (same_text name.bytes.items own.bytes.items (sym same))) ∙ none)))
    (λ other. other)
    (cases_Bool (string_eq name own))

otherwise : (test rest : Bool) → cond test true rest ≡ false → rest ≡ false
otherwise true rest e = absurd (true≢false e)
otherwise false rest e = e

pub covers_none : (modules : BTreeSet (String Global)) → Covers modules []
covers_none modules name none = refl

-- one more message, whose module is there
covers_push : (modules : BTreeSet (String Global)) (messages : List Message) (x : Message) → Covers modules messages → contains string_cmp modules x.module ≡ true → Covers modules (messages ++ x ∷ [])
covers_push modules messages x covers there name none =
    list_any-append (λ other. string_eq name other.module) messages (x ∷ [])
    ∙ or_from _ _ (covers name none) (or_from _ _ (apart modules name x.module none there) refl)

-- the same, or none
covers_if : (modules : BTreeSet (String Global)) (messages : List Message) (x : Message) (is_added : Bool) → Covers modules messages → contains string_cmp modules x.module ≡ true → Covers modules (cond is_added (messages ++ x ∷ []) messages)
covers_if modules messages x true covers there = covers_push modules messages x covers there
covers_if modules messages x false covers there = covers

-- a copy of a module, and then the message, if there is memory for it
pub covers_more : (old new : BTreeSet (String Global)) (own : String Global) (messages after : List Message) (x : Message) (is_added : Bool) → Covers old messages → Updates string_cmp old new own true → own.bytes.items ≡ x.module.bytes.items → after ≡ cond is_added (messages ++ x ∷ []) messages → Covers new after
covers_more old new own messages after x is_added covers updates same is =
    let P : List Message → Type 0 = Covers new in
    let all : Covers new messages = λ name none. covers name (otherwise _ _ (sym (updates.0 name) ∙ none)) in
    subst P (sym is) (covers_if new messages x is_added all (sym (ap (contains_text new) same) ∙ updates.1))
