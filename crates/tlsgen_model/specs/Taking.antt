-- When an element is appended to a list, and why it isn't.
use Rattle.std.specs.Prelude.{◌≡◌, ℕ, List, [], ◌∷◌, ◌++◌, ◌<◌, ◌≤◌, ◌^◌, ◌&&◌, Bool, true, false, not, Option, Some, None, IsTrue, length, nat_eq}
use Rattle.std.specs.List.{list_any}
use Rattle.std.specs.BTreeSet.{BTreeSet, contains}
use Rattle.std.specs.Coded.{Π_prop}
use Rattle.std.specs.String.{string_cmp, string_eq}
use Rattle.std.proofs.Props.{props}
use Rattle.std.specs.declared.alloc.Global.{Global}
use Rattle.std.specs.declared.string.String.{String}
use Rattle.tlsgen_model.specs.declared.lists.Unfit.{Unfit}
use Rattle.tlsgen_model.specs.declared.lists.Unfit.TheVariants.{TooGreat, SameNumber, SameName, ManyFields}
use Rattle.tlsgen_model.specs.declared.plan.Member.{Member}
use Rattle.tlsgen_model.specs.declared.plan.Message.{Message}
use Rattle.tlsgen_model.specs.declared.plan.Value.{Value}
use Rattle.tlsgen_model.specs.declared.plan.Variant.{Variant}

-- given back, and the list unchanged, if the list has it already; otherwise appended
abbrev pub AppendsUnless : {X : Type 0} → (is_there : Bool) → (old new : List X) → X → Option X → Type 0
AppendsUnless true old new x left = (left ≡ Some x) × (new ≡ old)
AppendsUnless false old new x left = (left ≡ None) × (new ≡ old ++ x ∷ [])

-- one of these fields has this name
abbrev pub has_member_named : (name : String Global) → List Member → Bool
has_member_named name members = list_any (λ member. string_eq name member.name) members

-- one of these values has this name
abbrev pub has_value_named : (name : String Global) → List Value → Bool
has_value_named name values = list_any (λ value. string_eq name value.name) values

-- one of these values has this number
abbrev pub has_value_numbered : (number : ℕ) → List Value → Bool
has_value_numbered number values = list_any (λ value. nat_eq number value.number) values

-- one of these cases has this name
abbrev pub has_variant_named : (name : String Global) → List Variant → Bool
has_variant_named name variants = list_any (λ variant. string_eq name variant.name) variants

-- one of these cases has this tag
abbrev pub has_variant_tagged : (tag : ℕ) → List Variant → Bool
has_variant_tagged tag variants = list_any (λ variant. nat_eq tag variant.tag) variants

-- one of these messages has this module
abbrev pub has_message_in : (name : String Global) → List Message → Bool
has_message_in name messages = list_any (λ message. string_eq name message.module) messages

-- a module that isn't in a set is that of no message
abbrev pub Covers : BTreeSet (String Global) → List Message → Type 0
Covers modules messages = (name : String Global) → contains string_cmp modules name ≡ false → has_message_in name messages ≡ false

-- there is one proof of it at most
pub Covers-prop : (modules : BTreeSet (String Global)) (messages : List Message) → IsProp (Covers modules messages)
Covers-prop modules messages = Π_prop (λ name. Π_prop (λ _. Prim.hlevel props))

-- it is of this crate, and has none of these names
abbrev pub stays : (home : ℕ) → (names : BTreeSet (String Global)) → Message → Bool
stays home names message = nat_eq message.home home && not (contains string_cmp names message.name)

-- appended, or refused for a reason that holds, and the list is unchanged
abbrev pub Takes : {X : Type 0} → (Refuses : Unfit → Type 0) → (old new : List X) → X → Option Unfit → Type 0
Takes Refuses old new x None = new ≡ old ++ x ∷ []
Takes Refuses old new x (Some why) = Refuses why × (new ≡ old)

-- why a value can't be added to these, whose numbers have `width` bytes
abbrev pub RefusesValue : (width : ℕ) → List Value → Value → Unfit → Type 0
RefusesValue width values value TooGreat = value.number < 256 ^ width → ⊥
RefusesValue width values value SameNumber = IsTrue (has_value_numbered value.number values)
RefusesValue width values value SameName = IsTrue (has_value_named value.name values)
RefusesValue width values value ManyFields = ⊥

-- a value is appended, or refused
abbrev pub TakesValue : (width : ℕ) → (old new : List Value) → Value → Option Unfit → Type 0
TakesValue width old new value left = Takes (RefusesValue width old value) old new value left

-- why a case can't be added to these, whose tags have `width` bytes
abbrev pub RefusesCase : (width : ℕ) → List Variant → Variant → Unfit → Type 0
RefusesCase width variants variant TooGreat = variant.tag < 256 ^ width → ⊥
RefusesCase width variants variant SameNumber = IsTrue (has_variant_tagged variant.tag variants)
RefusesCase width variants variant SameName = IsTrue (has_variant_named variant.name variants)
RefusesCase width variants variant ManyFields = length variant.fields.items ≤ 18 → ⊥

-- a case is appended, or refused
abbrev pub TakesCase : (width : ℕ) → (old new : List Variant) → Variant → Option Unfit → Type 0
TakesCase width old new variant left = Takes (RefusesCase width old variant) old new variant left
