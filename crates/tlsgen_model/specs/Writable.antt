-- What can be written: few enough fields in a row, names that differ, types that are kept, numbers that fit and differ.
use Rattle.std.specs.Prelude.{ℕ, List, ◌≤◌, ◌<◌, ◌^◌, IsTrue, length, map, nat_eq}
use Rattle.std.specs.List.{All, IsDistinct}
use Rattle.std.specs.String.{string_eq}
use Rattle.std.specs.Coded.{Π_prop}
use Rattle.std.proofs.Props.{props}
use Rattle.tlsgen_model.specs.Types.{IsType}
use Rattle.tlsgen_model.specs.Width.{is_length, is_tag_width}
use Rattle.tlsgen_model.specs.declared.plan.Body.{Body}
use Rattle.tlsgen_model.specs.declared.plan.Body.TheVariants.{Values, Fields, Choice, Sum}
use Rattle.tlsgen_model.specs.declared.plan.Member.{Member}
use Rattle.tlsgen_model.specs.declared.plan.Message.{Message}
use Rattle.tlsgen_model.specs.declared.plan.Value.{Value}
use Rattle.tlsgen_model.specs.declared.plan.Variant.{Variant}

-- each field has a name that no other has
abbrev pub HaveNames : List Member → Type 0
HaveNames fields = IsDistinct string_eq (map (λ field. field.name) fields)

-- each field has a type that it may have
abbrev pub HaveTypes : List Member → Type 0
HaveTypes fields = All (λ field. IsType field.of) fields

-- each value of an enum has a number that no other has
abbrev pub HaveNumbers : List Value → Type 0
HaveNumbers values = IsDistinct nat_eq (map (λ value. value.number) values)

-- each value of an enum has a name that no other has
abbrev pub HaveValueNames : List Value → Type 0
HaveValueNames values = IsDistinct string_eq (map (λ value. value.name) values)

-- each case has a name that no other has
abbrev pub HaveVariantNames : List Variant → Type 0
HaveVariantNames variants = IsDistinct string_eq (map (λ variant. variant.name) variants)

-- each case has a number that no other has
abbrev pub HaveTags : List Variant → Type 0
HaveTags variants = IsDistinct nat_eq (map (λ variant. variant.tag) variants)

-- a number of `width` bytes, and at most 18 fields
abbrev pub IsCase : ℕ → Variant → Type 0
IsCase width variant =
    (variant.tag < 256 ^ width) × (length variant.fields.items ≤ 18) × HaveNames variant.fields.items ×
    HaveTypes variant.fields.items

abbrev pub IsWritable : Body → Type 0
IsWritable (Values width _ values) =
    IsTrue (is_tag_width width) × HaveValueNames values.items × HaveNumbers values.items ×
    All (λ value. value.number < 256 ^ width) values.items
IsWritable (Fields fields) = (length fields.items ≤ 27) × HaveNames fields.items × HaveTypes fields.items
IsWritable (Choice width variants) =
    IsTrue (is_tag_width width) × HaveVariantNames variants.items × HaveTags variants.items ×
    All (IsCase width) variants.items
IsWritable (Sum width length variants) =
    IsTrue (is_tag_width width) × IsTrue (is_length length) × HaveVariantNames variants.items ×
    HaveTags variants.items × All (IsCase width) variants.items

-- each message has a module that no other has
abbrev pub HaveModules : List Message → Type 0
HaveModules messages = IsDistinct string_eq (map (λ message. message.module) messages)

abbrev pub AreWritable : List Message → Type 0
AreWritable messages = All (λ message. IsWritable message.body) messages

IsWritable-prop : (body : Body) → IsProp (IsWritable body)
IsWritable-prop (Values width is_open values) = Prim.hlevel props
IsWritable-prop (Fields fields) = Prim.hlevel props
IsWritable-prop (Choice width variants) = Prim.hlevel props
IsWritable-prop (Sum width length variants) = Prim.hlevel props

-- there is one proof of it at most
pub AreWritable-prop : (messages : List Message) → IsProp (AreWritable messages)
AreWritable-prop messages = Π_prop (λ k. Π_prop (λ d. Π_prop (λ _. IsWritable-prop _)))
