-- The cases of a select, against the values of its tag's enum.
use Rattle.std.specs.Prelude.{◌≡◌, ◌≢◌, ◌++◌, ℕ, List, Option, Some, None, IsNone, MatchOption, codes, map, string_bytes}
use Rattle.std.specs.Option.{option_copied}
use Rattle.std.specs.List.{AllZip, Any}
use Rattle.tlsgen_model.specs.declared.lists.ValueList.{ValueList}
use Rattle.tlsgen_syntax.specs.declared.syntax.Case.{Case}
use Rattle.tlsgen_syntax.specs.declared.syntax.Enum.{Enum}
use Rattle.tlsgen_syntax.specs.declared.syntax.Field.{Field}
use Rattle.tlsgen_syntax.specs.declared.syntax.Label.{Label}
use Rattle.tlsgen_syntax.specs.declared.syntax.Label.TheVariants as labels
use Rattle.tlsgen_syntax.specs.declared.syntax.Name.{Name}
use Rattle.tlsgen_syntax.specs.declared.syntax.Value.{Value}
use Rattle.tlsgen_resolve.specs.declared.cases.Labelled.{Labelled}
use Rattle.tlsgen_resolve.specs.declared.cases.Tag.{Tag}

-- a name, and not the word `reserved`
abbrev pub IsFree : Option Name → Type 0
IsFree None = ⊥
IsFree (Some name) = (string_bytes name.text ≢ codes "reserved") × (string_bytes name.text ≢ codes "RESERVED")

-- one number with a name
abbrev pub IsNamed : Value → Type 0
IsNamed value = IsNone value.last × IsFree value.name

abbrev pub IsCalled : Option Name → (text : List ℕ) → Type 0
IsCalled None text = ⊥
IsCalled (Some name) text = string_bytes name.text ≡ text

-- a value of the enum has this name and this number
abbrev pub HasValue : Enum → (text : List ℕ) → (number : ℕ) → Type 0
HasValue one text number =
    Any (λ value. IsNone value.last × IsCalled value.name text × (value.number.value ≡ number)) one.values.items

-- a number stands for itself, a name for that of the enum's value
abbrev pub IsNumberOf : Tag → Label → ℕ → Type 0
IsNumberOf tag (labels.Number n) number = number ≡ n.value
IsNumberOf tag (labels.Name name) number =
    MatchOption (option_copied tag.of) ⊥ (λ one. HasValue one (string_bytes name.text) number)

-- the label's number, and all of these fields
abbrev pub IsLabelled : Tag → List Field → Label → Labelled → Type 0
IsLabelled tag fields label one = (one.fields.now ≡ fields) × IsNumberOf tag label one.number

-- one more for each label of a case, in their order
abbrev pub AppendsLabelled : Tag → Case → (old new : List Labelled) → Type 0
AppendsLabelled tag case old new =
    (more : List Labelled) × (new ≡ old ++ more) × AllZip (IsLabelled tag case.fields.items) case.labels.items more

-- the numbers of values, in their order
abbrev pub numbers_of : ValueList → List ℕ
numbers_of values = map (λ value. value.number) values.values.items
