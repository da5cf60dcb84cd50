-- Names and paths; the definitions of a text without parts in their place; the notes of a name.
use Rattle.std.specs.Prelude.{ℕ, List, [], ◌∷◌, ◌++◌, Bool, true, false, Option, Some, None, ◌==◌, ◌&&◌, ◌||◌, ◌+◌, nat_le, reverse, codes, bytes_eq, map}
use Rattle.tls_presentation.specs.Definition.{Name, Label, Word, Numeral, One, Field, CaseField, Has, IsA, Value, Named, Select, Item, Plain, Choice, Part, Own, EnumHere, StructHere, Signed, Definition, Enum, Struct, SignedStruct, Alias, Note, CountsRest, FillsRest, FillsZeros, Equals, IsClosed, IsOpen, IsBorrowed}

-- ---- paths: the words between dots

abbrev pub words_after : (word : List ℕ) → Name → List Name
words_after word [] = reverse word ∷ []
words_after word (c ∷ cs) = elim (c == 46) as (λ b. List Name) [ true ↦ reverse word ∷ words_after [] cs | false ↦ words_after (c ∷ word) cs ]

abbrev pub words : Name → List Name
words path = words_after [] path

abbrev pub last_word : List Name → Name
last_word [] = []
last_word (w ∷ []) = w
last_word (w ∷ v ∷ more) = last_word (v ∷ more)

-- the name of a field at the end of a path
abbrev pub last : Name → Name
last path = last_word (words path)

-- a part of a struct, as a path
abbrev pub part_of : (struct part : Name) → Name
part_of struct part = struct ++ 46 ∷ part

-- ---- labels

abbrev pub is_label : Label → Label → Bool
is_label (Word a) (Word b) = bytes_eq a b
is_label (Numeral a) (Numeral b) = a == b
is_label _ _ = false

abbrev pub has_label : Label → List Label → Bool
has_label label [] = false
has_label label (l ∷ ls) = is_label label l || has_label label ls

-- ---- fields

-- `T name`
abbrev pub plain_field : (of name : Name) → Field
plain_field of name = record { is_optional = false; of = of; name = name; vector = One; constant = None }

-- a type alone in a case is a field that has its type's name
abbrev pub field_in : CaseField → Field
field_in (Has f) = f
field_in (IsA of) = plain_field of of

abbrev pub field_named : Name → List Item → Option Field
field_named name [] = None
field_named name (Choice s ∷ items) = field_named name items
field_named name (Plain f ∷ items) = elim (bytes_eq name f.name) as (λ b. Option Field) [ true ↦ Some f | false ↦ field_named name items ]

-- a select is on the field that the path ends in, or on the one of this type
abbrev pub is_on : Field → Select → Bool
is_on f s = bytes_eq (last s.path) f.name || bytes_eq (last s.path) f.of

-- ---- definitions: parts in their place come before their struct, as `Outer.kind`, and what is
-- ---- signed as `OuterTBS`

abbrev own_item : (struct : Name) → Part → Item
own_item struct (Own item) = item
own_item struct (EnumHere values name) = Plain (plain_field (part_of struct name) name)
own_item struct (StructHere items name) = Plain (plain_field (part_of struct name) name)
own_item struct (Signed items None) = Plain (plain_field (codes "DigitallySigned") (codes "signature"))
own_item struct (Signed items (Some name)) = Plain (plain_field (codes "DigitallySigned") name)

abbrev inner : (struct : Name) → List Part → List Definition
inner struct [] = []
inner struct (Own item ∷ parts) = inner struct parts
inner struct (EnumHere values name ∷ parts) = Enum false values (part_of struct name) ∷ inner struct parts
inner struct (StructHere items name ∷ parts) = Struct false (map Own items) (part_of struct name) ∷ inner struct parts
inner struct (Signed items name ∷ parts) = Struct false (map Own items) (struct ++ codes "TBS") ∷ inner struct parts

abbrev pub spread : List Definition → List Definition
spread [] = []
spread (Enum is_open values name ∷ ds) = Enum is_open values name ∷ spread ds
spread (Struct is_borrowed parts name ∷ ds) = inner name parts ++ Struct is_borrowed (map (λ p. Own (own_item name p)) parts) name ∷ spread ds
spread (SignedStruct items name ∷ ds) = Struct false (map Own items) name ∷ spread ds
spread (Alias f ∷ ds) = Alias f ∷ spread ds

abbrev pub name_of : Definition → Name
name_of (Enum is_open values name) = name
name_of (Struct is_borrowed parts name) = name
name_of (SignedStruct items name) = name
name_of (Alias f) = f.name

abbrev pub items_of : Definition → List Item
items_of (Struct is_borrowed parts name) = map (own_item name) parts
items_of (SignedStruct items name) = items
items_of _ = []

-- ---- `certificate_type` is `CertificateType` too

abbrev small : Name → Name
small [] = []
small (c ∷ cs) = elim (c == 95) as (λ b. Name) [ true ↦ small cs | false ↦ elim (nat_le 65 c && nat_le c 90) as (λ b. Name) [ true ↦ (c + 32) ∷ small cs | false ↦ c ∷ small cs ] ]

abbrev pub name_alike : Name → List Definition → Option Name
name_alike name [] = None
name_alike name (d ∷ ds) = elim (bytes_eq (small name) (small (name_of d))) as (λ b. Option Name) [ true ↦ Some (name_of d) | false ↦ name_alike name ds ]

-- ---- Which type a tag has: of the field of the struct, or else of the field of the struct at the head of the path; or, if the path is
-- ---- one name, the type that is named so

-- what is looked up in a text: what is in a struct, and a name that is written in small letters
pub record Lookup : Type 0 where
  pub items : Name → List Item
  pub named : Name → Name

abbrev field_type : Option Field → Name → Name
field_type None default = default
field_type (Some f) default = f.of

abbrev type_at : Lookup → List Item → List Name → Name
type_at text items [] = []
type_at text items (w ∷ []) = field_type (field_named w items) w
type_at text items (w ∷ v ∷ more) = type_at text (text.items (field_type (field_named w items) w)) (v ∷ more)

-- Which field is meant: of a struct, or any of a type. A path of more names ends in a struct's field.
pub data Key : Type 0 where
  InStruct : (struct field : Name) → Key
  OfType : Name → Key

abbrev key_at : Lookup → (struct : Name) → List Name → Key
key_at text struct [] = OfType struct
key_at text struct (w ∷ []) = InStruct struct w
key_at text struct (w ∷ v ∷ more) = key_at text (field_type (field_named w (text.items struct)) w) (v ∷ more)

abbrev key_of_words : Lookup → List Name → Key
key_of_words text [] = OfType []
key_of_words text (w ∷ []) = OfType (text.named w)
key_of_words text (w ∷ v ∷ more) = key_at text w (v ∷ more)

abbrev pub key_of : Lookup → (path : Name) → Key
key_of text path = key_of_words text (words path)

-- whether a field of a struct is the one that is meant
abbrev pub is_key : Key → (struct : Name) → Field → Bool
is_key (InStruct s name) struct f = bytes_eq s struct && bytes_eq name f.name
is_key (OfType of) struct f = bytes_eq of f.of

abbrev pub tag_type : Lookup → List Item → (path : Name) → Name
tag_type text own path = elim (field_named (last path) own) as (λ f. Name) [ Some f ↦ f.of | None ↦ text.named (type_at text [] (words path)) ]

abbrev tags_of : Lookup → (own items : List Item) → List Name
tags_of text own [] = []
tags_of text own (Plain f ∷ items) = tags_of text own items
tags_of text own (Choice s ∷ items) = tag_type text own s.path ∷ tags_of text own items

-- the types that selects of a text are on
abbrev pub tags_in : Lookup → List Definition → List Name
tags_in text [] = []
tags_in text (d ∷ ds) = tags_of text (items_of d) (items_of d) ++ tags_in text ds

abbrev pub is_one : Name → List Name → Bool
is_one name [] = false
is_one name (n ∷ ns) = bytes_eq name n || is_one name ns

-- ---- notes

abbrev pub counts : List Note → Name → Bool
counts [] path = false
counts (CountsRest p ∷ notes) path = bytes_eq p path || counts notes path
counts (_ ∷ notes) path = counts notes path

-- whether the field goes to the end of what is read
abbrev pub fills : List Note → Name → Bool
fills [] path = false
fills (FillsRest p ∷ notes) path = bytes_eq p path || fills notes path
fills (FillsZeros p ∷ notes) path = bytes_eq p path || fills notes path
fills (_ ∷ notes) path = fills notes path

abbrev pub noted_closed : List Note → Name → Bool
noted_closed [] name = false
noted_closed (IsClosed n ∷ notes) name = bytes_eq n name || noted_closed notes name
noted_closed (_ ∷ notes) name = noted_closed notes name

abbrev pub noted_open : List Note → Name → Bool
noted_open [] name = false
noted_open (IsOpen n ∷ notes) name = bytes_eq n name || noted_open notes name
noted_open (_ ∷ notes) name = noted_open notes name

abbrev pub noted_borrowed : List Note → Name → Bool
noted_borrowed [] name = false
noted_borrowed (IsBorrowed n ∷ notes) name = bytes_eq n name || noted_borrowed notes name
noted_borrowed (_ ∷ notes) name = noted_borrowed notes name

abbrev pub equals : List Note → Name → Option Label
equals [] path = None
equals (Equals p label ∷ notes) path = elim (bytes_eq p path) as (λ b. Option Label) [ true ↦ Some label | false ↦ equals notes path ]
equals (_ ∷ notes) path = equals notes path

-- a name for a number of a registry, `CredentialType.basic = 1`
abbrev named_value : Name → List Name → Label → List Value → List Value
named_value name (of ∷ label ∷ []) (Numeral n) others = elim (bytes_eq of name) as (λ b. List Value) [ true ↦ Named (Word label) n ∷ others | false ↦ others ]
named_value name _ _ others = others

abbrev pub values_noted : List Note → Name → List Value
values_noted [] name = []
values_noted (Equals path label ∷ notes) name = named_value name (words path) label (values_noted notes name)
values_noted (_ ∷ notes) name = values_noted notes name
