-- What is printed of selects, structs and definitions tells what was printed.
use Rattle.std.proofs.Common.{◌≡◌, List, [], ◌∷◌, Bool, true, false, refl, sym, ap, ◌∙◌}
use Rattle.std.specs.Prelude.{Option, Some, None}
use Rattle.tls_presentation.specs.Definition.{Name, Field, Value, Case, Ending, Bare, Ended, Called, Select, Item, Plain, Choice, Part, Own, EnumHere, StructHere, Signed, Definition, Enum, Struct, SignedStruct, Alias}
use Rattle.tls_presentation.specs.Printed.{Sign, Identifier, Key, Mark, EnumWord, StructWord, SignedWord, OpenWord, BorrowedWord, CloseBrace, Semicolon, Print, each, perhaps, print_name, print_vector, print_type, print_field, print_enum, print_case, print_ending, print_select, print_item, print_struct, print_part, print_definition, print}
use Rattle.tls_presentation.proofs.Injective.{Injects, begins, differ, closes_brace, closes_case, rest_of_field, field_injects, enum_injects, case_injects}

-- ---- lists of items that need to know what is behind them

abbrev Follows : Type 0
Follows = List Sign → Bool

abbrev InjectsBefore : {A : Type 0} → Follows → (A → Print) → Type 0
InjectsBefore {A} follows one = (x y : A) (r s : List Sign) → follows r ≡ true → follows s ≡ true → one x r ≡ one y s → (x ≡ y) × (r ≡ s)

each_follows : {A : Type 0} (follows : Follows) (one : A → Print) → ((x : A) (r : List Sign) → follows (one x r) ≡ true) → (xs : List A) (r : List Sign) → follows r ≡ true → follows (each one xs r) ≡ true
each_follows follows one n [] r f = f
each_follows follows one n (x ∷ xs) r f = n x (each one xs r)

each_before : {A : Type 0} (follows : Follows) (one : A → Print) (closes : Sign → Bool) → InjectsBefore follows one → ((x : A) (r : List Sign) → begins closes (one x r) ≡ false) → ((x : A) (r : List Sign) → follows (one x r) ≡ true) → (xs ys : List A) (r s : List Sign) → begins closes r ≡ true → begins closes s ≡ true → follows r ≡ true → follows s ≡ true → each one xs r ≡ each one ys s → (xs ≡ ys) × (r ≡ s)
each_before follows one closes i n m [] [] r s p q f g e = (refl, e)
each_before follows one closes i n m [] (y ∷ ys) r s p q f g e = differ closes e p (n y (each one ys s))
each_before follows one closes i n m (x ∷ xs) [] r s p q f g e = differ closes (sym e) q (n x (each one xs r))
each_before follows one closes i n m (x ∷ xs) (y ∷ ys) r s p q f g e =
    let h = i x y (each one xs r) (each one ys s) (each_follows follows one m xs r f) (each_follows follows one m ys s g) e in
    let k = each_before follows one closes i n m xs ys r s p q f g h.1 in
    (let a : x ≡ y = h.0 in let b : xs ≡ ys = k.0 in cc, k.1)

-- ---- selects

-- what may stand behind a select without a `;`: a `}`, a word of the language, or a type and a name
abbrev ends_select : Follows
ends_select (Mark CloseBrace ∷ r) = true
ends_select (Key word ∷ r) = true
ends_select (Identifier of ∷ Identifier name ∷ r) = true
ends_select _ = false

apart : {A : Type 0} (follows : Follows) {r s : List Sign} → r ≡ s → follows r ≡ true → follows s ≡ false → A
apart follows e f g = let h : true ≡ false = sym f ∙ ap follows e ∙ g in absurd cc

ending_injects : InjectsBefore ends_select print_ending
ending_injects Bare Bare r s f g e = (refl, e)
ending_injects Ended Ended r s f g e = (refl, cc)
ending_injects (Called m) (Called n) r s f g e = (cc, cc)
ending_injects Bare Ended r s f g e = apart ends_select e f refl
ending_injects Bare (Called n) r s f g e = apart ends_select e f refl
ending_injects Ended Bare r s f g e = apart ends_select (sym e) g refl
ending_injects (Called m) Bare r s f g e = apart ends_select (sym e) g refl
ending_injects Ended (Called n) r s f g e = absurd cc
ending_injects (Called m) Ended r s f g e = absurd cc

case_begins : (c : Case) (r : List Sign) → begins closes_brace (print_case c r) ≡ false
case_begins c r = refl

case_goes_on : (c : Case) (r : List Sign) → begins closes_case (print_case c r) ≡ true
case_goes_on c r = refl

abbrev with_cases : Name → List Case → Ending → Select
with_cases path cases ending = record { path = path; cases = cases; ending = ending }

select_injects : InjectsBefore ends_select print_select
select_injects a b r s f g e =
    let p : a.path ≡ b.path = cc in
    let h : each print_case a.cases (Mark CloseBrace ∷ print_ending a.ending r) ≡ each print_case b.cases (Mark CloseBrace ∷ print_ending b.ending s) = cc in
    let c = each_before (begins closes_case) print_case closes_brace case_injects case_begins case_goes_on a.cases b.cases (Mark CloseBrace ∷ print_ending a.ending r) (Mark CloseBrace ∷ print_ending b.ending s) refl refl refl refl h in
    let i : (Mark CloseBrace ∷ print_ending a.ending r) ≡ (Mark CloseBrace ∷ print_ending b.ending s) = c.1 in
    let j : print_ending a.ending r ≡ print_ending b.ending s = cc in
    let k = ending_injects a.ending b.ending r s f g j in
    (ap (λ (x : Name). with_cases x a.cases a.ending) p ∙ ap (λ (x : List Case). with_cases b.path x a.ending) c.0 ∙ ap (λ (x : Ending). with_cases b.path b.cases x) k.0, k.1)

-- ---- items

-- a field and a select begin otherwise
type_is_no_select : {A : Type 0} (b : Bool) (of : Name) (r : List Sign) (x : Select) (s : List Sign) → print_type b of r ≡ print_select x s → A
type_is_no_select true of r x s e = absurd cc
type_is_no_select false of r x s e = absurd cc

item_injects : InjectsBefore ends_select print_item
item_injects (Plain a) (Plain b) r s f g e = let h = field_injects a b r s e in (let i : a ≡ b = h.0 in cc, h.1)
item_injects (Choice a) (Choice b) r s f g e = let h = select_injects a b r s f g e in (let i : a ≡ b = h.0 in cc, h.1)
item_injects (Plain a) (Choice b) r s f g e = type_is_no_select a.is_optional a.of (print_name a.name (print_vector a.vector (rest_of_field a.constant r))) b s e
item_injects (Choice a) (Plain b) r s f g e = type_is_no_select b.is_optional b.of (print_name b.name (print_vector b.vector (rest_of_field b.constant s))) a r (sym e)

type_opens : (b : Bool) (of name : Name) (r : List Sign) → begins closes_brace (print_type b of (print_name name r)) ≡ false
type_opens true of name r = refl
type_opens false of name r = refl

item_begins : (i : Item) (r : List Sign) → begins closes_brace (print_item i r) ≡ false
item_begins (Plain f) r = type_opens f.is_optional f.of f.name (print_vector f.vector (rest_of_field f.constant r))
item_begins (Choice x) r = refl

type_goes_on : (b : Bool) (of name : Name) (r : List Sign) → ends_select (print_type b of (print_name name r)) ≡ true
type_goes_on true of name r = refl
type_goes_on false of name r = refl

item_goes_on : (i : Item) (r : List Sign) → ends_select (print_item i r) ≡ true
item_goes_on (Plain f) r = type_goes_on f.is_optional f.of f.name (print_vector f.vector (rest_of_field f.constant r))
item_goes_on (Choice x) r = refl

-- ---- structs

struct_injects : {A : Type 0} (one : A → Print) → InjectsBefore ends_select one → ((x : A) (r : List Sign) → begins closes_brace (one x r) ≡ false) → ((x : A) (r : List Sign) → ends_select (one x r) ≡ true) → (xs ys : List A) (r s : List Sign) → print_struct one xs r ≡ print_struct one ys s → (xs ≡ ys) × (r ≡ s)
struct_injects one i n m xs ys r s e =
    let h : each one xs (Mark CloseBrace ∷ r) ≡ each one ys (Mark CloseBrace ∷ s) = cc in
    let k = each_before ends_select one closes_brace i n m xs ys (Mark CloseBrace ∷ r) (Mark CloseBrace ∷ s) refl refl refl refl h in
    (k.0, let j : (Mark CloseBrace ∷ r) ≡ (Mark CloseBrace ∷ s) = k.1 in cc)

items_inject : (xs ys : List Item) (r s : List Sign) → print_struct print_item xs r ≡ print_struct print_item ys s → (xs ≡ ys) × (r ≡ s)
items_inject xs ys r s e = struct_injects print_item item_injects item_begins item_goes_on xs ys r s e

perhaps_injects : (m n : Option Name) (r s : List Sign) → perhaps print_name m (Mark Semicolon ∷ r) ≡ perhaps print_name n (Mark Semicolon ∷ s) → (m ≡ n) × (r ≡ s)
perhaps_injects None None r s e = (refl, cc)
perhaps_injects (Some m) (Some n) r s e = (cc, cc)
perhaps_injects None (Some n) r s e = absurd cc
perhaps_injects (Some m) None r s e = absurd cc

-- no item begins with these words
abbrev is_part_word : Sign → Bool
is_part_word (Key EnumWord) = true
is_part_word (Key StructWord) = true
is_part_word (Key SignedWord) = true
is_part_word _ = false

type_is_no_part : (b : Bool) (of : Name) (r : List Sign) → begins is_part_word (print_type b of r) ≡ false
type_is_no_part true of r = refl
type_is_no_part false of r = refl

item_is_no_part : (i : Item) (r : List Sign) → begins is_part_word (print_item i r) ≡ false
item_is_no_part (Plain f) r = type_is_no_part f.is_optional f.of (print_name f.name (print_vector f.vector (rest_of_field f.constant r)))
item_is_no_part (Choice x) r = refl

part_injects : InjectsBefore ends_select print_part
part_injects (Own a) (Own b) r s f g e = let h = item_injects a b r s f g e in (let i : a ≡ b = h.0 in cc, h.1)
part_injects (EnumHere vs m) (EnumHere ws n) r s f g e =
    let h = enum_injects vs ws m n r s e in
    (let i : vs ≡ ws = h.0 in let j : m ≡ n = h.1 in cc, h.2)
part_injects (StructHere xs m) (StructHere ys n) r s f g e =
    let h = items_inject xs ys (Identifier m ∷ Mark Semicolon ∷ r) (Identifier n ∷ Mark Semicolon ∷ s) e in
    let i : xs ≡ ys = h.0 in
    let j : (Identifier m ∷ Mark Semicolon ∷ r) ≡ (Identifier n ∷ Mark Semicolon ∷ s) = h.1 in
    (cc, cc)
part_injects (Signed xs m) (Signed ys n) r s f g e =
    let d : print_struct print_item xs (perhaps print_name m (Mark Semicolon ∷ r)) ≡ print_struct print_item ys (perhaps print_name n (Mark Semicolon ∷ s)) = cc in
    let h = items_inject xs ys (perhaps print_name m (Mark Semicolon ∷ r)) (perhaps print_name n (Mark Semicolon ∷ s)) d in
    let k = perhaps_injects m n r s h.1 in
    (let i : xs ≡ ys = h.0 in let j : m ≡ n = k.0 in cc, k.1)
part_injects (Own a) (EnumHere ws n) r s f g e = differ is_part_word (sym e) refl (item_is_no_part a r)
part_injects (Own a) (StructHere ys n) r s f g e = differ is_part_word (sym e) refl (item_is_no_part a r)
part_injects (Own a) (Signed ys n) r s f g e = differ is_part_word (sym e) refl (item_is_no_part a r)
part_injects (EnumHere vs m) (Own b) r s f g e = differ is_part_word e refl (item_is_no_part b s)
part_injects (StructHere xs m) (Own b) r s f g e = differ is_part_word e refl (item_is_no_part b s)
part_injects (Signed xs m) (Own b) r s f g e = differ is_part_word e refl (item_is_no_part b s)
part_injects (EnumHere vs m) (StructHere ys n) r s f g e = absurd cc
part_injects (EnumHere vs m) (Signed ys n) r s f g e = absurd cc
part_injects (StructHere xs m) (EnumHere ws n) r s f g e = absurd cc
part_injects (StructHere xs m) (Signed ys n) r s f g e = absurd cc
part_injects (Signed xs m) (EnumHere ws n) r s f g e = absurd cc
part_injects (Signed xs m) (StructHere ys n) r s f g e = absurd cc

part_begins : (p : Part) (r : List Sign) → begins closes_brace (print_part p r) ≡ false
part_begins (Own i) r = item_begins i r
part_begins (EnumHere vs n) r = refl
part_begins (StructHere xs n) r = refl
part_begins (Signed xs n) r = refl

part_goes_on : (p : Part) (r : List Sign) → ends_select (print_part p r) ≡ true
part_goes_on (Own i) r = item_goes_on i r
part_goes_on (EnumHere vs n) r = refl
part_goes_on (StructHere xs n) r = refl
part_goes_on (Signed xs n) r = refl

parts_inject : (xs ys : List Part) (m n : Name) (r s : List Sign) → print_struct print_part xs (Identifier m ∷ Mark Semicolon ∷ r) ≡ print_struct print_part ys (Identifier n ∷ Mark Semicolon ∷ s) → (xs ≡ ys) × (m ≡ n) × (r ≡ s)
parts_inject xs ys m n r s e =
    let h = struct_injects print_part part_injects part_begins part_goes_on xs ys (Identifier m ∷ Mark Semicolon ∷ r) (Identifier n ∷ Mark Semicolon ∷ s) e in
    let j : (Identifier m ∷ Mark Semicolon ∷ r) ≡ (Identifier n ∷ Mark Semicolon ∷ s) = h.1 in
    (h.0, cc, cc)

-- ---- definitions

-- what a definition that is no other name begins with
abbrev is_definition_word : Sign → Bool
is_definition_word (Key EnumWord) = true
is_definition_word (Key StructWord) = true
is_definition_word (Key SignedWord) = true
is_definition_word (Key OpenWord) = true
is_definition_word (Key BorrowedWord) = true
is_definition_word _ = false

type_is_no_word : (b : Bool) (of : Name) (r : List Sign) → begins is_definition_word (print_type b of r) ≡ false
type_is_no_word true of r = refl
type_is_no_word false of r = refl

alias_is_no_word : (f : Field) (r : List Sign) → begins is_definition_word (print_field f r) ≡ false
alias_is_no_word f r = type_is_no_word f.is_optional f.of (print_name f.name (print_vector f.vector (rest_of_field f.constant r)))

enum_is : (b : Bool) (vs ws : List Value) (m n : Name) (r s : List Sign) → print_enum vs m r ≡ print_enum ws n s → (Enum b vs m ≡ Enum b ws n) × (r ≡ s)
enum_is b vs ws m n r s e = let h = enum_injects vs ws m n r s e in (let i : vs ≡ ws = h.0 in let j : m ≡ n = h.1 in cc, h.2)

struct_is : (b : Bool) (xs ys : List Part) (m n : Name) (r s : List Sign) → print_struct print_part xs (Identifier m ∷ Mark Semicolon ∷ r) ≡ print_struct print_part ys (Identifier n ∷ Mark Semicolon ∷ s) → (Struct b xs m ≡ Struct b ys n) × (r ≡ s)
struct_is b xs ys m n r s e = let h = parts_inject xs ys m n r s e in (let i : xs ≡ ys = h.0 in let j : m ≡ n = h.1 in cc, h.2)

definition_injects : Injects print_definition
definition_injects (Enum true vs m) (Enum true ws n) r s e = let d : print_enum vs m r ≡ print_enum ws n s = cc in enum_is true vs ws m n r s d
definition_injects (Enum false vs m) (Enum false ws n) r s e = enum_is false vs ws m n r s e
definition_injects (Struct true xs m) (Struct true ys n) r s e =
    let d : print_struct print_part xs (Identifier m ∷ Mark Semicolon ∷ r) ≡ print_struct print_part ys (Identifier n ∷ Mark Semicolon ∷ s) = cc in
    struct_is true xs ys m n r s d
definition_injects (Struct false xs m) (Struct false ys n) r s e = struct_is false xs ys m n r s e
definition_injects (SignedStruct xs m) (SignedStruct ys n) r s e =
    let d : print_struct print_item xs (Identifier m ∷ Mark Semicolon ∷ r) ≡ print_struct print_item ys (Identifier n ∷ Mark Semicolon ∷ s) = cc in
    let h = items_inject xs ys (Identifier m ∷ Mark Semicolon ∷ r) (Identifier n ∷ Mark Semicolon ∷ s) d in
    let i : xs ≡ ys = h.0 in
    let j : (Identifier m ∷ Mark Semicolon ∷ r) ≡ (Identifier n ∷ Mark Semicolon ∷ s) = h.1 in
    (cc, cc)
definition_injects (Alias f) (Alias g) r s e = let h = field_injects f g r s e in (let i : f ≡ g = h.0 in cc, h.1)
definition_injects (Alias f) (Enum true ws n) r s e = differ is_definition_word (sym e) refl (alias_is_no_word f r)
definition_injects (Alias f) (Enum false ws n) r s e = differ is_definition_word (sym e) refl (alias_is_no_word f r)
definition_injects (Alias f) (Struct true ys n) r s e = differ is_definition_word (sym e) refl (alias_is_no_word f r)
definition_injects (Alias f) (Struct false ys n) r s e = differ is_definition_word (sym e) refl (alias_is_no_word f r)
definition_injects (Alias f) (SignedStruct ys n) r s e = differ is_definition_word (sym e) refl (alias_is_no_word f r)
definition_injects (Enum true vs m) (Alias g) r s e = differ is_definition_word e refl (alias_is_no_word g s)
definition_injects (Enum false vs m) (Alias g) r s e = differ is_definition_word e refl (alias_is_no_word g s)
definition_injects (Struct true xs m) (Alias g) r s e = differ is_definition_word e refl (alias_is_no_word g s)
definition_injects (Struct false xs m) (Alias g) r s e = differ is_definition_word e refl (alias_is_no_word g s)
definition_injects (SignedStruct xs m) (Alias g) r s e = differ is_definition_word e refl (alias_is_no_word g s)
definition_injects (Enum true vs m) (Enum false ws n) r s e = absurd cc
definition_injects (Enum false vs m) (Enum true ws n) r s e = absurd cc
definition_injects (Struct true xs m) (Struct false ys n) r s e = absurd cc
definition_injects (Struct false xs m) (Struct true ys n) r s e = absurd cc
definition_injects (Enum true vs m) (Struct true ys n) r s e = absurd cc
definition_injects (Enum true vs m) (Struct false ys n) r s e = absurd cc
definition_injects (Enum false vs m) (Struct true ys n) r s e = absurd cc
definition_injects (Enum false vs m) (Struct false ys n) r s e = absurd cc
definition_injects (Enum true vs m) (SignedStruct ys n) r s e = absurd cc
definition_injects (Enum false vs m) (SignedStruct ys n) r s e = absurd cc
definition_injects (Struct true xs m) (Enum true ws n) r s e = absurd cc
definition_injects (Struct true xs m) (Enum false ws n) r s e = absurd cc
definition_injects (Struct false xs m) (Enum true ws n) r s e = absurd cc
definition_injects (Struct false xs m) (Enum false ws n) r s e = absurd cc
definition_injects (Struct true xs m) (SignedStruct ys n) r s e = absurd cc
definition_injects (Struct false xs m) (SignedStruct ys n) r s e = absurd cc
definition_injects (SignedStruct xs m) (Enum true ws n) r s e = absurd cc
definition_injects (SignedStruct xs m) (Enum false ws n) r s e = absurd cc
definition_injects (SignedStruct xs m) (Struct true ys n) r s e = absurd cc
definition_injects (SignedStruct xs m) (Struct false ys n) r s e = absurd cc

type_is_something : (b : Bool) (of : Name) (r : List Sign) → print_type b of r ≡ [] → ⊥
type_is_something true of r e = absurd cc
type_is_something false of r e = absurd cc

definition_is_something : (d : Definition) (r : List Sign) → print_definition d r ≡ [] → ⊥
definition_is_something (Enum true vs n) r e = absurd cc
definition_is_something (Enum false vs n) r e = absurd cc
definition_is_something (Struct true xs n) r e = absurd cc
definition_is_something (Struct false xs n) r e = absurd cc
definition_is_something (SignedStruct xs n) r e = absurd cc
definition_is_something (Alias f) r e = type_is_something f.is_optional f.of (print_name f.name (print_vector f.vector (rest_of_field f.constant r))) e

-- two lists of definitions that are printed alike are the same
pub print_injects : (ds es : List Definition) → print ds ≡ print es → ds ≡ es
print_injects [] [] e = refl
print_injects [] (d ∷ ds) e = absurd (definition_is_something d (print ds) (sym e))
print_injects (d ∷ ds) [] e = absurd (definition_is_something d (print ds) e)
print_injects (d ∷ ds) (k ∷ ks) e =
    let h = definition_injects d k (print ds) (print ks) e in
    let i = print_injects ds ks h.1 in
    let a : d ≡ k = h.0 in let b : ds ≡ ks = i in cc
