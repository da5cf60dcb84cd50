-- How definitions and notes are printed: as words, numbers and marks. `Cut` has how a text is cut into these.
use Rattle.std.specs.Prelude.{ℕ, List, [], ◌∷◌, Bool, true, false, Option, Some, None, codes}
use Rattle.tls_presentation.specs.Definition.{Name, Label, Word, Numeral, Vector, One, Array, Counted, Variable, Bounded, Constant, Is, Bytes, Field, Value, Named, Range, Width, CaseField, Has, IsA, Case, Ending, Bare, Ended, Called, Select, Item, Plain, Choice, Part, Own, EnumHere, StructHere, Signed, Definition, Enum, Struct, SignedStruct, Alias, Note, CountsRest, FillsRest, FillsZeros, Ends, Equals, IsClosed, IsOpen, IsBorrowed, IsCalled, LeftOut}

-- the words that are no names
pub data KeyWord : Type 0 where
  EnumWord : KeyWord
  StructWord : KeyWord
  SelectWord : KeyWord
  CaseWord : KeyWord
  OptionalWord : KeyWord
  SignedWord : KeyWord
  OpenWord : KeyWord
  BorrowedWord : KeyWord

-- { } ( ) [ ] < > ; : , = . and whatever else a text may have
pub data Punctuation : Type 0 where
  OpenBrace : Punctuation
  CloseBrace : Punctuation
  OpenRound : Punctuation
  CloseRound : Punctuation
  OpenSquare : Punctuation
  CloseSquare : Punctuation
  OpenAngle : Punctuation
  CloseAngle : Punctuation
  Semicolon : Punctuation
  Colon : Punctuation
  Comma : Punctuation
  EqualSign : Punctuation
  Dot : Punctuation
  OtherMark : ℕ → Punctuation

pub data Sign : Type 0 where
  Identifier : Name → Sign
  Number : ℕ → Sign
  Key : KeyWord → Sign
  Mark : Punctuation → Sign

-- something printed in front of what comes after it
abbrev pub Print : Type 0
Print = List Sign → List Sign

-- one after another
abbrev pub each : {A : Type 0} → (A → Print) → List A → Print
each one [] rest = rest
each one (x ∷ xs) rest = one x (each one xs rest)

abbrev pub perhaps : {A : Type 0} → (A → Print) → Option A → Print
perhaps one None rest = rest
perhaps one (Some x) rest = one x rest

abbrev pub print_name : Name → Print
print_name name rest = Identifier name ∷ rest

abbrev pub print_label : Label → Print
print_label (Word name) rest = Identifier name ∷ rest
print_label (Numeral n) rest = Number n ∷ rest

-- ---- fields (sections 3.4 and 3.7)

abbrev pub print_vector : Vector → Print
print_vector One rest = rest
print_vector (Array n) rest = Mark OpenSquare ∷ Number n ∷ Mark CloseSquare ∷ rest
print_vector (Counted path) rest = Mark OpenSquare ∷ Identifier path ∷ Mark CloseSquare ∷ rest
print_vector Variable rest = Mark OpenAngle ∷ Identifier (codes "V") ∷ Mark CloseAngle ∷ rest
print_vector (Bounded least most) rest = Mark OpenAngle ∷ Number least ∷ Mark Dot ∷ Mark Dot ∷ Number most ∷ Mark CloseAngle ∷ rest

abbrev pub print_next_byte : ℕ → Print
print_next_byte byte rest = Mark Comma ∷ Number byte ∷ rest

abbrev pub print_constant : Constant → Print
print_constant (Is label) rest = Mark EqualSign ∷ print_label label rest
print_constant (Bytes byte more) rest = Mark EqualSign ∷ Mark OpenBrace ∷ Number byte ∷ each print_next_byte more (Mark CloseBrace ∷ rest)

abbrev pub print_type : Bool → Name → Print
print_type true of rest = Key OptionalWord ∷ Mark OpenAngle ∷ Identifier of ∷ Mark CloseAngle ∷ rest
print_type false of rest = Identifier of ∷ rest

-- T name vector = constant;
abbrev pub print_field : Field → Print
print_field f rest = print_type f.is_optional f.of (print_name f.name (print_vector f.vector (perhaps print_constant f.constant (Mark Semicolon ∷ rest))))

-- ---- enums (section 3.5)

abbrev pub print_value : Value → Print
print_value (Named label n) rest = print_label label (Mark OpenRound ∷ Number n ∷ Mark CloseRound ∷ rest)
print_value (Range label least most) rest = print_label label (Mark OpenRound ∷ Number least ∷ Mark Dot ∷ Mark Dot ∷ Number most ∷ Mark CloseRound ∷ rest)
print_value (Width n) rest = Mark OpenRound ∷ Number n ∷ Mark CloseRound ∷ rest

abbrev pub print_next_value : Value → Print
print_next_value v rest = Mark Comma ∷ print_value v rest

abbrev pub print_values : List Value → Print
print_values [] rest = rest
print_values (v ∷ vs) rest = print_value v (each print_next_value vs rest)

-- enum { values } name;
abbrev pub print_enum : List Value → Name → Print
print_enum values name rest = Key EnumWord ∷ Mark OpenBrace ∷ print_values values (Mark CloseBrace ∷ Identifier name ∷ Mark Semicolon ∷ rest)

-- ---- selects (section 3.8)

abbrev pub print_case_label : Label → Print
print_case_label label rest = Key CaseWord ∷ print_label label (Mark Colon ∷ rest)

abbrev pub print_case_field : CaseField → Print
print_case_field (Has f) rest = print_field f rest
print_case_field (IsA of) rest = Identifier of ∷ Mark Semicolon ∷ rest

abbrev pub print_case_fields : List CaseField → Print
print_case_fields [] rest = Key StructWord ∷ Mark OpenBrace ∷ Mark CloseBrace ∷ Mark Semicolon ∷ rest
print_case_fields (f ∷ fs) rest = print_case_field f (each print_case_field fs rest)

abbrev pub print_case : Case → Print
print_case c rest = print_case_label c.label (each print_case_label c.more (print_case_fields c.fields rest))

abbrev pub print_ending : Ending → Print
print_ending Bare rest = rest
print_ending Ended rest = Mark Semicolon ∷ rest
print_ending (Called name) rest = Identifier name ∷ Mark Semicolon ∷ rest

abbrev pub print_select : Select → Print
print_select s rest =
    Key SelectWord ∷ Mark OpenRound ∷ Identifier s.path ∷ Mark CloseRound ∷ Mark OpenBrace ∷
    each print_case s.cases (Mark CloseBrace ∷ print_ending s.ending rest)

-- ---- structs (section 3.6)

abbrev pub print_item : Item → Print
print_item (Plain f) rest = print_field f rest
print_item (Choice s) rest = print_select s rest

-- struct { .. } and what is after it
abbrev pub print_struct : {A : Type 0} → (A → Print) → List A → Print
print_struct one parts rest = Key StructWord ∷ Mark OpenBrace ∷ each one parts (Mark CloseBrace ∷ rest)

abbrev pub print_part : Part → Print
print_part (Own item) rest = print_item item rest
print_part (EnumHere values name) rest = print_enum values name rest
print_part (StructHere items name) rest = print_struct print_item items (Identifier name ∷ Mark Semicolon ∷ rest)
print_part (Signed items name) rest = Key SignedWord ∷ print_struct print_item items (perhaps print_name name (Mark Semicolon ∷ rest))

abbrev pub print_word : Bool → KeyWord → Print
print_word true word rest = Key word ∷ rest
print_word false word rest = rest

abbrev pub print_definition : Definition → Print
print_definition (Enum is_open values name) rest = print_word is_open OpenWord (print_enum values name rest)
print_definition (Struct is_borrowed parts name) rest = print_word is_borrowed BorrowedWord (print_struct print_part parts (Identifier name ∷ Mark Semicolon ∷ rest))
print_definition (SignedStruct items name) rest = Key SignedWord ∷ print_struct print_item items (Identifier name ∷ Mark Semicolon ∷ rest)
print_definition (Alias f) rest = print_field f rest

abbrev pub print : List Definition → List Sign
print definitions = each print_definition definitions []

-- ---- notes

abbrev pub print_note : Note → Print
print_note (CountsRest path) rest = Identifier path ∷ Identifier (codes "counts") ∷ Identifier (codes "rest") ∷ Mark Semicolon ∷ rest
print_note (FillsRest path) rest = Identifier path ∷ Identifier (codes "fills") ∷ Identifier (codes "rest") ∷ Mark Semicolon ∷ rest
print_note (FillsZeros path) rest = Identifier path ∷ Identifier (codes "fills") ∷ Identifier (codes "rest") ∷ Identifier (codes "with") ∷ Identifier (codes "zeros") ∷ Mark Semicolon ∷ rest
print_note (Ends path content) rest = Identifier path ∷ Identifier (codes "ends") ∷ Identifier content ∷ Mark Semicolon ∷ rest
print_note (Equals path label) rest = Identifier path ∷ Mark EqualSign ∷ print_label label (Mark Semicolon ∷ rest)
print_note (IsClosed name) rest = Identifier name ∷ Identifier (codes "is") ∷ Identifier (codes "closed") ∷ Mark Semicolon ∷ rest
print_note (IsOpen name) rest = Identifier name ∷ Identifier (codes "is") ∷ Key OpenWord ∷ Mark Semicolon ∷ rest
print_note (IsBorrowed name) rest = Identifier name ∷ Identifier (codes "is") ∷ Key BorrowedWord ∷ Mark Semicolon ∷ rest
print_note (IsCalled path name) rest = Identifier path ∷ Identifier (codes "called") ∷ Identifier name ∷ Mark Semicolon ∷ rest
print_note (LeftOut name) rest = Identifier name ∷ Identifier (codes "left") ∷ Identifier (codes "out") ∷ Mark Semicolon ∷ rest

abbrev pub print_notes : List Note → List Sign
print_notes notes = each print_note notes []
