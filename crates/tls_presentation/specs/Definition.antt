-- What a text in the presentation language says, as data (RFC 8446, section 3; RFC 9420, section 2.1; RFC 5246, section 4.7).
use Rattle.std.specs.Prelude.{ℕ, List, [], Bool, true, false, Option, Some, None, codes, map}
use Prim.Native.String.{String}

-- a name, by its characters; dots are some of them, as in the path `Handshake.msg_type`
abbrev pub Name : Type 0
Name = List ℕ

-- what a number of an enum is called, and what a case is for: a name or a number
pub data Label : Type 0 where
  Word : Name → Label
  Numeral : ℕ → Label

-- "A vector is a stream of homogeneous data elements" (section 3.4). After a field's name comes
-- nothing, `[n]`, `[length]`, `<V>` (RFC 9420, section 2.1.2) or `<least..most>`
pub data Vector : Type 0 where
  One : Vector
  Array : ℕ → Vector
  Counted : Name → Vector
  Variable : Vector
  Bounded : ℕ → ℕ → Vector

-- "Fields and variables may be assigned a fixed value" (section 3.7): `= mls10`, `= 0` or `= {254, 253}`
pub data Constant : Type 0 where
  Is : Label → Constant
  Bytes : ℕ → List ℕ → Constant

-- `T name` or `optional<T> name`, each with a vector and a constant after it
pub record Field : Type 0 where
  pub is_optional : Bool
  pub of : Name
  pub name : Name
  pub vector : Vector
  pub constant : Option Constant

-- "enum { e1(v1), e2(v2), ... , en(vn) [[, (n)]] } Te;" (section 3.5): `name(number)`, `name(least..most)` or `(number)`
pub data Value : Type 0 where
  Named : Label → ℕ → Value
  Range : Label → ℕ → ℕ → Value
  Width : ℕ → Value

-- what a case has: a field, or a type alone, as `ClientHello;`
pub data CaseField : Type 0 where
  Has : Field → CaseField
  IsA : Name → CaseField

-- `case label: case label: fields` (section 3.8): the first label, and the others
pub record Case : Type 0 where
  pub label : Label
  pub more : List Label
  pub fields : List CaseField

-- after the cases: nothing, `;` or `name;`
pub data Ending : Type 0 where
  Bare : Ending
  Ended : Ending
  Called : Name → Ending

-- `select (path) { cases }`
pub record Select : Type 0 where
  pub path : Name
  pub cases : List Case
  pub ending : Ending

pub data Item : Type 0 where
  Plain : Field → Item
  Choice : Select → Item

-- what is in a struct: an item; a type in its place, with the name of the field; or what is signed
-- (RFC 5246, section 4.7)
pub data Part : Type 0 where
  Own : Item → Part
  EnumHere : List Value → Name → Part
  StructHere : List Item → Name → Part
  Signed : List Item → Option Name → Part

-- `open` and `borrowed` are words of this repository, and are in no RFC
pub data Definition : Type 0 where
  Enum : (is_open : Bool) → List Value → Name → Definition
  Struct : (is_borrowed : Bool) → List Part → Name → Definition
  SignedStruct : List Item → Name → Definition
  Alias : Field → Definition

-- what an RFC says of a text in prose, in a file beside it
pub data Note : Type 0 where
  -- `Handshake.length counts rest;`
  CountsRest : Name → Note
  -- `Finished.verify_data fills rest;`, and `.. with zeros;`
  FillsRest : Name → Note
  FillsZeros : Name → Note
  -- `TLSInnerPlaintext.type ends content;`
  Ends : Name → Name → Note
  -- `Hash.length = 48;`, `CredentialType.basic = 1;`, `CertificateEntry.certificate_type = X509;`
  Equals : Name → Label → Note
  -- `Version is closed;`, `ContentType is open;`, `SignContent is borrowed;`
  IsClosed : Name → Note
  IsOpen : Name → Note
  IsBorrowed : Name → Note
  -- `PrivateMessageContent.content_type called content;`
  IsCalled : Name → Name → Note
  -- `UncompressedPointRepresentation left out;`
  LeftOut : Name → Note

-- ---- the same, in short: names as they are printed

abbrev field_of : Bool → (of name : String) → Vector → Option Constant → Field
field_of is_optional of name vector constant =
    record { is_optional = is_optional; of = codes of; name = codes name; vector = vector; constant = constant }

abbrev pub field : (of name : String) → Vector → Field
field of name vector = field_of false of name vector None

abbrev pub optional : (of name : String) → Vector → Field
optional of name vector = field_of true of name vector None

-- of a case
abbrev pub has : (of name : String) → Vector → CaseField
has of name vector = Has (field of name vector)

abbrev pub is_a : (of : String) → CaseField
is_a of = IsA (codes of)

abbrev pub constant : (of name : String) → Vector → Constant → Field
constant of name vector value = field_of false of name vector (Some value)

abbrev pub word : String → Label
word name = Word (codes name)

abbrev pub counted : String → Vector
counted path = Counted (codes path)

abbrev pub value : String → ℕ → Value
value name number = Named (word name) number

abbrev pub range : String → ℕ → ℕ → Value
range name least most = Range (word name) least most

abbrev pub case : String → List CaseField → Case
case label fields = record { label = word label; more = []; fields = fields }

abbrev pub cases_of : Label → List Label → List CaseField → Case
cases_of label more fields = record { label = label; more = more; fields = fields }

abbrev pub select : (path : String) → List Case → Ending → Item
select path cases ending = Choice (record { path = codes path; cases = cases; ending = ending })

abbrev pub called : String → Ending
called name = Called (codes name)

abbrev pub enum : List Value → String → Definition
enum values name = Enum false values (codes name)

abbrev pub struct : List Item → String → Definition
struct items name = Struct false (map Own items) (codes name)

-- with a type in its place, or with what is signed
abbrev pub struct_of : List Part → String → Definition
struct_of parts name = Struct false parts (codes name)
