-- What is printed tells what was printed: no two lists of definitions have one text.
use Rattle.std.proofs.Common.{◌≡◌, ℕ, List, [], ◌∷◌, Bool, true, false, refl, sym, ap, ◌∙◌}
use Rattle.std.specs.Prelude.{Option, Some, None}
use Rattle.tls_presentation.specs.Definition.{Name, Label, Word, Numeral, Vector, One, Array, Counted, Variable, Bounded, Constant, Is, Bytes, Field, Value, Named, Range, Width, CaseField, Has, IsA, Case}
use Rattle.tls_presentation.specs.Printed.{Sign, Identifier, Key, Mark, StructWord, CaseWord, OptionalWord, CloseBrace, Semicolon, EqualSign, Print, each, perhaps, print_name, print_label, print_vector, print_next_byte, print_constant, print_type, print_field, print_value, print_next_value, print_values, print_enum, print_case_label, print_case_field, print_case_fields, print_case}

-- ---- how what comes next begins

abbrev pub begins : (Sign → Bool) → List Sign → Bool
begins p [] = false
begins p (x ∷ xs) = p x

pub differ : {A : Type 0} (p : Sign → Bool) {r s : List Sign} → r ≡ s → begins p r ≡ true → begins p s ≡ false → A
differ p e f g = let h : true ≡ false = sym f ∙ ap (begins p) e ∙ g in absurd cc

-- ---- lists: each item begins otherwise than what closes the list

abbrev pub Injects : {A : Type 0} → (A → Print) → Type 0
Injects {A} one = (x y : A) (r s : List Sign) → one x r ≡ one y s → (x ≡ y) × (r ≡ s)

each_injects : {A : Type 0} (one : A → Print) (closes : Sign → Bool) → Injects one → ((x : A) (r : List Sign) → begins closes (one x r) ≡ false) → (xs ys : List A) (r s : List Sign) → begins closes r ≡ true → begins closes s ≡ true → each one xs r ≡ each one ys s → (xs ≡ ys) × (r ≡ s)
each_injects one closes i n [] [] r s p q e = (refl, e)
each_injects one closes i n [] (y ∷ ys) r s p q e = differ closes e p (n y (each one ys s))
each_injects one closes i n (x ∷ xs) [] r s p q e = differ closes (sym e) q (n x (each one xs r))
each_injects one closes i n (x ∷ xs) (y ∷ ys) r s p q e =
    let f = i x y (each one xs r) (each one ys s) e in
    let g = each_injects one closes i n xs ys r s p q f.1 in
    (let a : x ≡ y = f.0 in let b : xs ≡ ys = g.0 in cc, g.1)

-- ---- labels

pub label_injects : Injects print_label
label_injects (Word a) (Word b) r s e = (cc, cc)
label_injects (Numeral a) (Numeral b) r s e = (cc, cc)
label_injects (Word a) (Numeral b) r s e = absurd cc
label_injects (Numeral a) (Word b) r s e = absurd cc

-- ---- vectors, which `=` or `;` follows

abbrev is_behind : Sign → Bool
is_behind (Mark Semicolon) = true
is_behind (Mark EqualSign) = true
is_behind _ = false

vector_injects : (v w : Vector) (r s : List Sign) → begins is_behind r ≡ true → begins is_behind s ≡ true → print_vector v r ≡ print_vector w s → (v ≡ w) × (r ≡ s)
vector_injects One One r s p q e = (refl, e)
vector_injects One (Array n) r s p q e = differ is_behind e p refl
vector_injects One (Counted n) r s p q e = differ is_behind e p refl
vector_injects One Variable r s p q e = differ is_behind e p refl
vector_injects One (Bounded m n) r s p q e = differ is_behind e p refl
vector_injects (Array n) One r s p q e = differ is_behind (sym e) q refl
vector_injects (Counted n) One r s p q e = differ is_behind (sym e) q refl
vector_injects Variable One r s p q e = differ is_behind (sym e) q refl
vector_injects (Bounded m n) One r s p q e = differ is_behind (sym e) q refl
vector_injects (Array m) (Array n) r s p q e = (cc, cc)
vector_injects (Counted m) (Counted n) r s p q e = (cc, cc)
vector_injects Variable Variable r s p q e = (refl, cc)
vector_injects (Bounded a b) (Bounded m n) r s p q e = (cc, cc)
vector_injects _ _ r s p q e = absurd cc

-- ---- fields

type_injects : (a b : Bool) (of from : Name) (r s : List Sign) → print_type a of r ≡ print_type b from s → (a ≡ b) × (of ≡ from) × (r ≡ s)
type_injects true true of from r s e = (refl, cc, cc)
type_injects false false of from r s e = (refl, cc, cc)
type_injects true false of from r s e = absurd cc
type_injects false true of from r s e = absurd cc

byte_injects : Injects print_next_byte
byte_injects x y r s e = (cc, cc)

abbrev pub closes_brace : Sign → Bool
closes_brace (Mark CloseBrace) = true
closes_brace _ = false

-- a constant, or none, before the `;`
abbrev pub rest_of_field : Option Constant → Print
rest_of_field k r = perhaps print_constant k (Mark Semicolon ∷ r)

rest_begins : (k : Option Constant) (r : List Sign) → begins is_behind (rest_of_field k r) ≡ true
rest_begins None r = refl
rest_begins (Some (Is label)) r = refl
rest_begins (Some (Bytes byte more)) r = refl

bytes_inject : (a b : ℕ) (xs ys : List ℕ) (r s : List Sign) → rest_of_field (Some (Bytes a xs)) r ≡ rest_of_field (Some (Bytes b ys)) s → (Some (Bytes a xs) ≡ Some (Bytes b ys)) × (r ≡ s)
bytes_inject a b xs ys r s e =
    let f : each print_next_byte xs (Mark CloseBrace ∷ Mark Semicolon ∷ r) ≡ each print_next_byte ys (Mark CloseBrace ∷ Mark Semicolon ∷ s) = cc in
    let h : a ≡ b = cc in
    let g = each_injects print_next_byte closes_brace byte_injects (λ x u. refl) xs ys (Mark CloseBrace ∷ Mark Semicolon ∷ r) (Mark CloseBrace ∷ Mark Semicolon ∷ s) refl refl f in
    let i : xs ≡ ys = g.0 in
    let j : (Mark CloseBrace ∷ Mark Semicolon ∷ r) ≡ (Mark CloseBrace ∷ Mark Semicolon ∷ s) = g.1 in
    (cc, cc)

rest_injects : (k l : Option Constant) (r s : List Sign) → rest_of_field k r ≡ rest_of_field l s → (k ≡ l) × (r ≡ s)
rest_injects None None r s e = (refl, cc)
rest_injects None (Some (Is label)) r s e = absurd cc
rest_injects None (Some (Bytes b ys)) r s e = absurd cc
rest_injects (Some (Is label)) None r s e = absurd cc
rest_injects (Some (Bytes a xs)) None r s e = absurd cc
rest_injects (Some (Is (Word a))) (Some (Is (Word b))) r s e = (cc, cc)
rest_injects (Some (Is (Numeral a))) (Some (Is (Numeral b))) r s e = (cc, cc)
rest_injects (Some (Is (Word a))) (Some (Is (Numeral b))) r s e = absurd cc
rest_injects (Some (Is (Numeral a))) (Some (Is (Word b))) r s e = absurd cc
rest_injects (Some (Is (Word a))) (Some (Bytes b ys)) r s e = absurd cc
rest_injects (Some (Is (Numeral a))) (Some (Bytes b ys)) r s e = absurd cc
rest_injects (Some (Bytes a xs)) (Some (Is (Word b))) r s e = absurd cc
rest_injects (Some (Bytes a xs)) (Some (Is (Numeral b))) r s e = absurd cc
rest_injects (Some (Bytes a xs)) (Some (Bytes b ys)) r s e = bytes_inject a b xs ys r s e

abbrev with_parts : Bool → Name → Name → Vector → Option Constant → Field
with_parts is_optional of name vector constant = record { is_optional = is_optional; of = of; name = name; vector = vector; constant = constant }

same_field : (f g : Field) → f.is_optional ≡ g.is_optional → f.of ≡ g.of → f.name ≡ g.name → f.vector ≡ g.vector → f.constant ≡ g.constant → f ≡ g
same_field f g a b c d e =
    ap (λ (x : Bool). with_parts x f.of f.name f.vector f.constant) a ∙ ap (λ (x : Name). with_parts g.is_optional x f.name f.vector f.constant) b
    ∙ ap (λ (x : Name). with_parts g.is_optional g.of x f.vector f.constant) c ∙ ap (λ (x : Vector). with_parts g.is_optional g.of g.name x f.constant) d
    ∙ ap (λ (x : Option Constant). with_parts g.is_optional g.of g.name g.vector x) e

pub field_injects : Injects print_field
field_injects f g r s e =
    let t = type_injects f.is_optional g.is_optional f.of g.of (print_name f.name (print_vector f.vector (rest_of_field f.constant r))) (print_name g.name (print_vector g.vector (rest_of_field g.constant s))) e in
    let b : (print_name f.name (print_vector f.vector (rest_of_field f.constant r))) ≡ (print_name g.name (print_vector g.vector (rest_of_field g.constant s))) = t.2 in
    let n : f.name ≡ g.name = cc in
    let c : print_vector f.vector (rest_of_field f.constant r) ≡ print_vector g.vector (rest_of_field g.constant s) = cc in
    let v = vector_injects f.vector g.vector (rest_of_field f.constant r) (rest_of_field g.constant s) (rest_begins f.constant r) (rest_begins g.constant s) c in
    let k = rest_injects f.constant g.constant r s v.1 in
    (same_field f g t.0 t.1 n v.0 k.0, k.1)

-- ---- enums

value_injects : Injects print_value
value_injects (Named (Word a) m) (Named (Word b) n) r s e = (cc, cc)
value_injects (Named (Numeral a) m) (Named (Numeral b) n) r s e = (cc, cc)
value_injects (Range (Word a) m k) (Range (Word b) n l) r s e = (cc, cc)
value_injects (Range (Numeral a) m k) (Range (Numeral b) n l) r s e = (cc, cc)
value_injects (Width m) (Width n) r s e = (cc, cc)
value_injects (Named (Word a) m) (Named (Numeral b) n) r s e = absurd cc
value_injects (Named (Numeral a) m) (Named (Word b) n) r s e = absurd cc
value_injects (Range (Word a) m k) (Range (Numeral b) n l) r s e = absurd cc
value_injects (Range (Numeral a) m k) (Range (Word b) n l) r s e = absurd cc
value_injects (Named (Word a) m) (Range (Word b) n l) r s e = absurd cc
value_injects (Named (Word a) m) (Range (Numeral b) n l) r s e = absurd cc
value_injects (Named (Numeral a) m) (Range (Word b) n l) r s e = absurd cc
value_injects (Named (Numeral a) m) (Range (Numeral b) n l) r s e = absurd cc
value_injects (Range (Word a) m k) (Named (Word b) n) r s e = absurd cc
value_injects (Range (Word a) m k) (Named (Numeral b) n) r s e = absurd cc
value_injects (Range (Numeral a) m k) (Named (Word b) n) r s e = absurd cc
value_injects (Range (Numeral a) m k) (Named (Numeral b) n) r s e = absurd cc
value_injects (Named (Word a) m) (Width n) r s e = absurd cc
value_injects (Named (Numeral a) m) (Width n) r s e = absurd cc
value_injects (Range (Word a) m k) (Width n) r s e = absurd cc
value_injects (Range (Numeral a) m k) (Width n) r s e = absurd cc
value_injects (Width m) (Named (Word b) n) r s e = absurd cc
value_injects (Width m) (Named (Numeral b) n) r s e = absurd cc
value_injects (Width m) (Range (Word b) n l) r s e = absurd cc
value_injects (Width m) (Range (Numeral b) n l) r s e = absurd cc

next_value_injects : Injects print_next_value
next_value_injects v w r s e = let f : print_value v r ≡ print_value w s = cc in value_injects v w r s f

value_begins : (v : Value) (r : List Sign) → begins closes_brace (print_value v r) ≡ false
value_begins (Named (Word a) n) r = refl
value_begins (Named (Numeral a) n) r = refl
value_begins (Range (Word a) m n) r = refl
value_begins (Range (Numeral a) m n) r = refl
value_begins (Width n) r = refl

values_inject : (vs ws : List Value) (r s : List Sign) → begins closes_brace r ≡ true → begins closes_brace s ≡ true → print_values vs r ≡ print_values ws s → (vs ≡ ws) × (r ≡ s)
values_inject [] [] r s p q e = (refl, e)
values_inject [] (w ∷ ws) r s p q e = differ closes_brace e p (value_begins w (each print_next_value ws s))
values_inject (v ∷ vs) [] r s p q e = differ closes_brace (sym e) q (value_begins v (each print_next_value vs r))
values_inject (v ∷ vs) (w ∷ ws) r s p q e =
    let f = value_injects v w (each print_next_value vs r) (each print_next_value ws s) e in
    let g = each_injects print_next_value closes_brace next_value_injects (λ x u. refl) vs ws r s p q f.1 in
    (let a : v ≡ w = f.0 in let b : vs ≡ ws = g.0 in cc, g.1)

pub enum_injects : (vs ws : List Value) (m n : Name) (r s : List Sign) → print_enum vs m r ≡ print_enum ws n s → (vs ≡ ws) × (m ≡ n) × (r ≡ s)
enum_injects vs ws m n r s e =
    let f : print_values vs (Mark CloseBrace ∷ Identifier m ∷ Mark Semicolon ∷ r) ≡ print_values ws (Mark CloseBrace ∷ Identifier n ∷ Mark Semicolon ∷ s) = cc in
    let g = values_inject vs ws (Mark CloseBrace ∷ Identifier m ∷ Mark Semicolon ∷ r) (Mark CloseBrace ∷ Identifier n ∷ Mark Semicolon ∷ s) refl refl f in
    let h : (Mark CloseBrace ∷ Identifier m ∷ Mark Semicolon ∷ r) ≡ (Mark CloseBrace ∷ Identifier n ∷ Mark Semicolon ∷ s) = g.1 in
    (g.0, cc, cc)

-- ---- cases

type_begins : (p : Sign → Bool) → ((of : Name) → p (Identifier of) ≡ false) → p (Key OptionalWord) ≡ false → (b : Bool) (of : Name) (r : List Sign) → begins p (print_type b of r) ≡ false
type_begins p a b true of r = b
type_begins p a b false of r = a of

-- what stands behind the labels of a case
abbrev is_no_label : Sign → Bool
is_no_label (Key CaseWord) = false
is_no_label _ = true

type_no_label : (b : Bool) (of : Name) (r : List Sign) → begins is_no_label (print_type b of r) ≡ true
type_no_label true of r = refl
type_no_label false of r = refl

abbrev is_struct : Sign → Bool
is_struct (Key StructWord) = true
is_struct _ = false

no_type : {A : Type 0} (b : Bool) (of other name : Name) (r s : List Sign) → print_type b of (print_name name r) ≡ print_case_field (IsA other) s → A
no_type true of other name r s e = absurd cc
no_type false of other name r s e = absurd cc

field_is_no_type : {A : Type 0} (f : Field) (of : Name) (r s : List Sign) → print_field f r ≡ print_case_field (IsA of) s → A
field_is_no_type f of r s e = no_type f.is_optional f.of of f.name (print_vector f.vector (rest_of_field f.constant r)) s e

field_begins : (p : Sign → Bool) → ((of : Name) → p (Identifier of) ≡ false) → p (Key OptionalWord) ≡ false → (f : Field) (r : List Sign) → begins p (print_field f r) ≡ false
field_begins p a b f r = type_begins p a b f.is_optional f.of (print_name f.name (print_vector f.vector (rest_of_field f.constant r)))

case_field_injects : Injects print_case_field
case_field_injects (IsA a) (IsA b) r s e = (cc, cc)
case_field_injects (Has f) (Has g) r s e = let h = field_injects f g r s e in (let a : f ≡ g = h.0 in cc, h.1)
case_field_injects (Has f) (IsA b) r s e = field_is_no_type f b r s e
case_field_injects (IsA a) (Has g) r s e = field_is_no_type g a s r (sym e)

-- what begins a case, or ends the cases
abbrev pub closes_case : Sign → Bool
closes_case (Key CaseWord) = true
closes_case (Mark CloseBrace) = true
closes_case _ = false

case_field_begins : (f : CaseField) (r : List Sign) → begins closes_case (print_case_field f r) ≡ false
case_field_begins (Has f) r = field_begins closes_case (λ of. refl) refl f r
case_field_begins (IsA of) r = refl

no_struct : (f : CaseField) (r : List Sign) → begins is_struct (print_case_field f r) ≡ false
no_struct (Has f) r = field_begins is_struct (λ of. refl) refl f r
no_struct (IsA of) r = refl

case_fields_inject : (fs gs : List CaseField) (r s : List Sign) → begins closes_case r ≡ true → begins closes_case s ≡ true → print_case_fields fs r ≡ print_case_fields gs s → (fs ≡ gs) × (r ≡ s)
case_fields_inject [] [] r s p q e = (refl, cc)
case_fields_inject [] (g ∷ gs) r s p q e = differ is_struct e refl (no_struct g (each print_case_field gs s))
case_fields_inject (f ∷ fs) [] r s p q e = differ is_struct (sym e) refl (no_struct f (each print_case_field fs r))
case_fields_inject (f ∷ fs) (g ∷ gs) r s p q e =
    let h = case_field_injects f g (each print_case_field fs r) (each print_case_field gs s) e in
    let i = each_injects print_case_field closes_case case_field_injects case_field_begins fs gs r s p q h.1 in
    (let a : f ≡ g = h.0 in let b : fs ≡ gs = i.0 in cc, i.1)

case_label_injects : Injects print_case_label
case_label_injects (Word a) (Word b) r s e = (cc, cc)
case_label_injects (Numeral a) (Numeral b) r s e = (cc, cc)
case_label_injects (Word a) (Numeral b) r s e = absurd cc
case_label_injects (Numeral a) (Word b) r s e = absurd cc

fields_behind : (fs : List CaseField) (r : List Sign) → begins is_no_label (print_case_fields fs r) ≡ true
fields_behind [] r = refl
fields_behind (IsA of ∷ fs) r = refl
fields_behind (Has f ∷ fs) r = type_no_label f.is_optional f.of (print_name f.name (print_vector f.vector (rest_of_field f.constant (each print_case_field fs r))))

abbrev with_case : Label → List Label → List CaseField → Case
with_case label more fields = record { label = label; more = more; fields = fields }

pub case_injects : (c k : Case) (r s : List Sign) → begins closes_case r ≡ true → begins closes_case s ≡ true → print_case c r ≡ print_case k s → (c ≡ k) × (r ≡ s)
case_injects c k r s p q e =
    let f = case_label_injects c.label k.label (each print_case_label c.more (print_case_fields c.fields r)) (each print_case_label k.more (print_case_fields k.fields s)) e in
    let g = each_injects print_case_label is_no_label case_label_injects (λ x u. refl) c.more k.more (print_case_fields c.fields r) (print_case_fields k.fields s) (fields_behind c.fields r) (fields_behind k.fields s) f.1 in
    let h = case_fields_inject c.fields k.fields r s p q g.1 in
    (ap (λ (x : Label). with_case x c.more c.fields) f.0 ∙ ap (λ (x : List Label). with_case k.label x c.fields) g.0 ∙ ap (λ (x : List CaseField). with_case k.label k.more x) h.0, h.1)
