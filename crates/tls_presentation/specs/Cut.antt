-- How a text is cut into words, numbers and marks. Comments and blanks are left out.
use Rattle.std.specs.Prelude.{ℕ, List, [], ◌∷◌, ◌++◌, Bool, true, false, ◌+◌, ◌-◌, ◌*◌, ◌^◌, ◌==◌, ◌&&◌, ◌||◌, nat_le, reverse, codes, bytes_eq}
use Prim.Native.String.{String}
use Rattle.tls_presentation.specs.Printed.{Sign, Identifier, Number, Key, Mark, EnumWord, StructWord, SelectWord, CaseWord, OptionalWord, SignedWord, OpenWord, BorrowedWord, Punctuation, OpenBrace, CloseBrace, OpenRound, CloseRound, OpenSquare, CloseSquare, OpenAngle, CloseAngle, Semicolon, Colon, Comma, EqualSign, Dot, OtherMark}

-- what a character is in a text
pub data Kind : Type 0 where
  Letter : Kind
  Digit : Kind
  Blank : Kind
  NewLine : Kind
  Power : Kind
  Minus : Kind
  Slash : Kind
  Star : Kind
  Point : Kind
  Other : Kind

abbrev is_between : (least most c : ℕ) → Bool
is_between least most c = nat_le least c && nat_le c most

-- what belongs to the first of these keys that is so, or else the last
abbrev pub first : {A : Type 0} → List (Bool × A) → A → A
first {A} [] last = last
first {A} (k ∷ ks) last = elim k.0 as (λ b. A) [ true ↦ k.1 | false ↦ first ks last ]

abbrev pub kind_of : ℕ → Kind
kind_of c = first (
    (is_between 97 122 c || (is_between 65 90 c || (c == 95)), Letter) ∷ (is_between 48 57 c, Digit) ∷ (c == 10, NewLine) ∷ (nat_le c 32, Blank) ∷
    (c == 94, Power) ∷ (c == 45, Minus) ∷ (c == 47, Slash) ∷ (c == 42, Star) ∷ (c == 46, Point) ∷ []) Other

abbrev pub mark_of : ℕ → Punctuation
mark_of c = first (
    (c == 123, OpenBrace) ∷ (c == 125, CloseBrace) ∷ (c == 40, OpenRound) ∷ (c == 41, CloseRound) ∷ (c == 91, OpenSquare) ∷ (c == 93, CloseSquare) ∷
    (c == 60, OpenAngle) ∷ (c == 62, CloseAngle) ∷ (c == 59, Semicolon) ∷ (c == 58, Colon) ∷ (c == 44, Comma) ∷ (c == 61, EqualSign) ∷ (c == 46, Dot) ∷ []) (OtherMark c)

-- the number of a hexadecimal digit
abbrev hex : ℕ → ℕ
hex c = first ((nat_le c 57, c - 48) ∷ (nat_le c 90, c - 55) ∷ []) (c - 87)

abbrev named : List ℕ → Sign
named w = first (
    (bytes_eq w (codes "enum"), Key EnumWord) ∷ (bytes_eq w (codes "struct"), Key StructWord) ∷ (bytes_eq w (codes "select"), Key SelectWord) ∷
    (bytes_eq w (codes "case"), Key CaseWord) ∷ (bytes_eq w (codes "optional"), Key OptionalWord) ∷
    (bytes_eq w (codes "digitally-signed"), Key SignedWord) ∷ (bytes_eq w (codes "open"), Key OpenWord) ∷ (bytes_eq w (codes "borrowed"), Key BorrowedWord) ∷ [])
    (Identifier w)

-- what was read of a word, of a number (`n`, `0xn`, `n^e`, `n^e-m`), or of a comment
pub data Begun : Type 0 where
  Nothing : Begun
  InWord : List ℕ → Begun
  InNumber : ℕ → Begun
  InHex : ℕ → Begun
  InPower : ℕ → ℕ → Begun
  InMinus : ℕ → ℕ → Begun
  AfterSlash : Begun
  InLine : Begun
  InBlock : Begun
  AfterStar : Begun

abbrev ended : Begun → List Sign → List Sign
ended (InWord w) rest = named (reverse w) ∷ rest
ended (InNumber n) rest = Number n ∷ rest
ended (InHex n) rest = Number n ∷ rest
ended (InPower n e) rest = Number (n ^ e) ∷ rest
ended (InMinus n m) rest = Number (n - m) ∷ rest
ended AfterSlash rest = Mark (OtherMark 47) ∷ rest
ended _ rest = rest

-- The next character. A word goes on with letters, digits, dots and `-`.
abbrev step : Begun → Kind → ℕ → (Begun → List Sign) → List Sign
step InLine NewLine c go = go Nothing
step InLine _ c go = go InLine
step InBlock Star c go = go AfterStar
step InBlock _ c go = go InBlock
step AfterStar Slash c go = go Nothing
step AfterStar Star c go = go AfterStar
step AfterStar _ c go = go InBlock
step AfterSlash Slash c go = go InLine
step AfterSlash Star c go = go InBlock
step (InWord w) Letter c go = go (InWord (c ∷ w))
step (InWord w) Digit c go = go (InWord (c ∷ w))
step (InWord w) Point c go = go (InWord (c ∷ w))
step (InWord w) Minus c go = go (InWord (c ∷ w))
step (InNumber n) Letter c go = go (InHex 0)
step (InNumber n) Digit c go = go (InNumber (n * 10 + (c - 48)))
step (InNumber n) Power c go = go (InPower n 0)
step (InNumber n) Minus c go = go (InMinus n 0)
step (InHex n) Letter c go = go (InHex (n * 16 + hex c))
step (InHex n) Digit c go = go (InHex (n * 16 + hex c))
step (InPower n e) Digit c go = go (InPower n (e * 10 + (c - 48)))
step (InPower n e) Minus c go = go (InMinus (n ^ e) 0)
step (InMinus n m) Digit c go = go (InMinus n (m * 10 + (c - 48)))
step begun Letter c go = ended begun (go (InWord (c ∷ [])))
step begun Digit c go = ended begun (go (InNumber (c - 48)))
step begun Slash c go = ended begun (go AfterSlash)
step begun NewLine c go = ended begun (go Nothing)
step begun Blank c go = ended begun (go Nothing)
step begun _ c go = ended begun (Mark (mark_of c) ∷ go Nothing)

abbrev cut : List ℕ → Begun → List Sign
cut [] begun = ended begun []
cut (c ∷ cs) begun = step begun (kind_of c) c (λ next. cut cs next)

-- what a text says
abbrev pub signs : List ℕ → List Sign
signs text = cut text Nothing

-- a text of these lines
abbrev pub lines : List String → List ℕ
lines [] = []
lines (l ∷ ls) = codes l ++ 10 ∷ lines ls
