-- What is printed of some bytes.
use Rattle.std.specs.Prelude.{◌≡◌, ◌≢◌, ℕ, Bool, true, false, List, [], ◌∷◌, ◌++◌, codes}
use Rattle.hex.specs.Hex.{encode_lower}
use Rattle.tls_codec.specs.OwnMessages.{Tree}
use Rattle.tls_codec.specs.Calls.{Error}
use Rattle.tls_codec.specs.Errors.{OutOfMemory, name_of}
use Rattle.tls_codec.specs.Spellings.{Grammar, IsShortest, Begins, NoneBegins}
use Rattle.tlsview_run.specs.Texts.{hex_or_dash}

-- ---- lines

abbrev pub line_feed : List ℕ
line_feed = 10 ∷ []

-- `PATH ok VALUE rest HEX`
abbrev pub ok_line : List ℕ → List ℕ → List ℕ → List ℕ
ok_line path value rest = path ++ codes " ok " ++ value ++ codes " rest " ++ hex_or_dash rest ++ line_feed

-- `PATH refused NAME`
abbrev pub refused_line : List ℕ → List ℕ → List ℕ
refused_line path name = path ++ codes " refused " ++ name ++ line_feed

-- `least HEX`
abbrev pub least_line : List ℕ → List ℕ
least_line form = codes "least " ++ hex_or_dash form ++ line_feed

-- the line of v's shortest form comes after what was there
pub record AppendsLeast (spells : Grammar) (v : Tree) (old new : List ℕ) : Type 0 where
  pub form : List ℕ
  pub shortest : IsShortest spells form v
  pub shown : new ≡ old ++ least_line form

-- ---- views

-- the name of an error that speaks of the bytes, as all but `OutOfMemory` do
pub record NamesRefusal (name : List ℕ) : Type 0 where
  pub error : Error
  pub named : name ≡ name_of error
  pub of_bytes : error ≢ OutOfMemory

-- the bytes x are the shortest form of a value and a rest, and so is their hex; the lines show the value and the rest by
-- both paths, and then the value's shortest form
pub record IsAcceptance (spells : Grammar) (text : Tree → List ℕ) (x lines : List ℕ) : Type 0 where
  pub value : Tree
  pub rest : List ℕ
  pub least : List ℕ
  pub begins : Begins spells x value rest
  pub shortest : IsShortest spells least value
  pub encoding : x ≡ least ++ rest
  pub hex : encode_lower least ++ encode_lower rest ≡ encode_lower x
  pub shown : lines ≡ ok_line (codes "slice") (text value) rest ++ ok_line (codes "reader") (text value) rest ++ least_line least

-- the bytes x begin with no spelling, and the lines show the name of an error of each path
pub record IsRefusal (spells : Grammar) (x lines : List ℕ) : Type 0 where
  pub none : NoneBegins spells x
  pub by_slice : List ℕ
  pub by_reader : List ℕ
  pub slice_named : NamesRefusal by_slice
  pub reader_named : NamesRefusal by_reader
  pub shown : lines ≡ refused_line (codes "slice") by_slice ++ refused_line (codes "reader") by_reader

-- what may be printed of some bytes, and whether they are accepted
abbrev pub Views : Type 1
Views = List ℕ → Bool → List ℕ → Type 0

-- the lines are the view of the bytes x
abbrev pub IsView : Grammar → (Tree → List ℕ) → Views
IsView spells text x true lines = IsAcceptance spells text x lines
IsView spells text x false lines = IsRefusal spells x lines
