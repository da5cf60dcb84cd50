-- Which errors decoders of options, products and lists name: their parts' are passed on.
use Rattle.std.specs.Prelude.{◌≡◌, ◌<◌, ◌+◌, ◌⊎◌, ℕ, List, [], ◌∷◌, ◌++◌, length, take, codes}
use Rattle.tls_codec_wire.specs.Bounded.{inner_of, limit_of}
use Rattle.tls_codec_wire.specs.Counts.{Counts, NoneFell}
use Rattle.tls_codec_wire.specs.declared.bounded.Bounded.{Bounded}
use Rattle.tls_codec_wire.specs.declared.device.Source.{Ghosts}
use Rattle.tls_codec_wire.specs.Numbers.{NumberNotRead}
use Rattle.tls_codec_wire.specs.Seen.{Causes, Seen}
use Rattle.tls_codec_wire.specs.Transfer.{EndRefused, ReadRefused}
use Rattle.tls_codec_wire.specs.declared.error.Error.{Error}
use Rattle.tls_codec_wire.specs.declared.error.Error.TheVariants.{EndOfStream, OutOfMemory}
use Rattle.tls_codec_grammar.specs.Tree.{Tree}
use Rattle.tls_codec_grammar.specs.Grammar.{Grammar, Reading, content}
use Rattle.tls_codec_grammar.specs.Errors.{Says}
use Rattle.tls_codec_grammar.specs.Field.{Field, variable_field}
use Rattle.tls_codec_grammar.specs.Format.{Format, content_format, sized_format}
use Rattle.tls_codec_grammar.specs.Shortest.{IsHollow}
use Rattle.tls_codec_grammar.specs.Decoding.{Begins, Named, NoMemoryFor, Refuses, part_source_names}

-- which errors are named, by the bytes
abbrev pub SliceNames : Type 1
SliceNames = List ℕ → Error → Type 0

-- a part refuses the bytes, with an error that it names
abbrev pub part_names : Format → SliceNames → SliceNames
part_names part names x e = Refuses part.spells part.lean x e × names x e

-- ---- what is named after a prefix

-- x has such a front, and the error is one that is named of the rest
pub record NamedAfter (Front : List ℕ → Type 0) (names : SliceNames) (x : List ℕ) (e : Error) : Type 0 where
  pub front : List ℕ
  pub rest : List ℕ
  pub whole : x ≡ front ++ rest
  pub is_front : Front front
  pub named : names rest e

-- the same from a source after x was seen of it, by the counts in between; no count had fallen
pub record SourceNamedAfter (Front : List ℕ → Type 0) (names : Causes) (x : List ℕ) (old new : Counts) (e : Error) : Type 0 where
  pub front : List ℕ
  pub rest : List ℕ
  pub between : Counts
  pub whole : x ≡ front ++ rest
  pub is_front : Front front
  pub fell : NoneFell old between
  pub named : names rest between new e

-- x begins with a length n of this field, and the error is one that n names of the rest
abbrev pub NamedAfterLength : Field → (ℕ → SliceNames) → SliceNames
NamedAfterLength field names x e = (n : ℕ) × NamedAfter (λ s. field.spells s n) (names n) x e

-- the same from a source
abbrev pub SourceNamedAfterLength : Field → (ℕ → Causes) → Causes
SourceNamedAfterLength field names x old new e = (n : ℕ) × SourceNamedAfter (λ s. field.spells s n) (names n) x old new e

-- ---- boxes

-- from a slice: the content is there, and there was no memory for the box; or the content is refused
abbrev pub box_names : Format → SliceNames → SliceNames
box_names content names x e = NoMemoryFor content.spells x e ⊎ names x e

-- the same from a source
abbrev pub box_source_names : Format → Causes → Causes
box_source_names content names x old new e = NoMemoryFor content.spells x e ⊎ names x old new e

-- ---- options

-- the byte that the payload follows
abbrev pub IsPayloadTag : List ℕ → Type 0
IsPayloadTag s = s ≡ 1 ∷ []

-- a byte that is no tag
abbrev pub IsOtherByte : List ℕ → Type 0
IsOtherByte s = (tag : ℕ) × (s ≡ tag ∷ []) × (1 < tag)

-- the refusal of such a byte
abbrev pub IsOtherTag : Error → Type 0
IsOtherTag = Says (codes "option tag is not 0 or 1")

-- from a slice: there is no tag, it is another one, or after the tag 1 the payload is refused
abbrev pub option_names : SliceNames → SliceNames
option_names payload x e =
    ((x ≡ []) × (e ≡ EndOfStream)) ⊎ (NamedAfter IsOtherByte (λ rest error. IsOtherTag error) x e ⊎ NamedAfter IsPayloadTag payload x e)

-- from a source: the tag isn't read, it is another one, or after the tag 1 the payload is refused
abbrev pub option_source_names : Causes → Causes
option_source_names payload x old new e =
    ReadRefused 1 x old new e
    ⊎ (SourceNamedAfter IsOtherByte (λ rest before after error. IsOtherTag error) x old new e
    ⊎ SourceNamedAfter IsPayloadTag payload x old new e)

-- ---- products

-- these bytes spell a value
abbrev pub IsSpelling : Grammar → List ℕ → Type 0
IsSpelling spells s = (v : Tree) × spells Reading s v

-- from a slice: the first part is refused, or after a spelling of it the others are
abbrev pub fields_names : Format → (first others : SliceNames) → SliceNames
fields_names part first others x e = part_names part first x e ⊎ NamedAfter (IsSpelling part.spells) others x e

-- the same from a source
abbrev pub fields_source_names : Format → (first others : Causes) → Causes
fields_source_names part first others x old new e =
    part_source_names part first x old new e ⊎ SourceNamedAfter (IsSpelling part.spells) others x old new e

-- ---- the end of a source

-- the source gave, or reported, a spelling of v and no more
pub record SawSpelling {S : Type 0} (source : Ghosts S) (spells : Grammar) (old new : S) (v : Tree) : Type 0 where
  pub bytes : List ℕ
  pub seen : Seen source old new bytes
  pub spelled : spells Reading bytes v

-- no value is read, or the source isn't at its end after one
abbrev pub to_end_names : Format → Causes → Causes
to_end_names f names x old new e =
    part_source_names f names x old new e ⊎ SourceNamedAfter (IsSpelling f.spells) EndRefused x old new e

-- ---- lists

-- elements in a row, of n bytes except those that are left
pub record IsRun (spells : Grammar) (n left : ℕ) (s : List ℕ) : Type 0 where
  pub elements : IsSpelling (content spells) s
  pub fills : length s + left ≡ n
  pub some : 0 < left

-- an element has no bytes
abbrev pub IsEmptyElement : Grammar → Error → Type 0
IsEmptyElement spells e = Says (codes "vector element consumed 0 bytes") e × IsHollow spells

-- the element that begins x has more bytes than are left
pub record Overruns (spells : Grammar) (left : ℕ) (x : List ℕ) : Type 0 where
  pub value : Tree
  pub rest : List ℕ
  pub begins : Begins spells x value rest
  pub long : left < length begins.front

-- the element that begins x isn't taken: it is refused, has no bytes, passes the end, or there was no memory for it
abbrev pub element_names : Format → SliceNames → ℕ → SliceNames
element_names element names left x e =
    part_names element names x e
    ⊎ (IsEmptyElement element.spells e
    ⊎ ((Says (codes "elements do not fill the declared length") e × Overruns element.spells left x)
    ⊎ NoMemoryFor element.spells x e))

-- from a slice: after some elements the next one isn't taken
abbrev pub elements_names : Format → SliceNames → ℕ → SliceNames
elements_names element names n x e = (left : ℕ) × NamedAfter (IsRun element.spells n left) (element_names element names left) x e

-- from a source: an element is refused that ends where the list does
abbrev pub element_source_names : Format → Causes → ℕ → Causes
element_source_names element names left x old new e =
    part_source_names element names (take left x) old new e ⊎ IsEmptyElement element.spells e

-- from a source: there was no memory, or after some elements the next one isn't taken
abbrev pub elements_source_names : Format → Causes → ℕ → Causes
elements_source_names element names n x old new e =
    (e ≡ OutOfMemory)
    ⊎ ((left : ℕ) × SourceNamedAfter (IsRun element.spells n left) (element_source_names element names left) x old new e)

-- the elements up to a source's limit are refused so
abbrev pub NamedWithin : {S : Type 0} → Format → Causes → Ghosts S → Bounded S → Bounded S → Error → Type 0
NamedWithin element names source old new e =
    Named (sized_format (limit_of old) (content_format element)) (elements_source_names element names (limit_of old)) source (inner_of old) (inner_of new) e

-- from a slice: the length is refused, or after a length the elements are refused
abbrev pub counted_list_names : Field → Format → SliceNames → SliceNames
counted_list_names field element names x e =
    field.refuses x e ⊎ NamedAfterLength field (elements_names element names) x e

-- from a source: the length isn't read, or after it the elements are refused
abbrev pub counted_list_source_names : Field → Format → Causes → Causes
counted_list_source_names field element names x old new e =
    NumberNotRead field.refuses x old new e
    ⊎ SourceNamedAfterLength field (elements_source_names element names) x old new e

-- the same of lists after a variable-length integer
abbrev pub list_names : Format → SliceNames → SliceNames
list_names element names = counted_list_names variable_field element names

abbrev pub list_source_names : Format → Causes → Causes
list_source_names element names = counted_list_source_names variable_field element names
