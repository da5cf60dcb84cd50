-- Why decoders never return `TrailingData`: only a part can name it.
use Rattle.std.proofs.Common.{ℕ, inl, inr, refl}
use Rattle.tls_codec_wire.specs.Seen.{Causes}
use Rattle.tls_codec_wire.specs.declared.error.Error.TheVariants.{TrailingData}
use Rattle.tls_codec_grammar.specs.Field.{Field}
use Rattle.tls_codec_grammar.specs.Format.{Format}
use Rattle.tls_codec_grammar.specs.Lawful.{MeetsFieldLaws}
use Rattle.tls_codec_grammar.specs.Opaque.{OpaqueCopyRefused, OpaqueRefused, OpaqueSourceRefused, TextRefused, TextSourceRefused}
use Rattle.tls_codec_grammar.specs.laws.FormatLaws.{variable_field_meets}
use Rattle.tls_codec_base.specs.PartNames.{SliceNames, box_names, box_source_names, counted_list_names, counted_list_source_names, element_names, element_source_names, elements_names, elements_source_names, fields_names, fields_source_names, option_names, option_source_names}
use Rattle.tls_codec_base.specs.Trailing.{NeverTrailing, SourceNeverTrailing}

-- ---- from a slice

pub box_never : (content : Format) (names : SliceNames) → NeverTrailing names → NeverTrailing (box_names content names)
box_never content names never x (inl p) = let h = p.0 in cc
box_never content names never x (inr p) = never x p

pub option_never : (payload : SliceNames) → NeverTrailing payload → NeverTrailing (option_names payload)
option_never payload never x (inl p) = let h = p.1 in cc
option_never payload never x (inr (inl p)) = p.named
option_never payload never x (inr (inr p)) = never p.rest p.named

pub fields_never : (part : Format) (first others : SliceNames) → NeverTrailing first → NeverTrailing others → NeverTrailing (fields_names part first others)
fields_never part first others never_first never_others x (inl p) = never_first x p.1
fields_never part first others never_first never_others x (inr p) = never_others p.rest p.named

element_never : (element : Format) (names : SliceNames) → NeverTrailing names → (left : ℕ) → NeverTrailing (element_names element names left)
element_never element names never left x (inl p) = never x p.1
element_never element names never left x (inr (inl p)) = p.0
element_never element names never left x (inr (inr (inl p))) = p.0
element_never element names never left x (inr (inr (inr p))) = let h = p.0 in cc

elements_never : (element : Format) (names : SliceNames) → NeverTrailing names → (n : ℕ) → NeverTrailing (elements_names element names n)
elements_never element names never n x p = element_never element names never p.0 p.1.rest p.1.named

pub list_never : {field : Field} (element : Format) (names : SliceNames) → MeetsFieldLaws field → NeverTrailing names → NeverTrailing (counted_list_names field element names)
list_never element names m never x (inl p) = (m.named x TrailingData p).1 refl
list_never element names m never x (inr p) = elements_never element names never p.0 p.1.rest p.1.named

bytes_never : {field : Field} → MeetsFieldLaws field → NeverTrailing (OpaqueRefused field)
bytes_never m x (inl p) = (m.named x TrailingData p).1 refl
bytes_never m x (inr p) = (m.cut TrailingData p.0).1 refl

pub copy_never : {field : Field} → MeetsFieldLaws field → NeverTrailing (OpaqueCopyRefused field)
copy_never m x (inl p) = let h = p.0 in cc
copy_never m x (inr p) = bytes_never m x p

pub text_never : NeverTrailing TextRefused
text_never x (inl p) = let h = p.0 in cc
text_never x (inr (inl p)) = bytes_never variable_field_meets x p
text_never x (inr (inr p)) = p.0

-- ---- from a source

pub box_source_never : (content : Format) (names : Causes) → SourceNeverTrailing names → SourceNeverTrailing (box_source_names content names)
box_source_never content names never x old new (inl p) = let h = p.0 in cc
box_source_never content names never x old new (inr p) = never x old new p

pub option_source_never : (payload : Causes) → SourceNeverTrailing payload → SourceNeverTrailing (option_source_names payload)
option_source_never payload never x old new (inl p) = p
option_source_never payload never x old new (inr (inl p)) = p.named
option_source_never payload never x old new (inr (inr p)) = never p.rest p.between new p.named

pub fields_source_never : (part : Format) (first others : Causes) → SourceNeverTrailing first → SourceNeverTrailing others → SourceNeverTrailing (fields_source_names part first others)
fields_source_never part first others never_first never_others x old new (inl p) = never_first x old new p.1
fields_source_never part first others never_first never_others x old new (inr p) = never_others p.rest p.between new p.named

element_source_never : (element : Format) (names : Causes) → SourceNeverTrailing names → (left : ℕ) → SourceNeverTrailing (element_source_names element names left)
element_source_never element names never left x old new (inl p) = never _ old new p.1
element_source_never element names never left x old new (inr p) = p.0

elements_source_never : (element : Format) (names : Causes) → SourceNeverTrailing names → (n : ℕ) → SourceNeverTrailing (elements_source_names element names n)
elements_source_never element names never n x old new (inl p) = cc
elements_source_never element names never n x old new (inr p) = element_source_never element names never p.0 p.1.rest p.1.between new p.1.named

pub list_source_never : {field : Field} (element : Format) (names : Causes) → MeetsFieldLaws field → SourceNeverTrailing names → SourceNeverTrailing (counted_list_source_names field element names)
list_source_never element names m never x old new (inl p) = (m.named x TrailingData p).1 refl
list_source_never element names m never x old new (inr p) = elements_source_never element names never p.0 p.1.rest p.1.between new p.1.named

pub bytes_source_never : {field : Field} → MeetsFieldLaws field → SourceNeverTrailing (OpaqueSourceRefused field)
bytes_source_never m x old new p = (m.named x TrailingData p).1 refl

pub text_source_never : SourceNeverTrailing TextSourceRefused
text_source_never x old new (inl p) = bytes_source_never variable_field_meets x old new p
text_source_never x old new (inr p) = p.0
