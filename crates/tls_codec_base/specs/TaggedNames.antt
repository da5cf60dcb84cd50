-- Which errors decoders of a choice with a tag name: those of the parts after it are passed on.
use Rattle.std.specs.Prelude.{◌≡◌, ◌<◌, ◌⊎◌, ◌==◌, ℕ, length, Bool, true, false}
use Rattle.tls_codec_wire.specs.Digits.{Digits}
use Rattle.tls_codec_wire.specs.Seen.{Causes}
use Rattle.tls_codec_wire.specs.Transfer.{ReadRefused}
use Rattle.tls_codec_wire.specs.declared.error.Error.TheVariants.{EndOfStream, UnknownValue}
use Rattle.tls_codec_base.specs.PartNames.{NamedAfter, SliceNames, SourceNamedAfter}

abbrev pub either_names : Bool → SliceNames → SliceNames → SliceNames
either_names true these those = these
either_names false these those = those

abbrev pub either_source_names : Bool → Causes → Causes → Causes
either_source_names true these those = these
either_source_names false these those = those

-- a variant without parts is never refused after its tag
abbrev pub nothing_names : SliceNames
nothing_names x e = ⊥

abbrev pub nothing_source_names : Causes
nothing_source_names x old new e = ⊥

-- a tag that no variant has is named
abbrev pub no_variant_names : ℕ → SliceNames
no_variant_names tag x e = e ≡ UnknownValue tag

abbrev pub no_variant_source_names : ℕ → Causes
no_variant_source_names tag x old new e = e ≡ UnknownValue tag

-- after this tag these errors are named, and after another one those of the others
abbrev pub variant_names : ℕ → SliceNames → (ℕ → SliceNames) → ℕ → SliceNames
variant_names own parts others tag = either_names (tag == own) parts (others tag)

abbrev pub variant_source_names : ℕ → Causes → (ℕ → Causes) → ℕ → Causes
variant_source_names own parts others tag = either_source_names (tag == own) parts (others tag)

-- from a slice: there is no tag in k bytes, or the error is named after one
abbrev pub tagged_names : ℕ → (ℕ → SliceNames) → SliceNames
tagged_names k variants x e = ((e ≡ EndOfStream) × (length x < k)) ⊎ ((tag : ℕ) × NamedAfter (λ s. Digits k s tag) (variants tag) x e)

-- from a source: the tag isn't read, or the error is named after one
abbrev pub tagged_source_names : ℕ → (ℕ → Causes) → Causes
tagged_source_names k variants x old new e =
    ReadRefused k x old new e ⊎ ((tag : ℕ) × SourceNamedAfter (λ s. Digits k s tag) (variants tag) x old new e)
