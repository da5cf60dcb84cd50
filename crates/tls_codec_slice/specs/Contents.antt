-- Each wrapper as a list of elements or of bytes.
use Rattle.std.specs.Prelude.{ℕ, List}
use Rattle.tls_codec_slice.specs.declared.elements.TlsSliceU8.{TlsSliceU8}
use Rattle.tls_codec_slice.specs.declared.elements.TlsSliceU16.{TlsSliceU16}
use Rattle.tls_codec_slice.specs.declared.elements.TlsSliceU24.{TlsSliceU24}
use Rattle.tls_codec_slice.specs.declared.elements.TlsSliceU32.{TlsSliceU32}
use Rattle.tls_codec_slice.specs.declared.bytes.TlsByteSliceU8.{TlsByteSliceU8}
use Rattle.tls_codec_slice.specs.declared.bytes.TlsByteSliceU16.{TlsByteSliceU16}
use Rattle.tls_codec_slice.specs.declared.bytes.TlsByteSliceU24.{TlsByteSliceU24}
use Rattle.tls_codec_slice.specs.declared.bytes.TlsByteSliceU32.{TlsByteSliceU32}

abbrev pub u8_elements_of : {T : Type 0} → TlsSliceU8 T → List T
u8_elements_of v = v.0.now

abbrev pub u16_elements_of : {T : Type 0} → TlsSliceU16 T → List T
u16_elements_of v = v.0.now

abbrev pub u24_elements_of : {T : Type 0} → TlsSliceU24 T → List T
u24_elements_of v = v.0.now

abbrev pub u32_elements_of : {T : Type 0} → TlsSliceU32 T → List T
u32_elements_of v = v.0.now

abbrev pub u8_bytes_of : TlsByteSliceU8 → List ℕ
u8_bytes_of v = v.0.now

abbrev pub u16_bytes_of : TlsByteSliceU16 → List ℕ
u16_bytes_of v = v.0.now

abbrev pub u24_bytes_of : TlsByteSliceU24 → List ℕ
u24_bytes_of v = v.0.now

abbrev pub u32_bytes_of : TlsByteSliceU32 → List ℕ
u32_bytes_of v = v.0.now
