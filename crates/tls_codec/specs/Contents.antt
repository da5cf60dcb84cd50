-- For what values of the library's types hold: numbers, bytes and lists of elements. And the names of these types.
pub use Rattle.tls_codec_wire.specs.Uint24.{number_of as uint24_of}
pub use Rattle.tls_codec_wire.specs.VarintValue.{number_of as varint_of}
pub use Rattle.tls_codec_vl.specs.Contents.{bytes_of, vec_bytes_of, slice_bytes_of, secret_bytes_of, secret_vec_bytes_of}
pub use Rattle.tls_codec_vl.specs.Contents.{VLBytes, VLByteVec, SecretVLBytes, SecretVLByteVec}
pub use Rattle.tls_codec_bytes.specs.Contents.{bytes_of as fixed_bytes_of}
pub use Rattle.tls_codec_vec.specs.Contents.{elements_of}
pub use Rattle.tls_codec_secret.specs.Contents.{elements_of as secret_elements_of}
pub use Rattle.tls_codec_vl.specs.declared.var_bytes.VarBytes.{VarBytes}
pub use Rattle.tls_codec_vl.specs.declared.secret_var_bytes.SecretVarBytes.{SecretVarBytes}
pub use Rattle.tls_codec_bytes.specs.declared.bytes.TlsByteVec.{TlsByteVec}
pub use Rattle.tls_codec_vec.specs.declared.list.TlsVec.{TlsVec}
pub use Rattle.tls_codec_secret.specs.declared.list.SecretTlsVec.{SecretTlsVec}
