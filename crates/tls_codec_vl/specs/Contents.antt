-- Each type as a list of bytes.
use Rattle.std.specs.Prelude.{ℕ, List}
use Rattle.tls_codec_vl.specs.declared.names.SecretVLBytesName.{SecretVLBytesName}
use Rattle.tls_codec_vl.specs.declared.names.SecretVLByteVecName.{SecretVLByteVecName}
use Rattle.tls_codec_vl.specs.declared.names.VLBytesName.{VLBytesName}
use Rattle.tls_codec_vl.specs.declared.names.VLByteVecName.{VLByteVecName}
use Rattle.tls_codec_vl.specs.declared.secret_var_bytes.SecretVarBytes.{SecretVarBytes}
use Rattle.tls_codec_vl.specs.declared.var_bytes.VarBytes.{VarBytes}
use Rattle.tls_codec_vl.specs.declared.vl_byte_slice.VLByteSlice.{VLByteSlice}

-- the types by their names
abbrev pub VLBytes : Type 0
VLBytes = VarBytes VLBytesName

abbrev pub VLByteVec : Type 0
VLByteVec = VarBytes VLByteVecName

abbrev pub SecretVLBytes : Type 0
SecretVLBytes = SecretVarBytes SecretVLBytesName

abbrev pub SecretVLByteVec : Type 0
SecretVLByteVec = SecretVarBytes SecretVLByteVecName

abbrev pub bytes_of : {N : Type 0} → VarBytes N → List ℕ
bytes_of v = v.vec.items

abbrev pub vec_bytes_of : VLByteVec → List ℕ
vec_bytes_of v = bytes_of v

abbrev pub slice_bytes_of : VLByteSlice → List ℕ
slice_bytes_of v = v.0.now

abbrev pub secret_bytes_of : {N : Type 0} → SecretVarBytes N → List ℕ
secret_bytes_of v = bytes_of v.0

abbrev pub secret_vec_bytes_of : SecretVLByteVec → List ℕ
secret_vec_bytes_of v = secret_bytes_of v
