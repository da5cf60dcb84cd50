-- A secret vector as a list of elements.
use Rattle.std.specs.Prelude.{ℕ, List}
use Rattle.std.specs.Vec.{with_item}
use Rattle.tls_codec_secret.specs.declared.list.SecretTlsVec.{SecretTlsVec}

abbrev pub elements_of : {F T : Type 0} → SecretTlsVec F T → List T
elements_of v = v.vec.items

-- v with another element at a place
abbrev pub with_element : {F T : Type 0} → SecretTlsVec F T → ℕ → T → SecretTlsVec F T
with_element v i x = record v { vec = with_item v.vec i x }
