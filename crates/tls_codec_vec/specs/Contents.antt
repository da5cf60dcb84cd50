-- A vector as a list of elements.
use Rattle.std.specs.Prelude.{◌≡◌, ℕ, List}
use Rattle.std.specs.List.{All}
use Rattle.std.specs.Vec.{with_item}
use Rattle.tls_codec_vec.specs.declared.list.TlsVec.{TlsVec}

abbrev pub elements_of : {F T : Type 0} → TlsVec F T → List T
elements_of v = v.vec.items

-- v with another element at a place
abbrev pub with_element : {F T : Type 0} → TlsVec F T → ℕ → T → TlsVec F T
with_element v i x = record v { vec = with_item v.vec i x }

-- a clone of each element equals it
abbrev pub ClonesAreEqual : {T : Type 0} → (T → T → Type 0) → List T → Type 0
ClonesAreEqual {T} is_clone elements = All (λ x. (y : T) → is_clone x y → y ≡ x) elements
