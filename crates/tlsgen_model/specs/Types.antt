-- The types that a field may have.
use Rattle.std.specs.Prelude.{ℕ, Bool, true, false, ◌==◌, ◌&&◌, ◌||◌, ◌^◌, IsTrue, nat_lt, nat_le}
use Rattle.tlsgen_model.specs.declared.plan.«Type».{«Type» as FieldType}
use Rattle.tlsgen_model.specs.declared.plan.Element.{Element}
use Rattle.tlsgen_model.specs.declared.plan.Element.TheVariants.{Integer, Opaque, Text, Message, Alias}
use Rattle.tlsgen_model.specs.declared.plan.Shape.{Shape}
use Rattle.tlsgen_model.specs.declared.plan.Shape.TheVariants.{One, Array, Exact, Variable, Bounded}

abbrev pub is_integer_width : ℕ → Bool
is_integer_width width = (width == 1) || (width == 2) || (width == 3) || (width == 4) || (width == 8)

-- an array of 1 to 65535 bytes; a length of 1 to 4 bytes that holds the most
abbrev pub is_shape : Shape → Bool
is_shape One = true
is_shape (Array count) = nat_lt 0 count && nat_le count 65535
is_shape (Exact count) = nat_lt 0 count && nat_le count 65535
is_shape Variable = true
is_shape (Bounded width least most) =
    nat_lt 0 width && nat_le width 4 && nat_le least most && nat_lt most (256 ^ width)

abbrev pub is_one : Shape → Bool
is_one One = true
is_one (Array _) = false
is_one (Exact _) = false
is_one Variable = false
is_one (Bounded _ _ _) = false

-- a fixed number of bytes, or after a length
abbrev pub is_vector : Shape → Bool
is_vector One = false
is_vector (Array _) = true
is_vector (Exact _) = true
is_vector Variable = true
is_vector (Bounded _ _ _) = true

-- no array of bytes
abbrev pub is_no_array : Shape → Bool
is_no_array One = true
is_no_array (Array _) = false
is_no_array (Exact _) = true
is_no_array Variable = true
is_no_array (Bounded _ _ _) = true

-- which element is in which shape: bytes in a vector, text alone, and in an array of bytes bytes alone
abbrev pub can_be : Element → Bool → Shape → Bool
can_be (Integer width) _ shape = is_integer_width width && is_no_array shape
can_be Opaque true _ = false
can_be Opaque false shape = is_vector shape
can_be Text _ shape = is_one shape
can_be (Message _) _ shape = is_no_array shape
can_be (Alias _) _ shape = is_no_array shape

abbrev pub IsType : FieldType → Type 0
IsType of = IsTrue (is_shape of.shape) × IsTrue (can_be of.element of.is_optional of.shape)
