-- The functions whose goals have answers.
use Rattle.std.specs.Prelude.{ℕ, List, codes}
use Rattle.tlsgen_model.specs.declared.emitted.Answered.{Answered}
use Rattle.tlsgen_model.specs.declared.emitted.Answered.TheVariants.{Writes, Appends, Reads, Splits, Validates}

abbrev pub trait_of : Answered → List ℕ
trait_of Writes = codes "Serialize"
trait_of Appends = codes "Serialize"
trait_of Reads = codes "Deserialize"
trait_of Splits = codes "DeserializeBytes"
trait_of Validates = codes "Validate"

abbrev pub function_of : Answered → List ℕ
function_of Writes = codes "tls_serialize"
function_of Appends = codes "tls_serialize_into"
function_of Reads = codes "tls_deserialize"
function_of Splits = codes "tls_deserialize_bytes"
function_of Validates = codes "tls_validate_prefix"
