-- ClientOrServerExtension: what it stands for, its format and its law.
use Rattle.std.proofs.Common.{arith}
use Rattle.std.specs.Prelude.{◌≡◌, ◌==◌, ◌||◌, ℕ, Bool, true, refl, List, codes}
use Rattle.tls_codec.specs.OwnMessages.{Tree, Number, Empty, Join, Format, values_format, MeetsLaws, tagged_meets, values_meet}
use Rattle.messages_of_each_shape.specs.declared.client_or_server_extension.ClientOrServerExtension.{ClientOrServerExtension}
use Rattle.messages_of_each_shape.specs.declared.client_or_server_extension.ClientOrServerExtension.TheVariants.{Client, Server}

-- the number of each value
abbrev pub client_or_server_extension_code : ClientOrServerExtension → ℕ
client_or_server_extension_code Client = 0
client_or_server_extension_code Server = 1

-- the name of each value
abbrev pub client_or_server_extension_name : ClientOrServerExtension → List ℕ
client_or_server_extension_name Client = codes "client"
client_or_server_extension_name Server = codes "server"

-- whether a value has this number
abbrev pub client_or_server_extension_has : ℕ → Bool
client_or_server_extension_has n = (n == 0) || (n == 1)

pub client_or_server_extension_known : (v : ClientOrServerExtension) → client_or_server_extension_has (client_or_server_extension_code v)
    ≡ true
client_or_server_extension_known Client = refl
client_or_server_extension_known Server = refl

abbrev pub client_or_server_extension_plain : ClientOrServerExtension → Tree
client_or_server_extension_plain v = Join (Number (client_or_server_extension_code v)) Empty

abbrev pub client_or_server_extension_format : Format
client_or_server_extension_format = values_format 1 client_or_server_extension_has

pub client_or_server_extension_meets : MeetsLaws client_or_server_extension_format
client_or_server_extension_meets = tagged_meets 1 (omega arith) (values_meet client_or_server_extension_has)

-- the number of a value, from what the value stands for
abbrev pub client_or_server_extension_selected : Tree → ℕ
client_or_server_extension_selected (Join (Number tag) vs) = tag
client_or_server_extension_selected _ = 0
