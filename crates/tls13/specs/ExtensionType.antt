-- ExtensionType: what it stands for, its format and its law.
use Rattle.std.specs.Prelude.{◌∷◌, ℕ, List, [], codes}
use Rattle.tls_codec.specs.OwnMessages.{Tree, Number, Format, number_format, MeetsLaws, u16_meets}
use Rattle.tls13.specs.declared.extension_type.ExtensionType.{ExtensionType}

abbrev pub extension_type_plain : ExtensionType → Tree
extension_type_plain v = Number v.0

abbrev pub extension_type_format : Format
extension_type_format = number_format 2

pub extension_type_meets : MeetsLaws extension_type_format
extension_type_meets = u16_meets

-- the numbers that have names
abbrev pub extension_type_names : List (ℕ × List ℕ)
extension_type_names =
    (0, codes "server_name") ∷
    (1, codes "max_fragment_length") ∷
    (5, codes "status_request") ∷
    (10, codes "supported_groups") ∷
    (13, codes "signature_algorithms") ∷
    (14, codes "use_srtp") ∷
    (15, codes "heartbeat") ∷
    (16, codes "application_layer_protocol_negotiation") ∷
    (18, codes "signed_certificate_timestamp") ∷
    (19, codes "client_certificate_type") ∷
    (20, codes "server_certificate_type") ∷
    (21, codes "padding") ∷
    (41, codes "pre_shared_key") ∷
    (42, codes "early_data") ∷
    (43, codes "supported_versions") ∷
    (44, codes "cookie") ∷
    (45, codes "psk_key_exchange_modes") ∷
    (47, codes "certificate_authorities") ∷
    (48, codes "oid_filters") ∷
    (49, codes "post_handshake_auth") ∷
    (50, codes "signature_algorithms_cert") ∷
    (51, codes "key_share") ∷
    []
