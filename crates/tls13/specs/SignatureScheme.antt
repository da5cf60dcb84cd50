-- SignatureScheme: what it stands for, its format and its law.
use Rattle.std.specs.Prelude.{◌∷◌, ℕ, List, [], codes}
use Rattle.tls_codec.specs.OwnMessages.{Tree, Number, Format, number_format, MeetsLaws, u16_meets}
use Rattle.tls13.specs.declared.signature_scheme.SignatureScheme.{SignatureScheme}

abbrev pub signature_scheme_plain : SignatureScheme → Tree
signature_scheme_plain v = Number v.0

abbrev pub signature_scheme_format : Format
signature_scheme_format = number_format 2

pub signature_scheme_meets : MeetsLaws signature_scheme_format
signature_scheme_meets = u16_meets

-- the numbers that have names
abbrev pub signature_scheme_names : List (ℕ × List ℕ)
signature_scheme_names =
    (1025, codes "rsa_pkcs1_sha256") ∷
    (1281, codes "rsa_pkcs1_sha384") ∷
    (1537, codes "rsa_pkcs1_sha512") ∷
    (1027, codes "ecdsa_secp256r1_sha256") ∷
    (1283, codes "ecdsa_secp384r1_sha384") ∷
    (1539, codes "ecdsa_secp521r1_sha512") ∷
    (2052, codes "rsa_pss_rsae_sha256") ∷
    (2053, codes "rsa_pss_rsae_sha384") ∷
    (2054, codes "rsa_pss_rsae_sha512") ∷
    (2055, codes "ed25519") ∷
    (2056, codes "ed448") ∷
    (2057, codes "rsa_pss_pss_sha256") ∷
    (2058, codes "rsa_pss_pss_sha384") ∷
    (2059, codes "rsa_pss_pss_sha512") ∷
    (513, codes "rsa_pkcs1_sha1") ∷
    (515, codes "ecdsa_sha1") ∷
    (514, codes "dsa_sha1_RESERVED") ∷
    (1026, codes "dsa_sha256_RESERVED") ∷
    (1282, codes "dsa_sha384_RESERVED") ∷
    (1538, codes "dsa_sha512_RESERVED") ∷
    []
