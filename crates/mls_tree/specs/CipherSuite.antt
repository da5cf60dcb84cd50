-- CipherSuite: what it stands for, its format and its law.
use Rattle.std.specs.Prelude.{◌∷◌, ℕ, List, [], codes}
use Rattle.tls_codec.specs.OwnMessages.{Tree, Number, Format, number_format, MeetsLaws, u16_meets}
use Rattle.mls_tree.specs.declared.cipher_suite.CipherSuite.{CipherSuite}

abbrev pub cipher_suite_plain : CipherSuite → Tree
cipher_suite_plain v = Number v.0

abbrev pub cipher_suite_format : Format
cipher_suite_format = number_format 2

pub cipher_suite_meets : MeetsLaws cipher_suite_format
cipher_suite_meets = u16_meets

-- the numbers that have names
abbrev pub cipher_suite_names : List (ℕ × List ℕ)
cipher_suite_names =
    (1, codes "MLS_128_DHKEMX25519_AES128GCM_SHA256_Ed25519") ∷
    (2, codes "MLS_128_DHKEMP256_AES128GCM_SHA256_P256") ∷
    (3, codes "MLS_128_DHKEMX25519_CHACHA20POLY1305_SHA256_Ed25519") ∷
    (4, codes "MLS_256_DHKEMX448_AES256GCM_SHA512_Ed448") ∷
    (5, codes "MLS_256_DHKEMP521_AES256GCM_SHA512_P521") ∷
    (6, codes "MLS_256_DHKEMX448_CHACHA20POLY1305_SHA512_Ed448") ∷
    (7, codes "MLS_256_DHKEMP384_AES256GCM_SHA384_P384") ∷
    []
