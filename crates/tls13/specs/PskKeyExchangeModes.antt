-- PskKeyExchangeModes: what it stands for, its format and its law.
use Rattle.std.proofs.Common.{arith}
use Rattle.tls_codec.specs.OwnMessages.{Tree, trees, Format, bounded_list_format, MeetsLaws, bounded_list_meets}
use Rattle.tls_codec.specs.Contents.{elements_of}
use Rattle.tls13.specs.PskKeyExchangeMode.{psk_key_exchange_mode_plain, psk_key_exchange_mode_format, psk_key_exchange_mode_meets}
use Rattle.tls13.specs.declared.psk_key_exchange_modes.PskKeyExchangeModes.{PskKeyExchangeModes}

abbrev pub psk_key_exchange_modes_plain : PskKeyExchangeModes → Tree
psk_key_exchange_modes_plain v = trees psk_key_exchange_mode_plain (elements_of v.ke_modes)

abbrev pub psk_key_exchange_modes_format : Format
psk_key_exchange_modes_format = bounded_list_format 1 1 255 psk_key_exchange_mode_format

pub psk_key_exchange_modes_meets : MeetsLaws psk_key_exchange_modes_format
psk_key_exchange_modes_meets = bounded_list_meets 1 1 255 (omega arith) psk_key_exchange_mode_meets
