use Rattle.std.proofs.Common.{refl}
use Rattle.tls_presentation.specs.Meaning.{same_bytes}
use Rattle.tls13.specs.PskKeyExchangeMode.{psk_key_exchange_mode_format}
use Rattle.tls13_laws.proofs.Sayings.{psk_key_exchange_mode_saying}
use Rattle.tls13_laws.proofs.laws_l_to_t.psk_key_exchange_mode_is_as_printed.Goals as goal

pub returns-clause-bytes : goal.returns-clause-bytes
returns-clause-bytes c = λ u. same_bytes psk_key_exchange_mode_format

pub returns-clause-values : goal.returns-clause-values
returns-clause-values c = psk_key_exchange_mode_saying

pub returns-clause-names : goal.returns-clause-names
returns-clause-names c = refl
