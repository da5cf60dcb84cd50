use Rattle.view_input.proofs.Hex.{hex_again}
use Rattle.view_input.proofs.text.decode.Goals as goal

pub returns-in-Ok-clause-hex : goal.returns-in-Ok-clause-hex
returns-in-Ok-clause-hex c = rw (← c.in_ok-digits.ensures) (hex_again _ _ c.in-Ok.ensures.ok)
