use Rattle.std.proofs.Common.{sym}
use Rattle.tls_codec.specs.OwnMessages.{u16_meets, values_meet}
use Rattle.tls_codec.proofs.OwnMessages.{tagged_refuses_unknown, value_begins}
use Rattle.messages_of_each_shape.specs.Level.{level_has, level_known}
use Rattle.messages_of_each_shape.proofs.level.LevelDeserializeBytes.tls_deserialize_bytes.Goals as goal

pub returns-in-Some-clause-splits : goal.returns-in-Some-clause-splits
returns-in-Some-clause-splits c =
    value_begins level_has u16_meets (level_known c.in-Some.value)
    (sym c.in-Some.ensures) c.in_ok-tag.ensures.splits

pub returns-in-None-clause-splits : goal.returns-in-None-clause-splits
returns-in-None-clause-splits c =
    let is = c.unknown_value.ensures in
    rw is (tagged_refuses_unknown u16_meets (values_meet level_has)
    c.in_ok-tag.ensures.splits c.in-None.ensures)
