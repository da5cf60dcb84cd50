use Rattle.std.proofs.Common.{sym}
use Rattle.tls_codec.specs.OwnMessages.{u8_meets, values_meet}
use Rattle.tls_codec.proofs.OwnMessages.{tagged_refuses_unknown, value_begins}
use Rattle.tls13.specs.ContentTypeApplicationData.{content_type_application_data_has, content_type_application_data_known}
use Rattle.tls13.proofs.content_type_application_data.ContentTypeApplicationDataDeserializeBytes.tls_deserialize_bytes.Goals as goal

pub returns-in-Some-clause-splits : goal.returns-in-Some-clause-splits
returns-in-Some-clause-splits c =
    value_begins content_type_application_data_has u8_meets (content_type_application_data_known c.in-Some.value)
    (sym c.in-Some.ensures) c.in_ok-tag.ensures.splits

pub returns-in-None-clause-splits : goal.returns-in-None-clause-splits
returns-in-None-clause-splits c =
    let is = c.unknown_value.ensures in
    rw is (tagged_refuses_unknown u8_meets (values_meet content_type_application_data_has)
    c.in_ok-tag.ensures.splits c.in-None.ensures)
