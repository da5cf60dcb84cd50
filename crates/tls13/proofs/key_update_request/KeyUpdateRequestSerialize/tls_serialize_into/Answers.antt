use Rattle.tls_codec.specs.OwnMessages.{u8_meets}
use Rattle.tls_codec.proofs.OwnMessages.{value_appends}
use Rattle.tls13.specs.KeyUpdateRequest.{key_update_request_has, key_update_request_known}
use Rattle.tls13.proofs.key_update_request.KeyUpdateRequestSerialize.tls_serialize_into.Goals as goal

pub returns-clause-appends : goal.returns-clause-appends
returns-clause-appends c =
    value_appends key_update_request_has u8_meets (key_update_request_known c.args.self.now) c.code.ensures _ _ _
    c.tls_serialize_into.ensures.appends
