-- KeyShareHelloRetryRequest: what it stands for, its format and its law.
use Rattle.tls_codec.specs.OwnMessages.{Tree, Format, MeetsLaws}
use Rattle.tls13.specs.NamedGroup.{named_group_plain, named_group_format, named_group_meets}
use Rattle.tls13.specs.declared.key_share_hello_retry_request.KeyShareHelloRetryRequest.{KeyShareHelloRetryRequest}

abbrev pub key_share_hello_retry_request_plain : KeyShareHelloRetryRequest → Tree
key_share_hello_retry_request_plain v = named_group_plain v.selected_group

abbrev pub key_share_hello_retry_request_format : Format
key_share_hello_retry_request_format = named_group_format

pub key_share_hello_retry_request_meets : MeetsLaws key_share_hello_retry_request_format
key_share_hello_retry_request_meets = named_group_meets
