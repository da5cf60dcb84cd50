-- What each_shape.tls says: the definitions, the notes, and the text that they are.
use Rattle.std.specs.Prelude.{List, [], ◌∷◌, true, codes}
use Rattle.tls_presentation.specs.Definition.{Numeral, One, Array, Variable, Bounded, Bytes, Width, Bare, Ended, Plain, Own, Definition, Enum, Struct, Alias, Note, CountsRest, FillsRest, Ends, Equals, IsClosed, Has, field, optional, has, is_a, constant, counted, value, case, cases_of, select, called, enum, struct}
use Rattle.tls_presentation.specs.Meaning.{Text, text_of}

abbrev pub key_definition : Definition
key_definition = Alias (field "opaque" "Key" Variable)

abbrev pub extension_type_definition : Definition
extension_type_definition = Alias (field "uint16" "ExtensionType" One)

abbrev pub row_definition : Definition
row_definition = Alias (field "uint16" "Row" Variable)

abbrev pub level_definition : Definition
level_definition = enum
    (value "low" 1 ∷ value "middle" 256 ∷ value "high" 65535 ∷ [])
    "Level"

abbrev pub name_type_definition : Definition
name_type_definition = Enum true
    (value "host_name" 0 ∷ Width 255 ∷ [])
    (codes "NameType")

abbrev pub identity_type_definition : Definition
identity_type_definition = enum
    (value "reserved" 0 ∷ value "full" 4 ∷ value "anonymous" 5 ∷ Width 65535 ∷ [])
    "IdentityType"

abbrev pub identity_definition : Definition
identity_definition = struct
    (Plain (field "IdentityType" "identity_type" One) ∷
    select "Identity.identity_type"
    (case "full" (has "NameType" "name_type" One ∷ has "Level" "level" One ∷ has "Key" "key" One ∷ has "uint32" "since" One ∷ Has (optional "Key" "last" One) ∷ []) ∷
    case "anonymous" [] ∷
    [])
    Ended ∷
    [])
    "Identity"

abbrev pub content_type_definition : Definition
content_type_definition = enum
    (value "reserved" 0 ∷ value "application" 1 ∷ value "proposal" 2 ∷ Width 255 ∷ [])
    "ContentType"

abbrev pub framed_definition : Definition
framed_definition = struct
    (Plain (field "uint32" "epoch" One) ∷
    Plain (field "ContentType" "content_type" One) ∷
    Plain (field "opaque" "authenticated_data" Variable) ∷
    select "Framed.content_type"
    (case "application" (has "opaque" "application_data" Variable ∷ []) ∷
    case "proposal" (has "opaque" "proposal" Variable ∷ has "uint8" "level" One ∷ []) ∷
    [])
    Ended ∷
    Plain (field "opaque" "signature" Variable) ∷
    [])
    "Framed"

abbrev pub wide_definition : Definition
wide_definition = struct
    (Plain (field "uint8" "a" One) ∷
    Plain (field "uint24" "b" One) ∷
    Plain (field "uint32" "c" One) ∷
    Plain (field "uint64" "d" One) ∷
    Plain (field "opaque" "e" (Array 16)) ∷
    Plain (field "opaque" "f" (Bounded 0 255)) ∷
    Plain (field "opaque" "g" (Bounded 0 65535)) ∷
    Plain (field "opaque" "h" (Bounded 0 16777215)) ∷
    Plain (field "opaque" "i" (Bounded 0 4294967295)) ∷
    Plain (field "Key" "j" (Bounded 0 65535)) ∷
    Plain (field "string" "k" One) ∷
    Plain (optional "uint16" "l" One) ∷
    [])
    "Wide"

abbrev pub lists_definition : Definition
lists_definition = struct
    (Plain (field "uint16" "octets" (Bounded 0 255)) ∷
    Plain (field "Level" "levels" (Bounded 0 65535)) ∷
    Plain (field "Key" "keys" (Bounded 0 16777215)) ∷
    Plain (field "Identity" "identities" (Bounded 0 4294967295)) ∷
    Plain (field "Row" "rows" Variable) ∷
    Plain (field "ExtensionType" "kind" One) ∷
    Plain (field "NameType" "names" Variable) ∷
    Plain (field "Row" "row" One) ∷
    [])
    "Lists"

abbrev pub bounded_definition : Definition
bounded_definition = struct
    (Plain (field "opaque" "session" (Bounded 0 32)) ∷
    Plain (field "uint16" "suites" (Bounded 2 65534)) ∷
    [])
    "Bounded"

abbrev pub node_source_definition : Definition
node_source_definition = enum
    (value "reserved" 0 ∷ value "update" 2 ∷ value "commit" 3 ∷ value "external" 4 ∷ Width 255 ∷ [])
    "NodeSource"

abbrev pub node_tbs_definition : Definition
node_tbs_definition = Struct true
    (Own (Plain (field "Key" "key" One)) ∷
    Own (Plain (field "NodeSource" "node_source" One)) ∷
    Own (select "NodeTBS.node_source"
    (case "update" [] ∷
    case "commit" (has "opaque" "parent_hash" Variable ∷ has "uint8" "level" One ∷ []) ∷
    case "external" (has "Key" "signature_key" One ∷ []) ∷
    [])
    (called "NodeTBSOrigin")) ∷
    Own (Plain (optional "Key" "last" One)) ∷
    [])
    (codes "NodeTBS")

abbrev pub header_definition : Definition
header_definition = struct
    (Plain (field "uint16" "version" One) ∷
    Plain (field "opaque" "rest" Variable) ∷
    [])
    "Header"

abbrev pub by_version_definition : Definition
by_version_definition = struct
    (select "Header.version"
    (cases_of (Numeral 1) [] (has "uint8" "short" One ∷ []) ∷
    cases_of (Numeral 2) [] (has "uint32" "long" One ∷ has "opaque" "tail" Variable ∷ has "uint8" "last" One ∷ []) ∷
    cases_of (Numeral 3) [] [] ∷
    [])
    Ended ∷
    [])
    "ByVersion"

abbrev pub certificate_type_definition : Definition
certificate_type_definition = enum
    (value "X509" 0 ∷ value "RawPublicKey" 2 ∷ Width 255 ∷ [])
    "CertificateType"

abbrev pub entry_definition : Definition
entry_definition = struct
    (Plain (field "uint8" "first" One) ∷
    select "certificate_type"
    (case "X509" (has "opaque" "cert_data" (Bounded 1 16777215) ∷ []) ∷
    case "RawPublicKey" (has "opaque" "ASN1_subjectPublicKeyInfo" Variable ∷ []) ∷
    [])
    (called "body") ∷
    Plain (field "uint16" "second" One) ∷
    Plain (field "opaque" "last" Variable) ∷
    [])
    "Entry"

abbrev pub entries_definition : Definition
entries_definition = struct
    (Plain (field "uint8" "count" One) ∷
    Plain (field "Entry" "entries" (Bounded 0 16777215)) ∷
    [])
    "Entries"

abbrev pub sized_definition : Definition
sized_definition = struct
    (Plain (field "uint8" "before" One) ∷
    Plain (field "uint16" "version" One) ∷
    Plain (field "uint16" "length" One) ∷
    select "Sized.version"
    (cases_of (Numeral 7) [] (has "uint8" "short" One ∷ has "opaque" "long" Variable ∷ []) ∷
    cases_of (Numeral 9) [] [] ∷
    cases_of (Numeral 11) [] (is_a "Key" ∷ []) ∷
    [])
    (called "contents") ∷
    Plain (field "uint8" "after" One) ∷
    [])
    "Sized"

abbrev pub host_name_definition : Definition
host_name_definition = Alias (field "opaque" "HostName" (Bounded 1 65535))

abbrev pub server_name_definition : Definition
server_name_definition = struct
    (Plain (field "NameType" "name_type" One) ∷
    select "name_type"
    (case "host_name" (is_a "HostName" ∷ []) ∷
    [])
    (called "name") ∷
    [])
    "ServerName"

abbrev pub point_definition : Definition
point_definition = struct
    (Plain (field "uint8" "form" One) ∷
    select "Point.form"
    (cases_of (Numeral 4) [] (has "opaque" "x" Variable ∷ has "opaque" "y" Variable ∷ []) ∷
    [])
    Ended ∷
    [])
    "Point"

abbrev pub client_cert_type_extension_definition : Definition
client_cert_type_extension_definition = struct
    (select "ClientOrServerExtension"
    (case "client" (has "CertificateType" "client_certificate_types" (Bounded 1 255) ∷ []) ∷
    case "server" (has "CertificateType" "client_certificate_type" One ∷ []) ∷
    [])
    Bare ∷
    [])
    "ClientCertTypeExtension"

abbrev pub asn_1_cert_definition : Definition
asn_1_cert_definition = Alias (field "opaque" "ASN.1Cert" Variable)

abbrev pub empty_definition : Definition
empty_definition = enum
    (value "reserved" 0 ∷ Width 255 ∷ [])
    "Empty"

abbrev pub session_ticket_definition : Definition
session_ticket_definition = struct
    (Plain (field "ASN.1Cert" "a.1" One) ∷
    Plain (field "Empty" "type" One) ∷
    Plain (constant "uint16" "version" One (Bytes 254 (253 ∷ []))) ∷
    Plain (constant "opaque" "magic" (Array 2) (Bytes 1 (2 ∷ []))) ∷
    Plain (field "uint16_t" "wide" One) ∷
    [])
    "session_ticket"

abbrev pub ratchet_tree_definition : Definition
ratchet_tree_definition = Alias (optional "Row" "ratchet_tree" Variable)

abbrev pub trees_definition : Definition
trees_definition = struct
    (Plain (field "ratchet_tree" "tree" One) ∷
    [])
    "Trees"

abbrev pub body_kind_definition : Definition
body_kind_definition = enum
    (value "chat" 1 ∷ value "file" 2 ∷ Width 255 ∷ [])
    "BodyKind"

abbrev pub kind_body_definition : Definition
kind_body_definition = struct
    (Plain (field "uint8" "first" One) ∷
    select "Carrier.body_kind"
    (case "chat" (has "uint16" "code" One ∷ []) ∷
    case "file" (has "opaque" "content" Variable ∷ []) ∷
    [])
    (called "body") ∷
    [])
    "KindBody"

abbrev pub carrier_definition : Definition
carrier_definition = struct
    (Plain (field "BodyKind" "body_kind" One) ∷
    Plain (field "KindBody" "one" One) ∷
    Plain (field "uint8" "count" One) ∷
    Plain (field "KindBody" "many" (Bounded 0 65535)) ∷
    Plain (field "KindBody" "more" Variable) ∷
    [])
    "Carrier"

abbrev pub named_definition : Definition
named_definition = struct
    (Plain (field "uint8" "before" One) ∷
    Plain (field "NameType" "name_type" One) ∷
    [])
    "Named"

abbrev pub bearer_definition : Definition
bearer_definition = struct
    (Plain (field "uint8" "level" One) ∷
    Plain (field "Named" "named" One) ∷
    select "Bearer.named.name_type"
    (case "host_name" (has "uint8" "host" One ∷ []) ∷
    cases_of (Numeral 7) [] (has "Key" "other" One ∷ []) ∷
    [])
    (called "body") ∷
    Plain (field "Key" "last" One) ∷
    [])
    "Bearer"

abbrev pub versioned_definition : Definition
versioned_definition = struct
    (Plain (field "Header" "header" One) ∷
    Plain (field "ByVersion" "parts" One) ∷
    [])
    "Versioned"

abbrev pub beat_definition : Definition
beat_definition = struct
    (Plain (field "BodyKind" "type" One) ∷
    Plain (field "uint16" "payload_length" One) ∷
    Plain (field "opaque" "payload" (counted "Beat.payload_length")) ∷
    Plain (field "opaque" "padding" (counted "padding_length")) ∷
    [])
    "Beat"

abbrev pub inner_definition : Definition
inner_definition = struct
    (Plain (field "opaque" "content" (counted "length")) ∷
    Plain (field "BodyKind" "type" One) ∷
    Plain (field "uint8" "zeros" (counted "length_of_padding")) ∷
    [])
    "Inner"

abbrev pub datum_definition : Definition
datum_definition = Alias (field "opaque" "Datum" (Array 3))

abbrev pub three_data_definition : Definition
three_data_definition = struct
    (Plain (field "Datum" "data" (Array 9)) ∷
    [])
    "ThreeData"

abbrev pub pixel_definition : Definition
pixel_definition = struct
    (Plain (field "uint8" "x" One) ∷
    Plain (field "uint16" "y" One) ∷
    [])
    "Pixel"

abbrev pub line_definition : Definition
line_definition = struct
    (Plain (field "uint32" "before" One) ∷
    Plain (field "Pixel" "pixels" (Array 6)) ∷
    Plain (field "uint16" "after" One) ∷
    [])
    "Line"

abbrev pub definitions : List Definition
definitions =
    key_definition ∷ extension_type_definition ∷ row_definition ∷ level_definition ∷
    name_type_definition ∷ identity_type_definition ∷ identity_definition ∷ content_type_definition ∷
    framed_definition ∷ wide_definition ∷ lists_definition ∷ bounded_definition ∷
    node_source_definition ∷ node_tbs_definition ∷ header_definition ∷ by_version_definition ∷
    certificate_type_definition ∷ entry_definition ∷ entries_definition ∷ sized_definition ∷
    host_name_definition ∷ server_name_definition ∷ point_definition ∷ client_cert_type_extension_definition ∷
    asn_1_cert_definition ∷ empty_definition ∷ session_ticket_definition ∷ ratchet_tree_definition ∷
    trees_definition ∷ body_kind_definition ∷ kind_body_definition ∷ carrier_definition ∷
    named_definition ∷ bearer_definition ∷ versioned_definition ∷ beat_definition ∷
    inner_definition ∷ datum_definition ∷ three_data_definition ∷ pixel_definition ∷
    line_definition ∷
    []

abbrev pub notes : List Note
notes =
    CountsRest (codes "Sized.length") ∷
    Equals (codes "ClientOrServerExtension.client") (Numeral 0) ∷
    Equals (codes "ClientOrServerExtension.server") (Numeral 1) ∷
    IsClosed (codes "Level") ∷
    FillsRest (codes "Beat.padding") ∷
    Ends (codes "Inner.type") (codes "content") ∷
    []

abbrev pub messages_of_each_shape : Text
messages_of_each_shape = text_of notes definitions
