-- The text, line by line: each_shape.tls.
use Rattle.std.specs.Prelude.{ℕ, List, [], ◌∷◌}
use Rattle.tls_presentation.specs.Cut.{lines}

abbrev pub text : List ℕ
text = lines (
    "// One of each shape that the messages of TLS 1.3 and of MLS lack." ∷
    "" ∷
    "opaque Key<V>;" ∷
    "uint16 ExtensionType;" ∷
    "uint16 Row<V>;" ∷
    "" ∷
    "// Values of two bytes, past those of one." ∷
    "enum { low(1), middle(256), high(65535) } Level;" ∷
    "" ∷
    "// A registry of one byte: numbers without a name are kept." ∷
    "open enum { host_name(0), (255) } NameType;" ∷
    "" ∷
    "// A tag of two bytes; cases of five fields, and of none." ∷
    "enum { reserved(0), full(4), anonymous(5), (65535) } IdentityType;" ∷
    "struct {" ∷
    "    IdentityType identity_type;" ∷
    "    select (Identity.identity_type) {" ∷
    "        case full: NameType name_type; Level level; Key key; uint32 since; optional<Key> last;" ∷
    "        case anonymous: struct{};" ∷
    "    };" ∷
    "} Identity;" ∷
    "" ∷
    "// A select on an earlier tag." ∷
    "enum { reserved(0), application(1), proposal(2), (255) } ContentType;" ∷
    "struct {" ∷
    "    uint32 epoch;" ∷
    "    ContentType content_type;" ∷
    "    opaque authenticated_data<V>;" ∷
    "    select (Framed.content_type) {" ∷
    "        case application: opaque application_data<V>;" ∷
    "        case proposal:    opaque proposal<V>; uint8 level;" ∷
    "    };" ∷
    "    opaque signature<V>;" ∷
    "} Framed;" ∷
    "" ∷
    "// Twelve fields." ∷
    "struct {" ∷
    "    uint8 a; uint24 b; uint32 c; uint64 d;" ∷
    "    opaque e[16]; opaque f<0..255>; opaque g<0..2^16-1>; opaque h<0..2^24-1>; opaque i<0..2^32-1>;" ∷
    "    Key j<0..2^16-1>; string k; optional<uint16> l;" ∷
    "} Wide;" ∷
    "" ∷
    "// Lists of each length, lists of lists, and other names." ∷
    "struct {" ∷
    "    uint16 octets<0..255>; Level levels<0..2^16-1>; Key keys<0..2^24-1>; Identity identities<0..2^32-1>;" ∷
    "    Row rows<V>; ExtensionType kind; NameType names<V>; Row row;" ∷
    "} Lists;" ∷
    "" ∷
    "// Bounds on bytes and on a list of numbers." ∷
    "struct { opaque session<0..32>; uint16 suites<2..2^16-2>; } Bounded;" ∷
    "" ∷
    "// A borrowed struct with an option, and with an enum of which a case has no fields, and another one." ∷
    "enum { reserved(0), update(2), commit(3), external(4), (255) } NodeSource;" ∷
    "borrowed struct {" ∷
    "    Key key;" ∷
    "    NodeSource node_source;" ∷
    "    select (NodeTBS.node_source) {" ∷
    "        case update: struct{};" ∷
    "        case commit: opaque parent_hash<V>; uint8 level;" ∷
    "        case external: Key signature_key;" ∷
    "    } NodeTBSOrigin;" ∷
    "    optional<Key> last;" ∷
    "} NodeTBS;" ∷
    "" ∷
    "// ---- tags elsewhere, as in RFC 8446, sections 4.2.1 and 4.4.2" ∷
    "" ∷
    "// A number of another struct: cases of one field, of more, and of none." ∷
    "struct { uint16 version; opaque rest<V>; } Header;" ∷
    "struct {" ∷
    "    select (Header.version) {" ∷
    "        case 1: uint8 short;" ∷
    "        case 2: uint32 long; opaque tail<V>; uint8 last;" ∷
    "        case 3: struct {};" ∷
    "    };" ∷
    "} ByVersion;" ∷
    "" ∷
    "// A name that no field has, here CertificateType in small letters; fields before and after its select, in more than three parts." ∷
    "enum { X509(0), RawPublicKey(2), (255) } CertificateType;" ∷
    "struct {" ∷
    "    uint8 first;" ∷
    "    select (certificate_type) {" ∷
    "        case X509: opaque cert_data<1..2^24-1>;" ∷
    "        case RawPublicKey: opaque ASN1_subjectPublicKeyInfo<V>;" ∷
    "    } body;" ∷
    "    uint16 second;" ∷
    "    opaque last<V>;" ∷
    "} Entry;" ∷
    "" ∷
    "// A list in the context." ∷
    "struct { uint8 count; Entry entries<0..2^24-1>; } Entries;" ∷
    "" ∷
    "// ---- a length of what follows it (each_shape.notes), among other fields" ∷
    "struct {" ∷
    "    uint8 before;" ∷
    "    uint16 version;" ∷
    "    uint16 length;" ∷
    "    select (Sized.version) {" ∷
    "        case 7: uint8 short; opaque long<V>;" ∷
    "        case 9: struct {};" ∷
    "        case 11: Key;" ∷
    "    } contents;" ∷
    "    uint8 after;" ∷
    "} Sized;" ∷
    "" ∷
    "// ---- one case alone, with a name of the field behind it (RFC 6066, section 3), and of several fields" ∷
    "opaque HostName<1..2^16-1>;" ∷
    "struct {" ∷
    "    NameType name_type;" ∷
    "    select (name_type) {" ∷
    "        case host_name: HostName;" ∷
    "    } name;" ∷
    "} ServerName;" ∷
    "struct {" ∷
    "    uint8 form;" ∷
    "    select (Point.form) {" ∷
    "        case 4: opaque x<V>; opaque y<V>;" ∷
    "    };" ∷
    "} Point;" ∷
    "" ∷
    "// ---- a tag that no definition is, which has its values by notes (RFC 7250, section 3)" ∷
    "struct {" ∷
    "    select (ClientOrServerExtension) {" ∷
    "        case client: CertificateType client_certificate_types<1..2^8-1>;" ∷
    "        case server: CertificateType client_certificate_type;" ∷
    "    }" ∷
    "} ClientCertTypeExtension;" ∷
    "" ∷
    "// ---- names that a type and a field can't have, constants of bytes, a closed enum's value without a case, numbers as in C" ∷
    "opaque ASN.1Cert<V>;" ∷
    "enum { reserved(0), (255) } Empty;" ∷
    "struct {" ∷
    "    ASN.1Cert a.1;" ∷
    "    Empty type;" ∷
    "    uint16 version = {254, 253};" ∷
    "    opaque magic[2] = {1, 2};" ∷
    "    uint16_t wide;" ∷
    "} session_ticket;" ∷
    "optional<Row> ratchet_tree<V>;" ∷
    "struct { ratchet_tree tree; } Trees;" ∷
    "" ∷
    "// ---- tags in a field before (RFC 9420, section 6): the field is the tag, or holds it, of an open enum or a number" ∷
    "enum { chat(1), file(2), (255) } BodyKind;" ∷
    "struct {" ∷
    "    uint8 first;" ∷
    "    select (Carrier.body_kind) {" ∷
    "        case chat: uint16 code;" ∷
    "        case file: opaque content<V>;" ∷
    "    } body;" ∷
    "} KindBody;" ∷
    "struct {" ∷
    "    BodyKind body_kind;" ∷
    "    KindBody one;" ∷
    "    uint8 count;" ∷
    "    KindBody many<0..2^16-1>;" ∷
    "    KindBody more<V>;" ∷
    "} Carrier;" ∷
    "struct { uint8 before; NameType name_type; } Named;" ∷
    "struct {" ∷
    "    uint8 level;" ∷
    "    Named named;" ∷
    "    select (Bearer.named.name_type) {" ∷
    "        case host_name: uint8 host;" ∷
    "        case 7: Key other;" ∷
    "    } body;" ∷
    "    Key last;" ∷
    "} Bearer;" ∷
    "struct { Header header; ByVersion parts; } Versioned;" ∷
    "" ∷
    "// ---- bytes to the end (RFC 6520, section 4), and a type of bytes with zeros behind it (RFC 8446, section 5.2)" ∷
    "struct {" ∷
    "    BodyKind type;" ∷
    "    uint16 payload_length;" ∷
    "    opaque payload[Beat.payload_length];" ∷
    "    opaque padding[padding_length];" ∷
    "} Beat;" ∷
    "struct {" ∷
    "    opaque content[length];" ∷
    "    BodyKind type;" ∷
    "    uint8 zeros[length_of_padding];" ∷
    "} Inner;" ∷
    "" ∷
    "// ---- arrays of what isn't a byte, by their bytes (RFC 8446, section 3.4): three of three bytes, and two structs" ∷
    "opaque Datum[3];" ∷
    "struct { Datum data[9]; } ThreeData;" ∷
    "struct { uint8 x; uint16 y; } Pixel;" ∷
    "struct { uint32 before; Pixel pixels[6]; uint16 after; } Line;" ∷
    [])
