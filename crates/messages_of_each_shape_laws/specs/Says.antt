-- What each type's values say: their parts by the names in the text.
use Rattle.std.specs.Prelude.{ℕ, List, [], ◌∷◌}
use Rattle.tls_codec_grammar.specs.Tree.{Tree, Number, Empty, trees, number_trees, option_plain}
use Rattle.tls_codec_grammar.specs.Grammar.{Direction}
use Rattle.tls_presentation.specs.Definition.{Numeral, word}
use Rattle.messages_of_each_shape_laws.specs.Definitions.{messages_of_each_shape}
use Rattle.tls_presentation.specs.Says.{called, says, value_says, constant_says, number_says, case_says, choice_says}
use Rattle.messages_of_each_shape.specs.BodyKind.{body_kind_plain}
use Rattle.messages_of_each_shape.specs.BodyKindData.{body_kind_data_plain}
use Rattle.messages_of_each_shape.specs.ByVersion.{by_version_plain}
use Rattle.messages_of_each_shape.specs.CertificateType.{certificate_type_plain}
use Rattle.messages_of_each_shape.specs.CertificateTypeData.{certificate_type_data_plain}
use Rattle.messages_of_each_shape.specs.ContentTypeData.{content_type_data_plain}
use Rattle.messages_of_each_shape.specs.EmptyType.{empty_type_plain}
use Rattle.messages_of_each_shape.specs.Entry.{entry_plain}
use Rattle.messages_of_each_shape.specs.FormX04.{form_x04_plain}
use Rattle.messages_of_each_shape.specs.Header.{header_plain}
use Rattle.messages_of_each_shape.specs.Identity.{identity_plain}
use Rattle.messages_of_each_shape.specs.KindBody.{kind_body_plain}
use Rattle.messages_of_each_shape.specs.Level.{level_plain}
use Rattle.messages_of_each_shape.specs.MagicX0102.{magic_x0102_plain}
use Rattle.messages_of_each_shape.specs.NameType.{name_type_plain}
use Rattle.messages_of_each_shape.specs.NameTypeData.{name_type_data_plain}
use Rattle.messages_of_each_shape.specs.NameTypeHostName.{name_type_host_name_plain}
use Rattle.messages_of_each_shape.specs.Named.{named_plain}
use Rattle.messages_of_each_shape.specs.NodeTBSOrigin.{node_tbs_origin_plain}
use Rattle.messages_of_each_shape.specs.Pixel.{pixel_plain}
use Rattle.messages_of_each_shape.specs.VersionData.{version_data_plain}
use Rattle.messages_of_each_shape.specs.VersionXfefd.{version_xfefd_plain}
use Rattle.std.specs.Prelude.{string_bytes}
use Rattle.tls_codec.specs.Contents.{bytes_of, elements_of, fixed_bytes_of, uint24_of}
use Rattle.messages_of_each_shape.specs.declared.bearer.Bearer.{Bearer}
use Rattle.messages_of_each_shape.specs.declared.beat.Beat.{Beat}
use Rattle.messages_of_each_shape.specs.declared.body_kind.BodyKind.{BodyKind}
use Rattle.messages_of_each_shape.specs.declared.body_kind_data.BodyKindData.{BodyKindData}
use Rattle.messages_of_each_shape.specs.declared.bounded.Bounded.{Bounded}
use Rattle.messages_of_each_shape.specs.declared.by_version.ByVersion.{ByVersion}
use Rattle.messages_of_each_shape.specs.declared.carrier.Carrier.{Carrier}
use Rattle.messages_of_each_shape.specs.declared.certificate_type.CertificateType.{CertificateType}
use Rattle.messages_of_each_shape.specs.declared.certificate_type_data.CertificateTypeData.{CertificateTypeData}
use Rattle.messages_of_each_shape.specs.declared.client_cert_type_extension.ClientCertTypeExtension.{ClientCertTypeExtension}
use Rattle.messages_of_each_shape.specs.declared.client_or_server_extension.ClientOrServerExtension.{ClientOrServerExtension}
use Rattle.messages_of_each_shape.specs.declared.content_type_data.ContentTypeData.{ContentTypeData}
use Rattle.messages_of_each_shape.specs.declared.empty_type.EmptyType.{EmptyType}
use Rattle.messages_of_each_shape.specs.declared.entries.Entries.{Entries}
use Rattle.messages_of_each_shape.specs.declared.entry.Entry.{Entry}
use Rattle.messages_of_each_shape.specs.declared.form_x04.FormX04.{FormX04}
use Rattle.messages_of_each_shape.specs.declared.framed.Framed.{Framed}
use Rattle.messages_of_each_shape.specs.declared.header.Header.{Header}
use Rattle.messages_of_each_shape.specs.declared.identity.Identity.{Identity}
use Rattle.messages_of_each_shape.specs.declared.kind_body.KindBody.{KindBody}
use Rattle.messages_of_each_shape.specs.declared.level.Level.{Level}
use Rattle.messages_of_each_shape.specs.declared.line.Line.{Line}
use Rattle.messages_of_each_shape.specs.declared.lists.Lists.{Lists}
use Rattle.messages_of_each_shape.specs.declared.magic_x0102.MagicX0102.{MagicX0102}
use Rattle.messages_of_each_shape.specs.declared.name_type.NameType.{NameType}
use Rattle.messages_of_each_shape.specs.declared.name_type_data.NameTypeData.{NameTypeData}
use Rattle.messages_of_each_shape.specs.declared.name_type_host_name.NameTypeHostName.{NameTypeHostName}
use Rattle.messages_of_each_shape.specs.declared.named.Named.{Named}
use Rattle.messages_of_each_shape.specs.declared.node_tbs.NodeTBS.{NodeTBS}
use Rattle.messages_of_each_shape.specs.declared.node_tbs_origin.NodeTBSOrigin.{NodeTBSOrigin}
use Rattle.messages_of_each_shape.specs.declared.pixel.Pixel.{Pixel}
use Rattle.messages_of_each_shape.specs.declared.point.Point.{Point}
use Rattle.messages_of_each_shape.specs.declared.server_name.ServerName.{ServerName}
use Rattle.messages_of_each_shape.specs.declared.session_ticket.SessionTicket.{SessionTicket}
use Rattle.messages_of_each_shape.specs.declared.sized_type.SizedType.{SizedType}
use Rattle.messages_of_each_shape.specs.declared.three_data.ThreeData.{ThreeData}
use Rattle.messages_of_each_shape.specs.declared.trees.Trees.{Trees}
use Rattle.messages_of_each_shape.specs.declared.version_data.VersionData.{VersionData}
use Rattle.messages_of_each_shape.specs.declared.version_xfefd.VersionXfefd.{VersionXfefd}
use Rattle.messages_of_each_shape.specs.declared.versioned.Versioned.{Versioned}
use Rattle.messages_of_each_shape.specs.declared.wide.Wide.{Wide}
use Rattle.messages_of_each_shape.specs.declared.body_kind.BodyKind.TheVariants.{Chat as BodyKindChat, File as BodyKindFile}
use Rattle.messages_of_each_shape.specs.declared.body_kind_data.BodyKindData.TheVariants.{Chat as BodyKindDataChat, File as BodyKindDataFile}
use Rattle.messages_of_each_shape.specs.declared.by_version.ByVersion.TheVariants.{Case1 as ByVersionCase1, Case2 as ByVersionCase2, Case3 as ByVersionCase3}
use Rattle.messages_of_each_shape.specs.declared.certificate_type.CertificateType.TheVariants.{X509 as CertificateTypeX509, RawPublicKey as CertificateTypeRawPublicKey}
use Rattle.messages_of_each_shape.specs.declared.certificate_type_data.CertificateTypeData.TheVariants.{X509 as CertificateTypeDataX509, RawPublicKey as CertificateTypeDataRawPublicKey}
use Rattle.messages_of_each_shape.specs.declared.client_cert_type_extension.ClientCertTypeExtension.TheVariants.{Client as ClientCertTypeExtensionClient, Server as ClientCertTypeExtensionServer}
use Rattle.messages_of_each_shape.specs.declared.client_or_server_extension.ClientOrServerExtension.TheVariants.{Client as ClientOrServerExtensionClient, Server as ClientOrServerExtensionServer}
use Rattle.messages_of_each_shape.specs.declared.content_type_data.ContentTypeData.TheVariants.{Application as ContentTypeDataApplication, Proposal as ContentTypeDataProposal}
use Rattle.messages_of_each_shape.specs.declared.identity.Identity.TheVariants.{Full as IdentityFull, Anonymous as IdentityAnonymous}
use Rattle.messages_of_each_shape.specs.declared.level.Level.TheVariants.{Low as LevelLow, Middle as LevelMiddle, High as LevelHigh}
use Rattle.messages_of_each_shape.specs.declared.name_type_data.NameTypeData.TheVariants.{HostName as NameTypeDataHostName, Case7 as NameTypeDataCase7}
use Rattle.messages_of_each_shape.specs.declared.node_tbs_origin.NodeTBSOrigin.TheVariants.{Update as NodeTBSOriginUpdate, Commit as NodeTBSOriginCommit, External as NodeTBSOriginExternal}
use Rattle.messages_of_each_shape.specs.declared.version_data.VersionData.TheVariants.{Case7 as VersionDataCase7, Case9 as VersionDataCase9, Case11 as VersionDataCase11}

abbrev pub BearerSays : Bearer → Direction → List ℕ → Type 0
BearerSays v = says messages_of_each_shape "Bearer" Empty (called "level" (Number v.level) ∷
    called "named" (named_plain v.named) ∷
    called "body" (name_type_data_plain v.body) ∷
    called "last" (number_trees (bytes_of v.last)) ∷
    [])

abbrev pub BeatSays : Beat → Direction → List ℕ → Type 0
BeatSays v = says messages_of_each_shape "Beat" Empty (called "type" (body_kind_plain v.kind) ∷
    called "payload" (number_trees (fixed_bytes_of v.payload)) ∷
    [])

abbrev pub BodyKindSays : BodyKind → Direction → List ℕ → Type 0
BodyKindSays BodyKindChat = value_says messages_of_each_shape "BodyKind" "chat"
BodyKindSays BodyKindFile = value_says messages_of_each_shape "BodyKind" "file"

abbrev pub BodyKindDataSays : Tree → BodyKindData → Direction → List ℕ → Type 0
BodyKindDataSays c (BodyKindDataChat a0) = choice_says messages_of_each_shape "KindBody" "Carrier.body_kind" (word "chat") c (called "code" (Number a0) ∷
    [])
BodyKindDataSays c (BodyKindDataFile a0) = choice_says messages_of_each_shape "KindBody" "Carrier.body_kind" (word "file") c (called "content" (number_trees (bytes_of a0)) ∷
    [])

abbrev pub BoundedSays : Bounded → Direction → List ℕ → Type 0
BoundedSays v = says messages_of_each_shape "Bounded" Empty (called "session" (number_trees (fixed_bytes_of v.session)) ∷
    called "suites" (trees Number (elements_of v.suites)) ∷
    [])

abbrev pub ByVersionSays : Tree → ByVersion → Direction → List ℕ → Type 0
ByVersionSays c (ByVersionCase1 a0) = choice_says messages_of_each_shape "ByVersion" "Header.version" (Numeral 1) c (called "short" (Number a0) ∷
    [])
ByVersionSays c (ByVersionCase2 a0 a1 a2) = choice_says messages_of_each_shape "ByVersion" "Header.version" (Numeral 2) c (called "long" (Number a0) ∷
    called "tail" (number_trees (bytes_of a1)) ∷
    called "last" (Number a2) ∷
    [])
ByVersionSays c ByVersionCase3 = choice_says messages_of_each_shape "ByVersion" "Header.version" (Numeral 3) c []

abbrev pub CarrierSays : Carrier → Direction → List ℕ → Type 0
CarrierSays v = says messages_of_each_shape "Carrier" Empty (called "body_kind" (body_kind_plain v.body_kind) ∷
    called "one" (kind_body_plain v.one) ∷
    called "count" (Number v.count) ∷
    called "many" (trees kind_body_plain (elements_of v.many)) ∷
    called "more" (trees kind_body_plain v.more.items) ∷
    [])

abbrev pub CertificateTypeSays : CertificateType → Direction → List ℕ → Type 0
CertificateTypeSays CertificateTypeX509 = value_says messages_of_each_shape "CertificateType" "X509"
CertificateTypeSays CertificateTypeRawPublicKey = value_says messages_of_each_shape "CertificateType" "RawPublicKey"

abbrev pub CertificateTypeDataSays : Tree → CertificateTypeData → Direction → List ℕ → Type 0
CertificateTypeDataSays c (CertificateTypeDataX509 a0) = choice_says messages_of_each_shape "Entry" "certificate_type" (word "X509") c (called "cert_data" (number_trees (fixed_bytes_of a0)) ∷
    [])
CertificateTypeDataSays c (CertificateTypeDataRawPublicKey a0) = choice_says messages_of_each_shape "Entry" "certificate_type" (word "RawPublicKey") c (called "ASN1_subjectPublicKeyInfo" (number_trees (bytes_of a0)) ∷
    [])

abbrev pub ClientCertTypeExtensionSays : Tree → ClientCertTypeExtension → Direction → List ℕ → Type 0
ClientCertTypeExtensionSays c (ClientCertTypeExtensionClient a0) = choice_says messages_of_each_shape "ClientCertTypeExtension" "ClientOrServerExtension" (word "client") c (called "client_certificate_types" (trees certificate_type_plain (elements_of a0)) ∷
    [])
ClientCertTypeExtensionSays c (ClientCertTypeExtensionServer a0) = choice_says messages_of_each_shape "ClientCertTypeExtension" "ClientOrServerExtension" (word "server") c (called "client_certificate_type" (certificate_type_plain a0) ∷
    [])

abbrev pub ClientOrServerExtensionSays : ClientOrServerExtension → Direction → List ℕ → Type 0
ClientOrServerExtensionSays ClientOrServerExtensionClient = value_says messages_of_each_shape "ClientOrServerExtension" "client"
ClientOrServerExtensionSays ClientOrServerExtensionServer = value_says messages_of_each_shape "ClientOrServerExtension" "server"

abbrev pub ContentTypeDataSays : ContentTypeData → Direction → List ℕ → Type 0
ContentTypeDataSays (ContentTypeDataApplication a0 a1) = case_says messages_of_each_shape "Framed" "content_type" (word "application") Empty (called "authenticated_data" (number_trees (bytes_of a0)) ∷
    called "application_data" (number_trees (bytes_of a1)) ∷
    [])
ContentTypeDataSays (ContentTypeDataProposal a0 a1 a2) = case_says messages_of_each_shape "Framed" "content_type" (word "proposal") Empty (called "authenticated_data" (number_trees (bytes_of a0)) ∷
    called "proposal" (number_trees (bytes_of a1)) ∷
    called "level" (Number a2) ∷
    [])

abbrev pub EmptyTypeSays : EmptyType → Direction → List ℕ → Type 0
EmptyTypeSays v = number_says messages_of_each_shape "Empty" v.0

abbrev pub EntriesSays : Tree → Entries → Direction → List ℕ → Type 0
EntriesSays c v = says messages_of_each_shape "Entries" c (called "count" (Number v.count) ∷
    called "entries" (trees entry_plain (elements_of v.entries)) ∷
    [])

abbrev pub EntrySays : Tree → Entry → Direction → List ℕ → Type 0
EntrySays c v = says messages_of_each_shape "Entry" c (called "first" (Number v.first) ∷
    called "body" (certificate_type_data_plain v.body) ∷
    called "second" (Number v.second) ∷
    called "last" (number_trees (bytes_of v.last)) ∷
    [])

abbrev pub FormX04Says : FormX04 → Direction → List ℕ → Type 0
FormX04Says v = constant_says messages_of_each_shape "Point" "form"

abbrev pub FramedSays : Framed → Direction → List ℕ → Type 0
FramedSays v = says messages_of_each_shape "Framed" Empty (called "epoch" (Number v.epoch) ∷
    called "content_type" (content_type_data_plain v.content_type) ∷
    called "signature" (number_trees (bytes_of v.signature)) ∷
    [])

abbrev pub HeaderSays : Header → Direction → List ℕ → Type 0
HeaderSays v = says messages_of_each_shape "Header" Empty (called "version" (Number v.version) ∷
    called "rest" (number_trees (bytes_of v.rest_)) ∷
    [])

abbrev pub IdentitySays : Identity → Direction → List ℕ → Type 0
IdentitySays (IdentityFull a0 a1 a2 a3 a4) = case_says messages_of_each_shape "Identity" "identity_type" (word "full") Empty (called "name_type" (name_type_plain a0) ∷
    called "level" (level_plain a1) ∷
    called "key" (number_trees (bytes_of a2)) ∷
    called "since" (Number a3) ∷
    called "last" (option_plain (λ v. number_trees (bytes_of v)) a4) ∷
    [])
IdentitySays IdentityAnonymous = case_says messages_of_each_shape "Identity" "identity_type" (word "anonymous") Empty []

abbrev pub KindBodySays : Tree → KindBody → Direction → List ℕ → Type 0
KindBodySays c v = says messages_of_each_shape "KindBody" c (called "first" (Number v.first) ∷
    called "body" (body_kind_data_plain v.body) ∷
    [])

abbrev pub LevelSays : Level → Direction → List ℕ → Type 0
LevelSays LevelLow = value_says messages_of_each_shape "Level" "low"
LevelSays LevelMiddle = value_says messages_of_each_shape "Level" "middle"
LevelSays LevelHigh = value_says messages_of_each_shape "Level" "high"

abbrev pub LineSays : Line → Direction → List ℕ → Type 0
LineSays v = says messages_of_each_shape "Line" Empty (called "before" (Number v.before) ∷
    called "pixels" (trees pixel_plain (elements_of v.pixels)) ∷
    called "after" (Number v.after) ∷
    [])

abbrev pub ListsSays : Lists → Direction → List ℕ → Type 0
ListsSays v = says messages_of_each_shape "Lists" Empty (called "octets" (trees Number (elements_of v.octets)) ∷
    called "levels" (trees level_plain (elements_of v.levels)) ∷
    called "keys" (trees (λ v. number_trees (bytes_of v)) (elements_of v.keys)) ∷
    called "identities" (trees identity_plain (elements_of v.identities)) ∷
    called "rows" (trees (λ v. trees Number v.items) v.rows.items) ∷
    called "kind" (Number v.kind) ∷
    called "names" (trees name_type_plain v.names.items) ∷
    called "row" (trees Number v.row.items) ∷
    [])

abbrev pub MagicX0102Says : MagicX0102 → Direction → List ℕ → Type 0
MagicX0102Says v = constant_says messages_of_each_shape "session_ticket" "magic"

abbrev pub NameTypeSays : NameType → Direction → List ℕ → Type 0
NameTypeSays v = number_says messages_of_each_shape "NameType" v.0

abbrev pub NameTypeDataSays : Tree → NameTypeData → Direction → List ℕ → Type 0
NameTypeDataSays c (NameTypeDataHostName a0) = choice_says messages_of_each_shape "Bearer" "Bearer.named.name_type" (word "host_name") c (called "host" (Number a0) ∷
    [])
NameTypeDataSays c (NameTypeDataCase7 a0) = choice_says messages_of_each_shape "Bearer" "Bearer.named.name_type" (Numeral 7) c (called "other" (number_trees (bytes_of a0)) ∷
    [])

abbrev pub NameTypeHostNameSays : NameTypeHostName → Direction → List ℕ → Type 0
NameTypeHostNameSays v = constant_says messages_of_each_shape "ServerName" "name_type"

abbrev pub NamedSays : Named → Direction → List ℕ → Type 0
NamedSays v = says messages_of_each_shape "Named" Empty (called "before" (Number v.before) ∷
    called "name_type" (name_type_plain v.name_type) ∷
    [])

abbrev pub NodeTBSSays : NodeTBS → Direction → List ℕ → Type 0
NodeTBSSays v = says messages_of_each_shape "NodeTBS" Empty (called "key" (number_trees (bytes_of v.key.now)) ∷
    called "node_source" (node_tbs_origin_plain v.node_source) ∷
    called "last" (option_plain (λ v. number_trees (bytes_of v)) v.last.now) ∷
    [])

abbrev pub NodeTBSOriginSays : NodeTBSOrigin → Direction → List ℕ → Type 0
NodeTBSOriginSays NodeTBSOriginUpdate = case_says messages_of_each_shape "NodeTBS" "node_source" (word "update") Empty []
NodeTBSOriginSays (NodeTBSOriginCommit a0 a1) = case_says messages_of_each_shape "NodeTBS" "node_source" (word "commit") Empty (called "parent_hash" (number_trees (bytes_of a0.now)) ∷
    called "level" (Number a1.now) ∷
    [])
NodeTBSOriginSays (NodeTBSOriginExternal a0) = case_says messages_of_each_shape "NodeTBS" "node_source" (word "external") Empty (called "signature_key" (number_trees (bytes_of a0.now)) ∷
    [])

abbrev pub PixelSays : Pixel → Direction → List ℕ → Type 0
PixelSays v = says messages_of_each_shape "Pixel" Empty (called "x" (Number v.x) ∷
    called "y" (Number v.y) ∷
    [])

abbrev pub PointSays : Point → Direction → List ℕ → Type 0
PointSays v = says messages_of_each_shape "Point" Empty (called "form" (form_x04_plain v.form) ∷
    called "x" (number_trees (bytes_of v.x)) ∷
    called "y" (number_trees (bytes_of v.y)) ∷
    [])

abbrev pub ServerNameSays : ServerName → Direction → List ℕ → Type 0
ServerNameSays v = says messages_of_each_shape "ServerName" Empty (called "name_type" (name_type_host_name_plain v.name_type) ∷
    called "HostName" (number_trees (fixed_bytes_of v.name)) ∷
    [])

abbrev pub SessionTicketSays : SessionTicket → Direction → List ℕ → Type 0
SessionTicketSays v = says messages_of_each_shape "session_ticket" Empty (called "a.1" (number_trees (bytes_of v.a_1)) ∷
    called "type" (empty_type_plain v.kind) ∷
    called "version" (version_xfefd_plain v.version) ∷
    called "magic" (magic_x0102_plain v.magic) ∷
    called "wide" (Number v.wide) ∷
    [])

abbrev pub SizedTypeSays : SizedType → Direction → List ℕ → Type 0
SizedTypeSays v = says messages_of_each_shape "Sized" Empty (called "before" (Number v.before) ∷
    called "contents" (version_data_plain v.contents) ∷
    called "after" (Number v.after) ∷
    [])

abbrev pub ThreeDataSays : ThreeData → Direction → List ℕ → Type 0
ThreeDataSays v = says messages_of_each_shape "ThreeData" Empty (called "data" (trees number_trees (elements_of v.data_)) ∷
    [])

abbrev pub TreesSays : Trees → Direction → List ℕ → Type 0
TreesSays v = says messages_of_each_shape "Trees" Empty (called "tree" (trees (option_plain (λ v. trees Number v.items)) v.tree.items) ∷
    [])

abbrev pub VersionDataSays : VersionData → Direction → List ℕ → Type 0
VersionDataSays (VersionDataCase7 a0 a1) = case_says messages_of_each_shape "Sized" "version" (Numeral 7) Empty (called "short" (Number a0) ∷
    called "long" (number_trees (bytes_of a1)) ∷
    [])
VersionDataSays VersionDataCase9 = case_says messages_of_each_shape "Sized" "version" (Numeral 9) Empty []
VersionDataSays (VersionDataCase11 a0) = case_says messages_of_each_shape "Sized" "version" (Numeral 11) Empty (called "Key" (number_trees (bytes_of a0)) ∷
    [])

abbrev pub VersionXfefdSays : VersionXfefd → Direction → List ℕ → Type 0
VersionXfefdSays v = constant_says messages_of_each_shape "session_ticket" "version"

abbrev pub VersionedSays : Versioned → Direction → List ℕ → Type 0
VersionedSays v = says messages_of_each_shape "Versioned" Empty (called "header" (header_plain v.header) ∷
    called "parts" (by_version_plain v.parts_) ∷
    [])

abbrev pub WideSays : Wide → Direction → List ℕ → Type 0
WideSays v = says messages_of_each_shape "Wide" Empty (called "a" (Number v.a) ∷
    called "b" (Number (uint24_of v.b)) ∷
    called "c" (Number v.c) ∷
    called "d" (Number v.d) ∷
    called "e" (number_trees v.e) ∷
    called "f" (number_trees (fixed_bytes_of v.f)) ∷
    called "g" (number_trees (fixed_bytes_of v.g)) ∷
    called "h" (number_trees (fixed_bytes_of v.h)) ∷
    called "i" (number_trees (fixed_bytes_of v.i)) ∷
    called "j" (trees (λ v. number_trees (bytes_of v)) (elements_of v.j)) ∷
    called "k" (number_trees (string_bytes v.k)) ∷
    called "l" (option_plain Number v.l) ∷
    [])
