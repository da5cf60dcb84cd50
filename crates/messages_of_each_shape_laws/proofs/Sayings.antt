-- Why each value says so.
use Rattle.std.specs.Prelude.{ℕ, List, [], ◌∷◌}
use Rattle.tls_codec_grammar.specs.Tree.{Tree, Number, Empty, trees, number_trees, option_plain}
use Rattle.tls_codec_grammar.specs.Grammar.{Direction}
use Rattle.tls_presentation.specs.Definition.{Numeral, word}
use Rattle.messages_of_each_shape_laws.specs.Definitions.{messages_of_each_shape}
use Rattle.std.proofs.Common.{◌≡◌, refl}
use Rattle.tls_presentation.specs.Says.{value_number}
use Rattle.std.specs.Prelude.{◌↔◌}
use Rattle.tls_presentation.specs.Says.{called}
use Rattle.tls_presentation.proofs.Flat.{same_iff}
use Rattle.tls_presentation.proofs.Saying.{struct_saying, borrowed_saying, number_saying, case_saying, choice_saying}
use Rattle.messages_of_each_shape.specs.Bearer.{bearer_format, bearer_plain}
use Rattle.messages_of_each_shape.specs.Beat.{beat_format, beat_plain}
use Rattle.messages_of_each_shape.specs.BodyKind.{body_kind_code, body_kind_format, body_kind_name, body_kind_plain}
use Rattle.messages_of_each_shape.specs.BodyKindData.{body_kind_data_format_for, body_kind_data_plain}
use Rattle.messages_of_each_shape.specs.Bounded.{bounded_format, bounded_plain}
use Rattle.messages_of_each_shape.specs.ByVersion.{by_version_format_for, by_version_plain}
use Rattle.messages_of_each_shape.specs.Carrier.{carrier_format, carrier_plain}
use Rattle.messages_of_each_shape.specs.CertificateType.{certificate_type_code, certificate_type_format, certificate_type_name, certificate_type_plain}
use Rattle.messages_of_each_shape.specs.CertificateTypeData.{certificate_type_data_format_for, certificate_type_data_plain}
use Rattle.messages_of_each_shape.specs.ClientCertTypeExtension.{client_cert_type_extension_format_for, client_cert_type_extension_plain}
use Rattle.messages_of_each_shape.specs.ClientOrServerExtension.{client_or_server_extension_code, client_or_server_extension_format, client_or_server_extension_name, client_or_server_extension_plain}
use Rattle.messages_of_each_shape.specs.ContentTypeData.{content_type_data_format, content_type_data_plain}
use Rattle.messages_of_each_shape.specs.EmptyType.{empty_type_format, empty_type_plain}
use Rattle.messages_of_each_shape.specs.Entries.{entries_format_for, entries_plain}
use Rattle.messages_of_each_shape.specs.Entry.{entry_format_for, entry_plain}
use Rattle.messages_of_each_shape.specs.FormX04.{form_x04_format, form_x04_plain}
use Rattle.messages_of_each_shape.specs.Framed.{framed_format, framed_plain}
use Rattle.messages_of_each_shape.specs.Header.{header_format, header_plain}
use Rattle.messages_of_each_shape.specs.Identity.{identity_format, identity_plain}
use Rattle.messages_of_each_shape.specs.KindBody.{kind_body_format_for, kind_body_plain}
use Rattle.messages_of_each_shape.specs.Level.{level_code, level_format, level_name, level_plain}
use Rattle.messages_of_each_shape.specs.Line.{line_format, line_plain}
use Rattle.messages_of_each_shape.specs.Lists.{lists_format, lists_plain}
use Rattle.messages_of_each_shape.specs.MagicX0102.{magic_x0102_format, magic_x0102_plain}
use Rattle.messages_of_each_shape.specs.NameType.{name_type_format, name_type_plain}
use Rattle.messages_of_each_shape.specs.NameTypeData.{name_type_data_format_for, name_type_data_plain}
use Rattle.messages_of_each_shape.specs.NameTypeHostName.{name_type_host_name_format, name_type_host_name_plain}
use Rattle.messages_of_each_shape.specs.Named.{named_format, named_plain}
use Rattle.messages_of_each_shape.specs.NodeTBS.{node_tbs_format, node_tbs_plain}
use Rattle.messages_of_each_shape.specs.NodeTBSOrigin.{node_tbs_origin_format, node_tbs_origin_plain}
use Rattle.messages_of_each_shape.specs.Pixel.{pixel_format, pixel_plain}
use Rattle.messages_of_each_shape.specs.Point.{point_format, point_plain}
use Rattle.messages_of_each_shape.specs.ServerName.{server_name_format, server_name_plain}
use Rattle.messages_of_each_shape.specs.SessionTicket.{session_ticket_format, session_ticket_plain}
use Rattle.messages_of_each_shape.specs.SizedType.{sized_type_format, sized_type_plain}
use Rattle.messages_of_each_shape.specs.ThreeData.{three_data_format, three_data_plain}
use Rattle.messages_of_each_shape.specs.Trees.{trees_format, trees_plain}
use Rattle.messages_of_each_shape.specs.VersionData.{version_data_format, version_data_plain}
use Rattle.messages_of_each_shape.specs.VersionXfefd.{version_xfefd_format, version_xfefd_plain}
use Rattle.messages_of_each_shape.specs.Versioned.{versioned_format, versioned_plain}
use Rattle.messages_of_each_shape.specs.Wide.{wide_format, wide_plain}
use Rattle.std.specs.Prelude.{string_bytes}
use Rattle.tls_codec.specs.Contents.{bytes_of, elements_of, fixed_bytes_of, uint24_of}
use Rattle.messages_of_each_shape.specs.declared.bearer.Bearer.{Bearer}
use Rattle.messages_of_each_shape.specs.declared.beat.Beat.{Beat}
use Rattle.messages_of_each_shape.specs.declared.body_kind.BodyKind.{BodyKind}
use Rattle.messages_of_each_shape.specs.declared.body_kind_data.BodyKindData.{BodyKindData}
use Rattle.messages_of_each_shape.specs.declared.bounded.Bounded.{Bounded}
use Rattle.messages_of_each_shape.specs.declared.by_version.ByVersion.{ByVersion}
use Rattle.messages_of_each_shape.specs.declared.carrier.Carrier.{Carrier}
use Rattle.messages_of_each_shape.specs.declared.certificate_type.CertificateType.{CertificateType}
use Rattle.messages_of_each_shape.specs.declared.certificate_type_data.CertificateTypeData.{CertificateTypeData}
use Rattle.messages_of_each_shape.specs.declared.client_cert_type_extension.ClientCertTypeExtension.{ClientCertTypeExtension}
use Rattle.messages_of_each_shape.specs.declared.client_or_server_extension.ClientOrServerExtension.{ClientOrServerExtension}
use Rattle.messages_of_each_shape.specs.declared.content_type_data.ContentTypeData.{ContentTypeData}
use Rattle.messages_of_each_shape.specs.declared.empty_type.EmptyType.{EmptyType}
use Rattle.messages_of_each_shape.specs.declared.entries.Entries.{Entries}
use Rattle.messages_of_each_shape.specs.declared.entry.Entry.{Entry}
use Rattle.messages_of_each_shape.specs.declared.form_x04.FormX04.{FormX04}
use Rattle.messages_of_each_shape.specs.declared.framed.Framed.{Framed}
use Rattle.messages_of_each_shape.specs.declared.header.Header.{Header}
use Rattle.messages_of_each_shape.specs.declared.identity.Identity.{Identity}
use Rattle.messages_of_each_shape.specs.declared.kind_body.KindBody.{KindBody}
use Rattle.messages_of_each_shape.specs.declared.level.Level.{Level}
use Rattle.messages_of_each_shape.specs.declared.line.Line.{Line}
use Rattle.messages_of_each_shape.specs.declared.lists.Lists.{Lists}
use Rattle.messages_of_each_shape.specs.declared.magic_x0102.MagicX0102.{MagicX0102}
use Rattle.messages_of_each_shape.specs.declared.name_type.NameType.{NameType}
use Rattle.messages_of_each_shape.specs.declared.name_type_data.NameTypeData.{NameTypeData}
use Rattle.messages_of_each_shape.specs.declared.name_type_host_name.NameTypeHostName.{NameTypeHostName}
use Rattle.messages_of_each_shape.specs.declared.named.Named.{Named}
use Rattle.messages_of_each_shape.specs.declared.node_tbs.NodeTBS.{NodeTBS}
use Rattle.messages_of_each_shape.specs.declared.node_tbs_origin.NodeTBSOrigin.{NodeTBSOrigin}
use Rattle.messages_of_each_shape.specs.declared.pixel.Pixel.{Pixel}
use Rattle.messages_of_each_shape.specs.declared.point.Point.{Point}
use Rattle.messages_of_each_shape.specs.declared.server_name.ServerName.{ServerName}
use Rattle.messages_of_each_shape.specs.declared.session_ticket.SessionTicket.{SessionTicket}
use Rattle.messages_of_each_shape.specs.declared.sized_type.SizedType.{SizedType}
use Rattle.messages_of_each_shape.specs.declared.three_data.ThreeData.{ThreeData}
use Rattle.messages_of_each_shape.specs.declared.trees.Trees.{Trees}
use Rattle.messages_of_each_shape.specs.declared.version_data.VersionData.{VersionData}
use Rattle.messages_of_each_shape.specs.declared.version_xfefd.VersionXfefd.{VersionXfefd}
use Rattle.messages_of_each_shape.specs.declared.versioned.Versioned.{Versioned}
use Rattle.messages_of_each_shape.specs.declared.wide.Wide.{Wide}
use Rattle.messages_of_each_shape.specs.declared.body_kind.BodyKind.TheVariants.{Chat as BodyKindChat, File as BodyKindFile}
use Rattle.messages_of_each_shape.specs.declared.body_kind_data.BodyKindData.TheVariants.{Chat as BodyKindDataChat, File as BodyKindDataFile}
use Rattle.messages_of_each_shape.specs.declared.by_version.ByVersion.TheVariants.{Case1 as ByVersionCase1, Case2 as ByVersionCase2, Case3 as ByVersionCase3}
use Rattle.messages_of_each_shape.specs.declared.certificate_type.CertificateType.TheVariants.{X509 as CertificateTypeX509, RawPublicKey as CertificateTypeRawPublicKey}
use Rattle.messages_of_each_shape.specs.declared.certificate_type_data.CertificateTypeData.TheVariants.{X509 as CertificateTypeDataX509, RawPublicKey as CertificateTypeDataRawPublicKey}
use Rattle.messages_of_each_shape.specs.declared.client_cert_type_extension.ClientCertTypeExtension.TheVariants.{Client as ClientCertTypeExtensionClient, Server as ClientCertTypeExtensionServer}
use Rattle.messages_of_each_shape.specs.declared.client_or_server_extension.ClientOrServerExtension.TheVariants.{Client as ClientOrServerExtensionClient, Server as ClientOrServerExtensionServer}
use Rattle.messages_of_each_shape.specs.declared.content_type_data.ContentTypeData.TheVariants.{Application as ContentTypeDataApplication, Proposal as ContentTypeDataProposal}
use Rattle.messages_of_each_shape.specs.declared.identity.Identity.TheVariants.{Full as IdentityFull, Anonymous as IdentityAnonymous}
use Rattle.messages_of_each_shape.specs.declared.level.Level.TheVariants.{Low as LevelLow, Middle as LevelMiddle, High as LevelHigh}
use Rattle.messages_of_each_shape.specs.declared.name_type_data.NameTypeData.TheVariants.{HostName as NameTypeDataHostName, Case7 as NameTypeDataCase7}
use Rattle.messages_of_each_shape.specs.declared.node_tbs_origin.NodeTBSOrigin.TheVariants.{Update as NodeTBSOriginUpdate, Commit as NodeTBSOriginCommit, External as NodeTBSOriginExternal}
use Rattle.messages_of_each_shape.specs.declared.version_data.VersionData.TheVariants.{Case7 as VersionDataCase7, Case9 as VersionDataCase9, Case11 as VersionDataCase11}
use Rattle.messages_of_each_shape_laws.specs.Says.{BearerSays, BeatSays, BodyKindSays, BodyKindDataSays, BoundedSays, ByVersionSays, CarrierSays, CertificateTypeSays, CertificateTypeDataSays, ClientCertTypeExtensionSays, ClientOrServerExtensionSays, ContentTypeDataSays, EmptyTypeSays, EntriesSays, EntrySays, FormX04Says, FramedSays, HeaderSays, IdentitySays, KindBodySays, LevelSays, LineSays, ListsSays, MagicX0102Says, NameTypeSays, NameTypeDataSays, NameTypeHostNameSays, NamedSays, NodeTBSSays, NodeTBSOriginSays, PixelSays, PointSays, ServerNameSays, SessionTicketSays, SizedTypeSays, ThreeDataSays, TreesSays, VersionDataSays, VersionXfefdSays, VersionedSays, WideSays}

pub bearer_saying : (v : Bearer) (d : Direction) (b : List ℕ) → bearer_format.spells d b (bearer_plain v) ↔ BearerSays v d b
bearer_saying v d b = struct_saying messages_of_each_shape "Bearer" Empty (called "level" (Number v.level) ∷
    called "named" (named_plain v.named) ∷
    called "body" (name_type_data_plain v.body) ∷
    called "last" (number_trees (bytes_of v.last)) ∷
    []) d b

pub beat_saying : (v : Beat) (d : Direction) (b : List ℕ) → beat_format.spells d b (beat_plain v) ↔ BeatSays v d b
beat_saying v d b = struct_saying messages_of_each_shape "Beat" Empty (called "type" (body_kind_plain v.kind) ∷
    called "payload" (number_trees (fixed_bytes_of v.payload)) ∷
    []) d b

pub body_kind_saying : (v : BodyKind) (d : Direction) (b : List ℕ) → body_kind_format.spells d b (body_kind_plain v) ↔ BodyKindSays v d b
body_kind_saying BodyKindChat d b = same_iff
body_kind_saying BodyKindFile d b = same_iff

pub body_kind_naming : (v : BodyKind) → value_number messages_of_each_shape "BodyKind" (body_kind_name v) ≡ body_kind_code v
body_kind_naming BodyKindChat = refl
body_kind_naming BodyKindFile = refl

pub body_kind_data_saying : (c : Tree) (v : BodyKindData) (d : Direction) (b : List ℕ) → (body_kind_data_format_for c).spells d b (body_kind_data_plain v) ↔ BodyKindDataSays c v d b
body_kind_data_saying c (BodyKindDataChat a0) d b = choice_saying messages_of_each_shape "KindBody" "Carrier.body_kind" (word "chat") c (called "code" (Number a0) ∷
    []) d b
body_kind_data_saying c (BodyKindDataFile a0) d b = choice_saying messages_of_each_shape "KindBody" "Carrier.body_kind" (word "file") c (called "content" (number_trees (bytes_of a0)) ∷
    []) d b

pub bounded_saying : (v : Bounded) (d : Direction) (b : List ℕ) → bounded_format.spells d b (bounded_plain v) ↔ BoundedSays v d b
bounded_saying v d b = struct_saying messages_of_each_shape "Bounded" Empty (called "session" (number_trees (fixed_bytes_of v.session)) ∷
    called "suites" (trees Number (elements_of v.suites)) ∷
    []) d b

pub by_version_saying : (c : Tree) (v : ByVersion) (d : Direction) (b : List ℕ) → (by_version_format_for c).spells d b (by_version_plain v) ↔ ByVersionSays c v d b
by_version_saying c (ByVersionCase1 a0) d b = choice_saying messages_of_each_shape "ByVersion" "Header.version" (Numeral 1) c (called "short" (Number a0) ∷
    []) d b
by_version_saying c (ByVersionCase2 a0 a1 a2) d b = choice_saying messages_of_each_shape "ByVersion" "Header.version" (Numeral 2) c (called "long" (Number a0) ∷
    called "tail" (number_trees (bytes_of a1)) ∷
    called "last" (Number a2) ∷
    []) d b
by_version_saying c ByVersionCase3 d b = choice_saying messages_of_each_shape "ByVersion" "Header.version" (Numeral 3) c [] d b

pub carrier_saying : (v : Carrier) (d : Direction) (b : List ℕ) → carrier_format.spells d b (carrier_plain v) ↔ CarrierSays v d b
carrier_saying v d b = struct_saying messages_of_each_shape "Carrier" Empty (called "body_kind" (body_kind_plain v.body_kind) ∷
    called "one" (kind_body_plain v.one) ∷
    called "count" (Number v.count) ∷
    called "many" (trees kind_body_plain (elements_of v.many)) ∷
    called "more" (trees kind_body_plain v.more.items) ∷
    []) d b

pub certificate_type_saying : (v : CertificateType) (d : Direction) (b : List ℕ) → certificate_type_format.spells d b (certificate_type_plain v) ↔ CertificateTypeSays v d b
certificate_type_saying CertificateTypeX509 d b = same_iff
certificate_type_saying CertificateTypeRawPublicKey d b = same_iff

pub certificate_type_naming : (v : CertificateType) → value_number messages_of_each_shape "CertificateType" (certificate_type_name v) ≡ certificate_type_code v
certificate_type_naming CertificateTypeX509 = refl
certificate_type_naming CertificateTypeRawPublicKey = refl

pub certificate_type_data_saying : (c : Tree) (v : CertificateTypeData) (d : Direction) (b : List ℕ) → (certificate_type_data_format_for c).spells d b (certificate_type_data_plain v) ↔ CertificateTypeDataSays c v d b
certificate_type_data_saying c (CertificateTypeDataX509 a0) d b = choice_saying messages_of_each_shape "Entry" "certificate_type" (word "X509") c (called "cert_data" (number_trees (fixed_bytes_of a0)) ∷
    []) d b
certificate_type_data_saying c (CertificateTypeDataRawPublicKey a0) d b = choice_saying messages_of_each_shape "Entry" "certificate_type" (word "RawPublicKey") c (called "ASN1_subjectPublicKeyInfo" (number_trees (bytes_of a0)) ∷
    []) d b

pub client_cert_type_extension_saying : (c : Tree) (v : ClientCertTypeExtension) (d : Direction) (b : List ℕ) → (client_cert_type_extension_format_for c).spells d b (client_cert_type_extension_plain v) ↔ ClientCertTypeExtensionSays c v d b
client_cert_type_extension_saying c (ClientCertTypeExtensionClient a0) d b = choice_saying messages_of_each_shape "ClientCertTypeExtension" "ClientOrServerExtension" (word "client") c (called "client_certificate_types" (trees certificate_type_plain (elements_of a0)) ∷
    []) d b
client_cert_type_extension_saying c (ClientCertTypeExtensionServer a0) d b = choice_saying messages_of_each_shape "ClientCertTypeExtension" "ClientOrServerExtension" (word "server") c (called "client_certificate_type" (certificate_type_plain a0) ∷
    []) d b

pub client_or_server_extension_saying : (v : ClientOrServerExtension) (d : Direction) (b : List ℕ) → client_or_server_extension_format.spells d b (client_or_server_extension_plain v) ↔ ClientOrServerExtensionSays v d b
client_or_server_extension_saying ClientOrServerExtensionClient d b = same_iff
client_or_server_extension_saying ClientOrServerExtensionServer d b = same_iff

pub client_or_server_extension_naming : (v : ClientOrServerExtension) → value_number messages_of_each_shape "ClientOrServerExtension" (client_or_server_extension_name v) ≡ client_or_server_extension_code v
client_or_server_extension_naming ClientOrServerExtensionClient = refl
client_or_server_extension_naming ClientOrServerExtensionServer = refl

pub content_type_data_saying : (v : ContentTypeData) (d : Direction) (b : List ℕ) → content_type_data_format.spells d b (content_type_data_plain v) ↔ ContentTypeDataSays v d b
content_type_data_saying (ContentTypeDataApplication a0 a1) d b = case_saying messages_of_each_shape "Framed" "content_type" (word "application") Empty (called "authenticated_data" (number_trees (bytes_of a0)) ∷
    called "application_data" (number_trees (bytes_of a1)) ∷
    []) d b
content_type_data_saying (ContentTypeDataProposal a0 a1 a2) d b = case_saying messages_of_each_shape "Framed" "content_type" (word "proposal") Empty (called "authenticated_data" (number_trees (bytes_of a0)) ∷
    called "proposal" (number_trees (bytes_of a1)) ∷
    called "level" (Number a2) ∷
    []) d b

pub empty_type_saying : (v : EmptyType) (d : Direction) (b : List ℕ) → empty_type_format.spells d b (empty_type_plain v) ↔ EmptyTypeSays v d b
empty_type_saying v d b = number_saying messages_of_each_shape "Empty" v.0 d b

pub entries_saying : (c : Tree) (v : Entries) (d : Direction) (b : List ℕ) → (entries_format_for c).spells d b (entries_plain v) ↔ EntriesSays c v d b
entries_saying c v d b = struct_saying messages_of_each_shape "Entries" c (called "count" (Number v.count) ∷
    called "entries" (trees entry_plain (elements_of v.entries)) ∷
    []) d b

pub entry_saying : (c : Tree) (v : Entry) (d : Direction) (b : List ℕ) → (entry_format_for c).spells d b (entry_plain v) ↔ EntrySays c v d b
entry_saying c v d b = struct_saying messages_of_each_shape "Entry" c (called "first" (Number v.first) ∷
    called "body" (certificate_type_data_plain v.body) ∷
    called "second" (Number v.second) ∷
    called "last" (number_trees (bytes_of v.last)) ∷
    []) d b

pub form_x04_saying : (v : FormX04) (d : Direction) (b : List ℕ) → form_x04_format.spells d b (form_x04_plain v) ↔ FormX04Says v d b
form_x04_saying v d b = same_iff

pub framed_saying : (v : Framed) (d : Direction) (b : List ℕ) → framed_format.spells d b (framed_plain v) ↔ FramedSays v d b
framed_saying v d b = struct_saying messages_of_each_shape "Framed" Empty (called "epoch" (Number v.epoch) ∷
    called "content_type" (content_type_data_plain v.content_type) ∷
    called "signature" (number_trees (bytes_of v.signature)) ∷
    []) d b

pub header_saying : (v : Header) (d : Direction) (b : List ℕ) → header_format.spells d b (header_plain v) ↔ HeaderSays v d b
header_saying v d b = struct_saying messages_of_each_shape "Header" Empty (called "version" (Number v.version) ∷
    called "rest" (number_trees (bytes_of v.rest_)) ∷
    []) d b

pub identity_saying : (v : Identity) (d : Direction) (b : List ℕ) → identity_format.spells d b (identity_plain v) ↔ IdentitySays v d b
identity_saying (IdentityFull a0 a1 a2 a3 a4) d b = case_saying messages_of_each_shape "Identity" "identity_type" (word "full") Empty (called "name_type" (name_type_plain a0) ∷
    called "level" (level_plain a1) ∷
    called "key" (number_trees (bytes_of a2)) ∷
    called "since" (Number a3) ∷
    called "last" (option_plain (λ v. number_trees (bytes_of v)) a4) ∷
    []) d b
identity_saying IdentityAnonymous d b = case_saying messages_of_each_shape "Identity" "identity_type" (word "anonymous") Empty [] d b

pub kind_body_saying : (c : Tree) (v : KindBody) (d : Direction) (b : List ℕ) → (kind_body_format_for c).spells d b (kind_body_plain v) ↔ KindBodySays c v d b
kind_body_saying c v d b = struct_saying messages_of_each_shape "KindBody" c (called "first" (Number v.first) ∷
    called "body" (body_kind_data_plain v.body) ∷
    []) d b

pub level_saying : (v : Level) (d : Direction) (b : List ℕ) → level_format.spells d b (level_plain v) ↔ LevelSays v d b
level_saying LevelLow d b = same_iff
level_saying LevelMiddle d b = same_iff
level_saying LevelHigh d b = same_iff

pub level_naming : (v : Level) → value_number messages_of_each_shape "Level" (level_name v) ≡ level_code v
level_naming LevelLow = refl
level_naming LevelMiddle = refl
level_naming LevelHigh = refl

pub line_saying : (v : Line) (d : Direction) (b : List ℕ) → line_format.spells d b (line_plain v) ↔ LineSays v d b
line_saying v d b = struct_saying messages_of_each_shape "Line" Empty (called "before" (Number v.before) ∷
    called "pixels" (trees pixel_plain (elements_of v.pixels)) ∷
    called "after" (Number v.after) ∷
    []) d b

pub lists_saying : (v : Lists) (d : Direction) (b : List ℕ) → lists_format.spells d b (lists_plain v) ↔ ListsSays v d b
lists_saying v d b = struct_saying messages_of_each_shape "Lists" Empty (called "octets" (trees Number (elements_of v.octets)) ∷
    called "levels" (trees level_plain (elements_of v.levels)) ∷
    called "keys" (trees (λ v. number_trees (bytes_of v)) (elements_of v.keys)) ∷
    called "identities" (trees identity_plain (elements_of v.identities)) ∷
    called "rows" (trees (λ v. trees Number v.items) v.rows.items) ∷
    called "kind" (Number v.kind) ∷
    called "names" (trees name_type_plain v.names.items) ∷
    called "row" (trees Number v.row.items) ∷
    []) d b

pub magic_x0102_saying : (v : MagicX0102) (d : Direction) (b : List ℕ) → magic_x0102_format.spells d b (magic_x0102_plain v) ↔ MagicX0102Says v d b
magic_x0102_saying v d b = same_iff

pub name_type_saying : (v : NameType) (d : Direction) (b : List ℕ) → name_type_format.spells d b (name_type_plain v) ↔ NameTypeSays v d b
name_type_saying v d b = number_saying messages_of_each_shape "NameType" v.0 d b

pub name_type_data_saying : (c : Tree) (v : NameTypeData) (d : Direction) (b : List ℕ) → (name_type_data_format_for c).spells d b (name_type_data_plain v) ↔ NameTypeDataSays c v d b
name_type_data_saying c (NameTypeDataHostName a0) d b = choice_saying messages_of_each_shape "Bearer" "Bearer.named.name_type" (word "host_name") c (called "host" (Number a0) ∷
    []) d b
name_type_data_saying c (NameTypeDataCase7 a0) d b = choice_saying messages_of_each_shape "Bearer" "Bearer.named.name_type" (Numeral 7) c (called "other" (number_trees (bytes_of a0)) ∷
    []) d b

pub name_type_host_name_saying : (v : NameTypeHostName) (d : Direction) (b : List ℕ) → name_type_host_name_format.spells d b (name_type_host_name_plain v) ↔ NameTypeHostNameSays v d b
name_type_host_name_saying v d b = same_iff

pub named_saying : (v : Named) (d : Direction) (b : List ℕ) → named_format.spells d b (named_plain v) ↔ NamedSays v d b
named_saying v d b = struct_saying messages_of_each_shape "Named" Empty (called "before" (Number v.before) ∷
    called "name_type" (name_type_plain v.name_type) ∷
    []) d b

pub node_tbs_saying : (v : NodeTBS) (d : Direction) (b : List ℕ) → node_tbs_format.spells d b (node_tbs_plain v) ↔ NodeTBSSays v d b
node_tbs_saying v d b = borrowed_saying messages_of_each_shape "NodeTBS" Empty (called "key" (number_trees (bytes_of v.key.now)) ∷
    called "node_source" (node_tbs_origin_plain v.node_source) ∷
    called "last" (option_plain (λ v. number_trees (bytes_of v)) v.last.now) ∷
    []) d b

pub node_tbs_origin_saying : (v : NodeTBSOrigin) (d : Direction) (b : List ℕ) → node_tbs_origin_format.spells d b (node_tbs_origin_plain v) ↔ NodeTBSOriginSays v d b
node_tbs_origin_saying NodeTBSOriginUpdate d b = case_saying messages_of_each_shape "NodeTBS" "node_source" (word "update") Empty [] d b
node_tbs_origin_saying (NodeTBSOriginCommit a0 a1) d b = case_saying messages_of_each_shape "NodeTBS" "node_source" (word "commit") Empty (called "parent_hash" (number_trees (bytes_of a0.now)) ∷
    called "level" (Number a1.now) ∷
    []) d b
node_tbs_origin_saying (NodeTBSOriginExternal a0) d b = case_saying messages_of_each_shape "NodeTBS" "node_source" (word "external") Empty (called "signature_key" (number_trees (bytes_of a0.now)) ∷
    []) d b

pub pixel_saying : (v : Pixel) (d : Direction) (b : List ℕ) → pixel_format.spells d b (pixel_plain v) ↔ PixelSays v d b
pixel_saying v d b = struct_saying messages_of_each_shape "Pixel" Empty (called "x" (Number v.x) ∷
    called "y" (Number v.y) ∷
    []) d b

pub point_saying : (v : Point) (d : Direction) (b : List ℕ) → point_format.spells d b (point_plain v) ↔ PointSays v d b
point_saying v d b = struct_saying messages_of_each_shape "Point" Empty (called "form" (form_x04_plain v.form) ∷
    called "x" (number_trees (bytes_of v.x)) ∷
    called "y" (number_trees (bytes_of v.y)) ∷
    []) d b

pub server_name_saying : (v : ServerName) (d : Direction) (b : List ℕ) → server_name_format.spells d b (server_name_plain v) ↔ ServerNameSays v d b
server_name_saying v d b = struct_saying messages_of_each_shape "ServerName" Empty (called "name_type" (name_type_host_name_plain v.name_type) ∷
    called "HostName" (number_trees (fixed_bytes_of v.name)) ∷
    []) d b

pub session_ticket_saying : (v : SessionTicket) (d : Direction) (b : List ℕ) → session_ticket_format.spells d b (session_ticket_plain v) ↔ SessionTicketSays v d b
session_ticket_saying v d b = struct_saying messages_of_each_shape "session_ticket" Empty (called "a.1" (number_trees (bytes_of v.a_1)) ∷
    called "type" (empty_type_plain v.kind) ∷
    called "version" (version_xfefd_plain v.version) ∷
    called "magic" (magic_x0102_plain v.magic) ∷
    called "wide" (Number v.wide) ∷
    []) d b

pub sized_type_saying : (v : SizedType) (d : Direction) (b : List ℕ) → sized_type_format.spells d b (sized_type_plain v) ↔ SizedTypeSays v d b
sized_type_saying v d b = struct_saying messages_of_each_shape "Sized" Empty (called "before" (Number v.before) ∷
    called "contents" (version_data_plain v.contents) ∷
    called "after" (Number v.after) ∷
    []) d b

pub three_data_saying : (v : ThreeData) (d : Direction) (b : List ℕ) → three_data_format.spells d b (three_data_plain v) ↔ ThreeDataSays v d b
three_data_saying v d b = struct_saying messages_of_each_shape "ThreeData" Empty (called "data" (trees number_trees (elements_of v.data_)) ∷
    []) d b

pub trees_saying : (v : Trees) (d : Direction) (b : List ℕ) → trees_format.spells d b (trees_plain v) ↔ TreesSays v d b
trees_saying v d b = struct_saying messages_of_each_shape "Trees" Empty (called "tree" (trees (option_plain (λ v. trees Number v.items)) v.tree.items) ∷
    []) d b

pub version_data_saying : (v : VersionData) (d : Direction) (b : List ℕ) → version_data_format.spells d b (version_data_plain v) ↔ VersionDataSays v d b
version_data_saying (VersionDataCase7 a0 a1) d b = case_saying messages_of_each_shape "Sized" "version" (Numeral 7) Empty (called "short" (Number a0) ∷
    called "long" (number_trees (bytes_of a1)) ∷
    []) d b
version_data_saying VersionDataCase9 d b = case_saying messages_of_each_shape "Sized" "version" (Numeral 9) Empty [] d b
version_data_saying (VersionDataCase11 a0) d b = case_saying messages_of_each_shape "Sized" "version" (Numeral 11) Empty (called "Key" (number_trees (bytes_of a0)) ∷
    []) d b

pub version_xfefd_saying : (v : VersionXfefd) (d : Direction) (b : List ℕ) → version_xfefd_format.spells d b (version_xfefd_plain v) ↔ VersionXfefdSays v d b
version_xfefd_saying v d b = same_iff

pub versioned_saying : (v : Versioned) (d : Direction) (b : List ℕ) → versioned_format.spells d b (versioned_plain v) ↔ VersionedSays v d b
versioned_saying v d b = struct_saying messages_of_each_shape "Versioned" Empty (called "header" (header_plain v.header) ∷
    called "parts" (by_version_plain v.parts_) ∷
    []) d b

pub wide_saying : (v : Wide) (d : Direction) (b : List ℕ) → wide_format.spells d b (wide_plain v) ↔ WideSays v d b
wide_saying v d b = struct_saying messages_of_each_shape "Wide" Empty (called "a" (Number v.a) ∷
    called "b" (Number (uint24_of v.b)) ∷
    called "c" (Number v.c) ∷
    called "d" (Number v.d) ∷
    called "e" (number_trees v.e) ∷
    called "f" (number_trees (fixed_bytes_of v.f)) ∷
    called "g" (number_trees (fixed_bytes_of v.g)) ∷
    called "h" (number_trees (fixed_bytes_of v.h)) ∷
    called "i" (number_trees (fixed_bytes_of v.i)) ∷
    called "j" (trees (λ v. number_trees (bytes_of v)) (elements_of v.j)) ∷
    called "k" (number_trees (string_bytes v.k)) ∷
    called "l" (option_plain Number v.l) ∷
    []) d b
