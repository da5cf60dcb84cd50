-- The text, line by line: mls_group.tls.
use Rattle.std.specs.Prelude.{ℕ, List, [], ◌∷◌}
use Rattle.tls_presentation.specs.Cut.{lines}

abbrev pub text : List ℕ
text = lines (
    "// Messages of MLS (RFC 9420): proposals, commits, the group and what a new member is sent. Definitions are in the" ∷
    "// order of the RFC's sections, under its names." ∷
    "" ∷
    "// ---- section 5.2, hashes that name a message" ∷
    "opaque HashReference<V>;" ∷
    "HashReference KeyPackageRef;" ∷
    "HashReference ProposalRef;" ∷
    "" ∷
    "struct {" ∷
    "    opaque label<V>;" ∷
    "    opaque value<V>;" ∷
    "} RefHashInput;" ∷
    "" ∷
    "// ---- section 6.1, here since a group's information has one" ∷
    "opaque MAC<V>;" ∷
    "" ∷
    "// ---- section 7.6, update paths" ∷
    "struct {" ∷
    "    opaque kem_output<V>;" ∷
    "    opaque ciphertext<V>;" ∷
    "} HPKECiphertext;" ∷
    "" ∷
    "struct {" ∷
    "    HPKEPublicKey encryption_key;" ∷
    "    HPKECiphertext encrypted_path_secret<V>;" ∷
    "} UpdatePathNode;" ∷
    "" ∷
    "struct {" ∷
    "    LeafNode leaf_node;" ∷
    "    UpdatePathNode nodes<V>;" ∷
    "} UpdatePath;" ∷
    "" ∷
    "// ---- section 8, the key schedule" ∷
    "struct {" ∷
    "    uint16 length;" ∷
    "    opaque label<V>;" ∷
    "    opaque context<V>;" ∷
    "} KDFLabel;" ∷
    "" ∷
    "// ---- section 8.1, group contexts" ∷
    "struct {" ∷
    "    ProtocolVersion version = mls10;" ∷
    "    CipherSuite cipher_suite;" ∷
    "    opaque group_id<V>;" ∷
    "    uint64 epoch;" ∷
    "    opaque tree_hash<V>;" ∷
    "    opaque confirmed_transcript_hash<V>;" ∷
    "    Extension extensions<V>;" ∷
    "} GroupContext;" ∷
    "" ∷
    "// ---- section 8.4, pre-shared keys" ∷
    "enum {" ∷
    "    reserved(0)," ∷
    "    external(1)," ∷
    "    resumption(2)," ∷
    "    (255)" ∷
    "} PSKType;" ∷
    "" ∷
    "enum {" ∷
    "    reserved(0)," ∷
    "    application(1)," ∷
    "    reinit(2)," ∷
    "    branch(3)," ∷
    "    (255)" ∷
    "} ResumptionPSKUsage;" ∷
    "" ∷
    "struct {" ∷
    "    PSKType psktype;" ∷
    "    select (PreSharedKeyID.psktype) {" ∷
    "        case external:" ∷
    "            opaque psk_id<V>;" ∷
    "" ∷
    "        case resumption:" ∷
    "            ResumptionPSKUsage usage;" ∷
    "            opaque psk_group_id<V>;" ∷
    "            uint64 psk_epoch;" ∷
    "    } PSKOrigin;" ∷
    "    opaque psk_nonce<V>;" ∷
    "} PreSharedKeyID;" ∷
    "" ∷
    "struct {" ∷
    "    PreSharedKeyID id;" ∷
    "    uint16 index;" ∷
    "    uint16 count;" ∷
    "} PSKLabel;" ∷
    "" ∷
    "// ---- section 11.1, required capabilities" ∷
    "struct {" ∷
    "    ExtensionType extension_types<V>;" ∷
    "    ProposalType proposal_types<V>;" ∷
    "    CredentialType credential_types<V>;" ∷
    "} RequiredCapabilities;" ∷
    "" ∷
    "// ---- section 12.1.1" ∷
    "struct {" ∷
    "    KeyPackage key_package;" ∷
    "} Add;" ∷
    "" ∷
    "// ---- section 12.1.2" ∷
    "struct {" ∷
    "    LeafNode leaf_node;" ∷
    "} Update;" ∷
    "" ∷
    "// ---- section 12.1.3" ∷
    "struct {" ∷
    "    uint32 removed;" ∷
    "} Remove;" ∷
    "" ∷
    "// ---- section 12.1.4" ∷
    "struct {" ∷
    "    PreSharedKeyID psk;" ∷
    "} PreSharedKey;" ∷
    "" ∷
    "// ---- section 12.1.5" ∷
    "struct {" ∷
    "    opaque group_id<V>;" ∷
    "    ProtocolVersion version;" ∷
    "    CipherSuite cipher_suite;" ∷
    "    Extension extensions<V>;" ∷
    "} ReInit;" ∷
    "" ∷
    "// ---- section 12.1.6" ∷
    "struct {" ∷
    "    opaque kem_output<V>;" ∷
    "} ExternalInit;" ∷
    "" ∷
    "// ---- section 12.1.7" ∷
    "struct {" ∷
    "    Extension extensions<V>;" ∷
    "} GroupContextExtensions;" ∷
    "" ∷
    "// ---- section 12.1.8.1, the extension external_senders" ∷
    "struct {" ∷
    "    SignaturePublicKey signature_key;" ∷
    "    Credential credential;" ∷
    "} ExternalSender;" ∷
    "" ∷
    "struct {" ∷
    "    ExternalSender external_senders<V>;" ∷
    "} ExternalSenders;" ∷
    "" ∷
    "// ---- section 12.1, proposals, here since they are made of those above" ∷
    "struct {" ∷
    "    ProposalType proposal_type;" ∷
    "    select (Proposal.proposal_type) {" ∷
    "        case add:                      Add add;" ∷
    "        case update:                   Update update;" ∷
    "        case remove:                   Remove remove;" ∷
    "        case psk:                      PreSharedKey psk;" ∷
    "        case reinit:                   ReInit reinit;" ∷
    "        case external_init:            ExternalInit external_init;" ∷
    "        case group_context_extensions: GroupContextExtensions group_context_extensions;" ∷
    "    };" ∷
    "} Proposal;" ∷
    "" ∷
    "// ---- section 12.4, commits" ∷
    "enum {" ∷
    "    reserved(0)," ∷
    "    proposal(1)," ∷
    "    reference(2)," ∷
    "    (255)" ∷
    "} ProposalOrRefType;" ∷
    "" ∷
    "struct {" ∷
    "    ProposalOrRefType type;" ∷
    "    select (ProposalOrRef.type) {" ∷
    "        case proposal:  Proposal proposal;" ∷
    "        case reference: ProposalRef reference;" ∷
    "    };" ∷
    "} ProposalOrRef;" ∷
    "" ∷
    "struct {" ∷
    "    ProposalOrRef proposals<V>;" ∷
    "    optional<UpdatePath> path;" ∷
    "} Commit;" ∷
    "" ∷
    "// ---- section 12.4.3, the information of a group" ∷
    "struct {" ∷
    "    GroupContext group_context;" ∷
    "    Extension extensions<V>;" ∷
    "    MAC confirmation_tag;" ∷
    "    uint32 signer;" ∷
    "    /* SignWithLabel(., \"GroupInfoTBS\", GroupInfoTBS) */" ∷
    "    opaque signature<V>;" ∷
    "} GroupInfo;" ∷
    "" ∷
    "struct {" ∷
    "    GroupContext group_context;" ∷
    "    Extension extensions<V>;" ∷
    "    MAC confirmation_tag;" ∷
    "    uint32 signer;" ∷
    "} GroupInfoTBS;" ∷
    "" ∷
    "// ---- section 12.4.3.1, joining by a welcome" ∷
    "struct {" ∷
    "    opaque path_secret<V>;" ∷
    "} PathSecret;" ∷
    "" ∷
    "struct {" ∷
    "    opaque joiner_secret<V>;" ∷
    "    optional<PathSecret> path_secret;" ∷
    "    PreSharedKeyID psks<V>;" ∷
    "} GroupSecrets;" ∷
    "" ∷
    "struct {" ∷
    "    KeyPackageRef new_member;" ∷
    "    HPKECiphertext encrypted_group_secrets;" ∷
    "} EncryptedGroupSecrets;" ∷
    "" ∷
    "struct {" ∷
    "    CipherSuite cipher_suite;" ∷
    "    EncryptedGroupSecrets secrets<V>;" ∷
    "    opaque encrypted_group_info<V>;" ∷
    "} Welcome;" ∷
    "" ∷
    "// ---- section 12.4.3.2, the extension external_pub" ∷
    "struct {" ∷
    "    HPKEPublicKey external_pub;" ∷
    "} ExternalPub;" ∷
    [])
