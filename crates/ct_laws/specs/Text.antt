-- The text, line by line: ct.tls.
use Rattle.std.specs.Prelude.{ℕ, List, [], ◌∷◌}
use Rattle.tls_presentation.specs.Cut.{lines}

abbrev pub text : List ℕ
text = lines (
    "// Messages of Certificate Transparency (RFC 6962, sections 3.1 to 3.5), as printed. What they take from RFC 5246 comes first; ct.notes has what the RFCs say in prose. It was written down from memory." ∷
    "" ∷
    "// ---- RFC 5246, section 4.7, Cryptographic Attributes" ∷
    "" ∷
    "      struct {" ∷
    "         SignatureAndHashAlgorithm algorithm;" ∷
    "         opaque signature<0..2^16-1>;" ∷
    "      } DigitallySigned;" ∷
    "" ∷
    "// ---- RFC 5246, section 7.4.1.4.1, Signature Algorithms" ∷
    "" ∷
    "      enum {" ∷
    "          none(0), md5(1), sha1(2), sha224(3), sha256(4), sha384(5)," ∷
    "          sha512(6), (255)" ∷
    "      } HashAlgorithm;" ∷
    "" ∷
    "      enum { anonymous(0), rsa(1), dsa(2), ecdsa(3), (255) }" ∷
    "        SignatureAlgorithm;" ∷
    "" ∷
    "      struct {" ∷
    "            HashAlgorithm hash;" ∷
    "            SignatureAlgorithm signature;" ∷
    "      } SignatureAndHashAlgorithm;" ∷
    "" ∷
    "// ---- RFC 6962, section 3.1, Log Entries" ∷
    "" ∷
    "       enum { x509_entry(0), precert_entry(1), (65535) } LogEntryType;" ∷
    "" ∷
    "       struct {" ∷
    "           LogEntryType entry_type;" ∷
    "           select (entry_type) {" ∷
    "               case x509_entry: X509ChainEntry;" ∷
    "               case precert_entry: PrecertChainEntry;" ∷
    "           } entry;" ∷
    "       } LogEntry;" ∷
    "" ∷
    "       opaque ASN.1Cert<1..2^24-1>;" ∷
    "" ∷
    "       struct {" ∷
    "           ASN.1Cert leaf_certificate;" ∷
    "           ASN.1Cert certificate_chain<0..2^24-1>;" ∷
    "       } X509ChainEntry;" ∷
    "" ∷
    "       struct {" ∷
    "           ASN.1Cert pre_certificate;" ∷
    "           ASN.1Cert precertificate_chain<0..2^24-1>;" ∷
    "       } PrecertChainEntry;" ∷
    "" ∷
    "// ---- section 3.2, Structure of the Signed Certificate Timestamp" ∷
    "" ∷
    "       enum { certificate_timestamp(0), tree_hash(1), (255) }" ∷
    "         SignatureType;" ∷
    "" ∷
    "       enum { v1(0), (255) }" ∷
    "         Version;" ∷
    "" ∷
    "         struct {" ∷
    "             opaque key_id[32];" ∷
    "         } LogID;" ∷
    "" ∷
    "         opaque TBSCertificate<1..2^24-1>;" ∷
    "" ∷
    "         struct {" ∷
    "           opaque issuer_key_hash[32];" ∷
    "           TBSCertificate tbs_certificate;" ∷
    "         } PreCert;" ∷
    "" ∷
    "         opaque CtExtensions<0..2^16-1>;" ∷
    "" ∷
    "       struct {" ∷
    "           Version sct_version;" ∷
    "           LogID id;" ∷
    "           uint64 timestamp;" ∷
    "           CtExtensions extensions;" ∷
    "           digitally-signed struct {" ∷
    "               Version sct_version;" ∷
    "               SignatureType signature_type = certificate_timestamp;" ∷
    "               uint64 timestamp;" ∷
    "               LogEntryType entry_type;" ∷
    "               select(entry_type) {" ∷
    "                   case x509_entry: ASN.1Cert;" ∷
    "                   case precert_entry: PreCert;" ∷
    "               } signed_entry;" ∷
    "              CtExtensions extensions;" ∷
    "           };" ∷
    "       } SignedCertificateTimestamp;" ∷
    "" ∷
    "// ---- section 3.3, Including the Signed Certificate Timestamp in the TLS Handshake" ∷
    "" ∷
    "        opaque SerializedSCT<1..2^16-1>;" ∷
    "" ∷
    "        struct {" ∷
    "            SerializedSCT sct_list <1..2^16-1>;" ∷
    "        } SignedCertificateTimestampList;" ∷
    "" ∷
    "// ---- section 3.4, Merkle Trees" ∷
    "" ∷
    "       enum { timestamped_entry(0), (255) }" ∷
    "         MerkleLeafType;" ∷
    "" ∷
    "       struct {" ∷
    "           uint64 timestamp;" ∷
    "           LogEntryType entry_type;" ∷
    "           select(entry_type) {" ∷
    "               case x509_entry: ASN.1Cert;" ∷
    "               case precert_entry: PreCert;" ∷
    "           } signed_entry;" ∷
    "           CtExtensions extensions;" ∷
    "       } TimestampedEntry;" ∷
    "" ∷
    "       struct {" ∷
    "           Version version;" ∷
    "           MerkleLeafType leaf_type;" ∷
    "           select (leaf_type) {" ∷
    "               case timestamped_entry: TimestampedEntry;" ∷
    "           }" ∷
    "       } MerkleTreeLeaf;" ∷
    "" ∷
    "// ---- section 3.5, Signed Tree Head" ∷
    "" ∷
    "       digitally-signed struct {" ∷
    "           Version version;" ∷
    "           SignatureType signature_type = tree_hash;" ∷
    "           uint64 timestamp;" ∷
    "           uint64 tree_size;" ∷
    "           opaque sha256_root_hash[32];" ∷
    "       } TreeHeadSignature;" ∷
    [])
