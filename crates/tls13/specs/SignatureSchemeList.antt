-- SignatureSchemeList: what it stands for, its format and its law.
use Rattle.std.proofs.Common.{arith}
use Rattle.tls_codec.specs.OwnMessages.{Tree, trees, Format, bounded_list_format, MeetsLaws, bounded_list_meets}
use Rattle.tls_codec.specs.Contents.{elements_of}
use Rattle.tls13.specs.SignatureScheme.{signature_scheme_plain, signature_scheme_format, signature_scheme_meets}
use Rattle.tls13.specs.declared.signature_scheme_list.SignatureSchemeList.{SignatureSchemeList}

abbrev pub signature_scheme_list_plain : SignatureSchemeList → Tree
signature_scheme_list_plain v = trees signature_scheme_plain (elements_of v.supported_signature_algorithms)

abbrev pub signature_scheme_list_format : Format
signature_scheme_list_format = bounded_list_format 2 2 65534 signature_scheme_format

pub signature_scheme_list_meets : MeetsLaws signature_scheme_list_format
signature_scheme_list_meets = bounded_list_meets 2 2 65534 (omega arith) signature_scheme_meets
