-- EncryptedExtensions: what it stands for, its format and its law.
use Rattle.tls_codec.specs.OwnMessages.{Tree, trees, Format, fixed_list_format, MeetsLaws, fixed_list_meets}
use Rattle.tls_codec.specs.Contents.{elements_of}
use Rattle.tls13.specs.Extension.{extension_plain, extension_format, extension_meets}
use Rattle.tls13.specs.declared.encrypted_extensions.EncryptedExtensions.{EncryptedExtensions}

abbrev pub encrypted_extensions_plain : EncryptedExtensions → Tree
encrypted_extensions_plain v = trees extension_plain (elements_of v.extensions)

abbrev pub encrypted_extensions_format : Format
encrypted_extensions_format = fixed_list_format 2 extension_format

pub encrypted_extensions_meets : MeetsLaws encrypted_extensions_format
encrypted_extensions_meets = fixed_list_meets 2 extension_meets
