-- The fields of EncryptedExtensions.
use Rattle.std.specs.Prelude.{ℕ, List}
use Rattle.tls_codec.specs.OwnMessages.{fixed_list_format}
use Rattle.tls_codec_outcome.specs.Fields.{IsFieldFrom}
use Rattle.tls13.specs.Extension.{extension_format}
use Rattle.tls13_fields.specs.declared.encrypted_extensions.EncryptedExtensionsFields.{EncryptedExtensionsFields}

-- x begins with them, one after the other
pub record AreEncryptedExtensionsFields (x : List ℕ) (f : EncryptedExtensionsFields) : Type 0 where
  pub extensions : IsFieldFrom (fixed_list_format 2 extension_format) x 0 f.extensions
