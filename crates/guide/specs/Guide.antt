-- What the program's message stands for, what it does, and what its own source has left.
use Rattle.std.specs.Prelude.{◌≡◌, ◌⊎◌, ℕ, List, ◌++◌, Result, Ok, Err}
use Rattle.tls_codec.specs.OwnMessages.{Tree, Number, Empty, Join, number_trees, Format, number_format, nothing_format, fields_format, bytes_format, MeetsLaws, u16_meets, nothing_meets, fields_meets, bytes_meets}
use Rattle.tls_codec.specs.Contents.{bytes_of}
use Rattle.tls_codec.specs.Calls.{Error, Reads, RefusesFromSource, SinkGhosts, SourceGhosts, Writes}
use Rattle.guide.specs.declared.chained.Chained.{Chained}
use Rattle.guide.specs.declared.extension.Extension.{Extension}

-- ---- an extension: two fields in a row

abbrev pub extension_plain : Extension → Tree
extension_plain extension = Join (Number extension.extension_type) (Join (number_trees (bytes_of extension.extension_data)) Empty)

abbrev pub extension_format : Format
extension_format = fields_format (number_format 2) (fields_format bytes_format nothing_format)

pub extension_meets : MeetsLaws extension_format
extension_meets = fields_meets u16_meets (fields_meets bytes_meets nothing_meets)

-- ---- the program

-- no extension was read, and nothing was sent
pub record NoneRead {S T : Type 0} (source : SourceGhosts S) (old new : S) (before after : T) (result : Result ℕ Error) : Type 0 where
  pub error : Error
  pub left : RefusesFromSource extension_format source old new error
  pub unsent : after ≡ before
  pub is : result ≡ Err error

-- an extension was read, and its shortest form was sent, or a beginning of that
pub record Rewritten {S T : Type 0} (source : SourceGhosts S) (sink : SinkGhosts T)
    (old new : S) (before after : T) (result : Result ℕ Error) : Type 0 where
  pub extension : Extension
  pub read : Reads extension_format extension_plain source old new (Ok extension)
  pub sent : Writes extension_format (extension_plain extension) sink before after result

-- the effect on the input and the output
abbrev pub Rewrites : {S T : Type 0} → SourceGhosts S → SinkGhosts T → S → S → T → T → Result ℕ Error → Type 0
Rewrites source sink old new before after result =
    NoneRead source old new before after result ⊎ Rewritten source sink old new before after result

-- ---- the source of two slices

-- the bytes that it has not given yet
abbrev pub left_of : Chained → List ℕ
left_of s = s.first.now ++ s.second.now
