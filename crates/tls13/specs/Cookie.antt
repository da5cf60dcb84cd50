-- Cookie: what it stands for, its format and its law.
use Rattle.std.proofs.Common.{arith}
use Rattle.tls_codec.specs.OwnMessages.{Tree, number_trees, Format, bounded_bytes_format, MeetsLaws, bounded_bytes_meets}
use Rattle.tls_codec.specs.Contents.{fixed_bytes_of}
use Rattle.tls13.specs.declared.cookie.Cookie.{Cookie}

abbrev pub cookie_plain : Cookie → Tree
cookie_plain v = number_trees (fixed_bytes_of v.cookie)

abbrev pub cookie_format : Format
cookie_format = bounded_bytes_format 2 1 65535

pub cookie_meets : MeetsLaws cookie_format
cookie_meets = bounded_bytes_meets 2 1 65535 (omega arith)
