-- A value and the bytes after it, which go to the end of what is read (RFC 6520, section 4).
use Rattle.tls_codec_grammar.specs.Tree.{Tree, Join, number_trees}
use Rattle.tls_codec_grammar.specs.Format.{Format, fields_format}
use Rattle.tls_codec_grammar.specs.Inside.{bytes_to_end_format}
use Rattle.tls_codec_grammar.specs.Lawful.{MeetsLaws, MeetsLawsInside}
use Rattle.tls_codec_grammar.specs.laws.InsideLaws.{bytes_to_end_meet, fields_meet_inside}
use Rattle.tls_codec_cases.specs.declared.followed.Followed.{Followed}

abbrev pub followed_plain : {T : Type 0} → (T → Tree) → Followed T → Tree
followed_plain plain v = Join (plain v.content) (number_trees v.rest.items)

abbrev pub followed_format : Format → Format
followed_format content = fields_format content bytes_to_end_format

pub followed_meets : {content : Format} → MeetsLaws content → MeetsLawsInside (followed_format content)
followed_meets l = fields_meet_inside l bytes_to_end_meet
