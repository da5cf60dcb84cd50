-- Line: what it stands for, its format and its law.
use Rattle.std.proofs.Common.{arith}
use Rattle.tls_codec.specs.OwnMessages.{Tree, Number, trees, Format, number_format, triple_tree, triple_format, MeetsLaws, u16_meets, u32_meets, triple_meets}
use Rattle.tls_codec.specs.Contents.{elements_of}
use Rattle.tls_codec_cases.specs.Exactly.{exactly_list_format, exactly_list_meets}
use Rattle.messages_of_each_shape.specs.Pixel.{pixel_plain, pixel_format, pixel_meets}
use Rattle.messages_of_each_shape.specs.declared.line.Line.{Line}

abbrev pub line_plain : Line → Tree
line_plain v = triple_tree (Number v.before) (trees pixel_plain (elements_of v.pixels)) (Number v.after)

abbrev pub line_format : Format
line_format = triple_format (number_format 4) (exactly_list_format 6 pixel_format) (number_format 2)

pub line_meets : MeetsLaws line_format
line_meets = triple_meets u32_meets (exactly_list_meets 6 (omega arith) pixel_meets) u16_meets
