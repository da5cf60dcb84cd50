-- Pixel: what it stands for, its format and its law.
use Rattle.tls_codec.specs.OwnMessages.{Tree, Number, Format, number_format, pair_tree, pair_format, MeetsLaws, u8_meets, u16_meets, pair_meets}
use Rattle.messages_of_each_shape.specs.declared.pixel.Pixel.{Pixel}

abbrev pub pixel_plain : Pixel → Tree
pixel_plain v = pair_tree (Number v.x) (Number v.y)

abbrev pub pixel_format : Format
pixel_format = pair_format (number_format 1) (number_format 2)

pub pixel_meets : MeetsLaws pixel_format
pixel_meets = pair_meets u8_meets u16_meets
