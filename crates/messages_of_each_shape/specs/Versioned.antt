-- Versioned: what it stands for, its format and its law.
use Rattle.tls_codec.specs.OwnMessages.{Tree, Join, Format, then_format, MeetsLaws, then_meets}
use Rattle.messages_of_each_shape.specs.Header.{header_plain, header_format, header_meets}
use Rattle.messages_of_each_shape.specs.ByVersion.{by_version_plain, by_version_format_for, by_version_meets_for}
use Rattle.messages_of_each_shape.specs.Header.{header_u16}
use Rattle.messages_of_each_shape.specs.declared.versioned.Versioned.{Versioned}

abbrev pub versioned_plain : Versioned → Tree
versioned_plain v =
    Join
    (header_plain v.header)
    (by_version_plain v.parts_)

abbrev pub versioned_format : Format
versioned_format =
    then_format
    header_format
    (λ c. by_version_format_for (header_u16 c))

pub versioned_meets : MeetsLaws versioned_format
versioned_meets =
    then_meets
    header_meets
    (λ c. by_version_meets_for (header_u16 c))
