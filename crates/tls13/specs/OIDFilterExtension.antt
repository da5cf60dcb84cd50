-- OIDFilterExtension: what it stands for, its format and its law.
use Rattle.tls_codec.specs.OwnMessages.{Tree, trees, Format, fixed_list_format, MeetsLaws, fixed_list_meets}
use Rattle.tls_codec.specs.Contents.{elements_of}
use Rattle.tls13.specs.OIDFilter.{oid_filter_plain, oid_filter_format, oid_filter_meets}
use Rattle.tls13.specs.declared.oid_filter_extension.OIDFilterExtension.{OIDFilterExtension}

abbrev pub oid_filter_extension_plain : OIDFilterExtension → Tree
oid_filter_extension_plain v = trees oid_filter_plain (elements_of v.filters)

abbrev pub oid_filter_extension_format : Format
oid_filter_extension_format = fixed_list_format 2 oid_filter_format

pub oid_filter_extension_meets : MeetsLaws oid_filter_extension_format
oid_filter_extension_meets = fixed_list_meets 2 oid_filter_meets
