-- Add: what it stands for, its format and its law.
use Rattle.tls_codec.specs.OwnMessages.{Tree, Format, MeetsLaws}
use Rattle.mls_tree.specs.KeyPackage.{key_package_plain, key_package_format, key_package_meets}
use Rattle.mls_group.specs.declared.add.Add.{Add}

abbrev pub add_plain : Add → Tree
add_plain v = key_package_plain v.key_package

abbrev pub add_format : Format
add_format = key_package_format

pub add_meets : MeetsLaws add_format
add_meets = key_package_meets
