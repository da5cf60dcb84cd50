-- Alert: what it stands for, its format and its law.
use Rattle.tls_codec.specs.OwnMessages.{Tree, Format, pair_tree, pair_format, MeetsLaws, pair_meets}
use Rattle.tls13.specs.AlertLevel.{alert_level_plain, alert_level_format, alert_level_meets}
use Rattle.tls13.specs.AlertDescription.{alert_description_plain, alert_description_format, alert_description_meets}
use Rattle.tls13.specs.declared.alert.Alert.{Alert}

abbrev pub alert_plain : Alert → Tree
alert_plain v = pair_tree (alert_level_plain v.level) (alert_description_plain v.description)

abbrev pub alert_format : Format
alert_format = pair_format alert_level_format alert_description_format

pub alert_meets : MeetsLaws alert_format
alert_meets = pair_meets alert_level_meets alert_description_meets
