use Rattle.tls_codec.proofs.OwnMessages.{tagged_appends}
use Rattle.ct.specs.LogEntryTypeData.{log_entry_type_data_variants_meet}
use Rattle.ct.proofs.log_entry_type_data.LogEntryTypeDataSerialize.tls_serialize_into.Goals as goal

pub returns-in-X509Entry-clause-appends : goal.returns-in-X509Entry-clause-appends
returns-in-X509Entry-clause-appends c = let is = c.in-X509Entry.is in rw is
    (tagged_appends _ _ log_entry_type_data_variants_meet _ _ _ _ c.tls_serialize_into.ensures.appends)

pub returns-in-PrecertEntry-clause-appends : goal.returns-in-PrecertEntry-clause-appends
returns-in-PrecertEntry-clause-appends c = let is = c.in-PrecertEntry.is in rw is
    (tagged_appends _ _ log_entry_type_data_variants_meet _ _ _ _ c.tls_serialize_into-in-PrecertEntry.ensures.appends)
