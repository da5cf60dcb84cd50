use Rattle.tls_codec.proofs.OwnMessages.{tagged_writes}
use Rattle.ct.specs.LogEntry.{log_entry_variants_meet}
use Rattle.ct.proofs.log_entry.LogEntrySerialize.tls_serialize.Goals as goal

pub returns-in-X509Entry-clause-writes : goal.returns-in-X509Entry-clause-writes
returns-in-X509Entry-clause-writes g c = let is = c.in-X509Entry.is in rw is
    (tagged_writes _ _ log_entry_variants_meet _ _ _ _ _ c.tls_serialize.ensures.writes)

pub returns-in-PrecertEntry-clause-writes : goal.returns-in-PrecertEntry-clause-writes
returns-in-PrecertEntry-clause-writes g c = let is = c.in-PrecertEntry.is in rw is
    (tagged_writes _ _ log_entry_variants_meet _ _ _ _ _ c.tls_serialize-in-PrecertEntry.ensures.writes)
