use Rattle.std.proofs.Common.{rules}
use Rattle.tls_codec.specs.OwnMessages.{u16_meets}
use Rattle.tls_codec.proofs.OwnMessages.{part_begins, part_refuses, tagged_begins, tagged_named, tagged_refuses_unknown, tagged_splits}
use Rattle.ct.specs.TimestampedEntryLogEntryTypeData.{timestamped_entry_log_entry_type_data_variants_meet}
use Rattle.ct.proofs.timestamped_entry_log_entry_type_data.TimestampedEntryLogEntryTypeDataDeserializeBytes.tls_deserialize_bytes.Goals as goal

pub returns-in_err-asn_1_cert-in-0-clause-splits : goal.returns-in_err-asn_1_cert-in-0-clause-splits
returns-in_err-asn_1_cert-in-0-clause-splits c = tagged_splits u16_meets timestamped_entry_log_entry_type_data_variants_meet _ _ _
    c.from_residual-in_err-asn_1_cert-in-0.ensures.1 c.in_ok-tag.ensures.splits c.in-0.is
    (part_refuses c.in_err-asn_1_cert-in-0.ensures.splits)

pub returns-in_err-asn_1_cert-in-0-clause-named : goal.returns-in_err-asn_1_cert-in-0-clause-named
returns-in_err-asn_1_cert-in-0-clause-named c = tagged_named _ _ c.from_residual-in_err-asn_1_cert-in-0.ensures.1 c.in_ok-tag.ensures.splits
    c.in-0.is c.in_err-asn_1_cert-in-0.ensures.named

pub returns-in_ok-asn_1_cert-in-0-clause-splits : goal.returns-in_ok-asn_1_cert-in-0-clause-splits
returns-in_ok-asn_1_cert-in-0-clause-splits c = tagged_begins u16_meets timestamped_entry_log_entry_type_data_variants_meet
    c.in_ok-tag.ensures.splits c.in-0.is (part_begins c.in_ok-asn_1_cert-in-0.ensures.splits)

pub returns-in_err-pre_cert-in-1-clause-splits : goal.returns-in_err-pre_cert-in-1-clause-splits
returns-in_err-pre_cert-in-1-clause-splits c = tagged_splits u16_meets timestamped_entry_log_entry_type_data_variants_meet _ _ _
    c.from_residual-in_err-pre_cert-in-1.ensures.1 c.in_ok-tag.ensures.splits c.in-1.is (part_refuses c.in_err-pre_cert-in-1.ensures.splits)

pub returns-in_err-pre_cert-in-1-clause-named : goal.returns-in_err-pre_cert-in-1-clause-named
returns-in_err-pre_cert-in-1-clause-named c = tagged_named _ _ c.from_residual-in_err-pre_cert-in-1.ensures.1 c.in_ok-tag.ensures.splits
    c.in-1.is c.in_err-pre_cert-in-1.ensures.named

pub returns-in_ok-pre_cert-in-1-clause-splits : goal.returns-in_ok-pre_cert-in-1-clause-splits
returns-in_ok-pre_cert-in-1-clause-splits c = tagged_begins u16_meets timestamped_entry_log_entry_type_data_variants_meet
    c.in_ok-tag.ensures.splits c.in-1.is (part_begins c.in_ok-pre_cert-in-1.ensures.splits)

pub returns-in_default-clause-splits : goal.returns-in_default-clause-splits
returns-in_default-clause-splits c = let is = c.unknown_value.ensures in rw is
    (tagged_refuses_unknown u16_meets timestamped_entry_log_entry_type_data_variants_meet c.in_ok-tag.ensures.splits (search rules))
