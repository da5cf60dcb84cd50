-- The lemmas that the returns of an enum of your own cite.
pub use Rattle.tls_codec_base.proofs.TaggedDecoding.{part_begins, part_given, part_leaves, part_named, part_refuses, tag_named_source, tag_reads, tagged_begins, tagged_given, tagged_leaves_unknown, tagged_named, tagged_named_source, tagged_reads, tagged_refuses_unknown, tagged_splits, unknown_named_source}
pub use Rattle.tls_codec_base.proofs.TaggedEncoding.{alone_appends, alone_writes, tagged_appends, tagged_makes, tagged_writes}
pub use Rattle.tls_codec_base.proofs.Values.{value_appends, value_begins, value_given, value_writes}
-- And those of a part that a context decides.
pub use Rattle.tls_codec_base.proofs.Chosen.{chosen_appends, chosen_begins, chosen_given, chosen_leaves, chosen_named, chosen_refused, chosen_writes}
pub use Rattle.tls_codec_base.proofs.Contexts.{appends_in, named_in, reads_in, splits_in, writes_in}
pub use Rattle.tls_codec_base.proofs.Presence.{refused_append, refused_breaks}
pub use Rattle.tls_codec_base.proofs.ThenDecoding.{rest_named, then_begins, then_given, then_leaves_first, then_leaves_rest, then_named_first, then_named_rest, then_refuses_first, then_refuses_rest}
pub use Rattle.tls_codec_base.proofs.ThenEncoding.{then_appended, then_breaks, then_not_appended, then_sends}
