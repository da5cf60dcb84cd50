-- For sources and sinks, your own and others': their counts and faults, what they give and what they receive.
pub use Rattle.tls_codec_wire.specs.Counts.{Counts, FaultIsCounted, NoneFell, OnlyInterrupted, RoseBy, only_interrupted_none_fell, only_interrupted_trans, only_interrupted_refl, count_limit, none_fell_trans, no_counts, only_shortages, raised, none_fell_refl}
pub use Rattle.tls_codec_wire.specs.Device.{AppendedAtHand, FaultRaises, Gave, GiveIsCounted, Gives, GivesFromFront, GivesInOrder, GivesNothing, IsAtHand, IsPrefix, NoCountFalls, PullIsCounted, PulledOnto, Received, bytes_moved}
pub use Rattle.tls_codec_wire.specs.declared.device.Fault.{Fault}
pub use Rattle.tls_codec_wire.specs.declared.device.Fault.TheVariants.{Failed, Interrupted, NoMemory}
pub use Rattle.tls_codec_wire.specs.declared.device.Fill.TheVariants.{Full, TooFew, Unknown}
pub use Rattle.tls_codec_wire.specs.Transfer.{IsShortOf}
pub use Rattle.tls_codec_wire.specs.Seen.{Causes, RefusedFor, Seen, reported_or}
