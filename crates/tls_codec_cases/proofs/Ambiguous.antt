-- Cases that aren't told apart are refused by every call.
use Rattle.std.proofs.Common.{◌≡◌, [], inl, inr, refl}
use Rattle.std.proofs.KnownBytes.{Appends-nil}
use Rattle.tls_codec_wire.specs.Counts.{none_fell_refl}
use Rattle.tls_codec_wire.specs.Device.{GivesNothing}
use Rattle.tls_codec_wire.proofs.Seen.{refused_now}
use Rattle.tls_codec_wire.specs.declared.error.Error.TheVariants.{UnknownValue}
use Rattle.tls_codec_grammar.specs.Tree.{Tree}
use Rattle.tls_codec_grammar.specs.Encoding.{Breaks}
use Rattle.tls_codec_grammar.specs.Decoding.{Named, RefusesFromSource}
use Rattle.tls_codec_cases.specs.Choice.{refused_format}
use Rattle.tls_codec_wire.specs.declared.device.Source.{Ghosts as SourceGhosts}
use Rattle.tls_codec_wire.specs.declared.device.Sink.{Ghosts as SinkGhosts}

module _ {S : Type 0} {source : SourceGhosts S} {a : S} (nothing : GivesNothing source.given) where
  pub refused_leaves : RefusesFromSource refused_format source a a (UnknownValue 0)
  refused_leaves = record { refused = refused_now [] nothing (nothing a) (λ rest. record { cause = inl (λ v r b. b.spelled); memory = λ h. absurd cc }) }

  pub refused_named : Named refused_format (λ x old new e. e ≡ UnknownValue 0) source a a (UnknownValue 0)
  refused_named = record { refused = refused_now [] nothing (nothing a) (λ rest. (record { cause = inl (λ v r b. b.spelled); memory = λ h. absurd cc }, refl)) }

pub refused_breaks : {S : Type 0} (sink : SinkGhosts S) (a : S) (v : Tree) → Breaks refused_format v sink a a (UnknownValue 0)
refused_breaks sink a v = record { sent = []; held = Appends-nil (sink.received a); beginning = λ s q. absurd q.spelled; cause = inr refl; fell = none_fell_refl (sink.counts a) }
