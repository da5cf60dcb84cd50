-- What a run reads and prints.
use Rattle.std.specs.Prelude.{◌≡◌, ◌⊎◌, ℕ, Bool, List, Result, Ok, Err}
use Rattle.std.specs.Io.KnownBytes.{Appends}
use Rattle.hex.specs.Hex.{encode_lower}
use Rattle.tls_codec.specs.Calls.{SinkGhosts, SourceGhosts}
use Rattle.tls_codec.specs.Devices.{Counts, FaultIsCounted, OnlyInterrupted, Received, RoseBy}
use Rattle.tlsview_run.specs.Kinds.{kinds, FirstNamed}
use Rattle.tlsview_run.specs.View.{Views, IsView}
use Rattle.tlsview_run.specs.declared.fault.ViewFault.{ViewFault}
use Rattle.tlsview_run.specs.declared.fault.ViewFault.TheVariants.{Kind, Long, Read, Hex, Memory, Write}
use Rattle.view_input.specs.Input.{GaveAll, StandsFor, WhyNoInput, lower_digits_in}
use Rattle.view_input.specs.declared.fault.InputFault.TheVariants as input

-- the lines are a view of the bytes that the input, read whole, stands for; their hex is its, in lower case and without
-- the blanks
pub record ViewsInput {S : Type 0} (views : Views) (source : SourceGhosts S) (old new : S) (accepted : Bool) (lines : List ℕ) : Type 0 where
  pub text : List ℕ
  pub bytes : List ℕ
  pub read : GaveAll source old new text
  pub decoded : StandsFor text bytes
  pub hex : encode_lower bytes ≡ lower_digits_in text
  pub view : views bytes accepted lines

-- the sink received just such lines, and counted nothing but interruptions
pub record SentView {S T : Type 0} (views : Views) (source : SourceGhosts S) (sink : SinkGhosts T)
    (old new : S) (before after : T) (accepted : Bool) : Type 0 where
  pub lines : List ℕ
  pub viewed : ViewsInput views source old new accepted lines
  pub sent : Appends (sink.received before) (sink.received after) lines
  pub retried : OnlyInterrupted (sink.counts before) (sink.counts after)

-- the sink failed, or it had no memory
abbrev pub SinkIsToBlame : Counts → Counts → Type 0
SinkIsToBlame old new = FaultIsCounted old new ⊎ RoseBy 1 old.shortages new.shortages

-- the sink received a prefix of such lines, and is to blame
pub record BrokeOff {S T : Type 0} (views : Views) (source : SourceGhosts S) (sink : SinkGhosts T)
    (old new : S) (before after : T) : Type 0 where
  pub accepted : Bool
  pub lines : List ℕ
  pub viewed : ViewsInput views source old new accepted lines
  pub received : Received (sink.received before) (sink.received after) lines
  pub blame : SinkIsToBlame (sink.counts before) (sink.counts after)

-- why there is no view, if the kind is one and the sink is as it was
abbrev pub WhyNoView : {S : Type 0} → SourceGhosts S → S → S → ViewFault → Type 0
WhyNoView source old new Long = WhyNoInput source old new input.Long
WhyNoView source old new Read = WhyNoInput source old new input.Read
WhyNoView source old new Hex = WhyNoInput source old new input.Hex
WhyNoView source old new Memory = WhyNoInput source old new input.Memory
WhyNoView source old new _ = ⊥

-- what a run does that prints by these views
abbrev pub RunsBy : {S T : Type 0} → Views → SourceGhosts S → SinkGhosts T → S → S → T → T → Result Bool ViewFault → Type 0
RunsBy views source sink old new before after (Ok accepted) = SentView views source sink old new before after accepted
RunsBy views source sink old new before after (Err Write) = BrokeOff views source sink old new before after
RunsBy views source sink old new before after (Err fault) = WhyNoView source old new fault × (after ≡ before)

-- what a run does if there is no such kind
pub record RefusesKind {S T : Type 0} (old new : S) (before after : T) (result : Result Bool ViewFault) : Type 0 where
  pub refused : result ≡ Err Kind
  pub unread : new ≡ old
  pub unsent : after ≡ before

-- what a run of the kind of this name does
abbrev pub Runs : {S T : Type 0} → List ℕ → SourceGhosts S → SinkGhosts T → S → S → T → T → Result Bool ViewFault → Type 0
Runs name source sink old new before after result = FirstNamed kinds name
    (λ kind. RunsBy (IsView kind.spells kind.shows) source sink old new before after result)
    (RefusesKind old new before after result)
