-- How the program begins and ends.
use Rattle.std.specs.Prelude.{◌≡◌, ◌⊎◌, ℕ, Bool, true, false, List, [], ◌∷◌, ◌++◌, map, codes, Option, Result, Ok, Err, String, string_bytes}
use Rattle.std.specs.Global.{Global}
use Rattle.std.specs.Io.KnownBytes.{Appends}
use Rattle.std.specs.IoError.{error_kind}
use Rattle.std.specs.Process.{exit_status}
use Rattle.std.specs.Vec.Iter.{into_iter_items}
use Rattle.std.specs.declared.io.Error as io
use Rattle.std.specs.declared.io.ErrorKind.{ErrorKind}
use Rattle.std.specs.declared.io.ErrorKind.TheVariants.{OutOfMemory}
use Rattle.std.specs.declared.process.ExitCode.{ExitCode}
use Rattle.std.specs.declared.vec.IntoIter.{IntoIter}
use Rattle.tls_codec.specs.Calls.{SinkGhosts, SourceGhosts}
use Rattle.tls_codec.specs.Devices.{OnlyInterrupted, Received, no_counts}
use Rattle.tlsview_run.specs.Run.{Runs, SinkIsToBlame}
use Rattle.tlsview_run.specs.View.{line_feed}
use Rattle.tlsview_run.specs.declared.fault.ViewFault.{ViewFault}
use Rattle.tlsview_run.specs.declared.fault.ViewFault.TheVariants.{Kind, Long, Read, Hex, Memory, Write}
use Rattle.view_input.specs.Faults as faults
use Rattle.view_input.specs.declared.fault.InputFault.{InputFault}
use Rattle.view_input.specs.declared.fault.InputFault.TheVariants as input

-- ---- the argument

-- the words of a process, its name first, or why std gives none
abbrev pub Words : Type 0
Words = Result (IntoIter (String Global) Global) io.Error

-- the word after the program's name, if it is the only one
abbrev pub argument_in : List (List ℕ) → Result (List ℕ) ViewFault
argument_in (program ∷ argument ∷ []) = Ok argument
argument_in _ = Err Kind

-- why there are no words: there was no memory, or one of them isn't UTF-8
abbrev pub fault_without_words : ErrorKind → ViewFault
fault_without_words OutOfMemory = Memory
fault_without_words _ = Kind

-- the argument in the words of a process
abbrev pub argument_of : Words → Result (List ℕ) ViewFault
argument_of (Ok words) = argument_in (map string_bytes (into_iter_items words))
argument_of (Err error) = Err (fault_without_words (error_kind error))

-- ---- the line and the status

-- the fault of a view whose input has this one
abbrev pub view_fault : InputFault → ViewFault
view_fault input.Long = Long
view_fault input.Read = Read
view_fault input.Hex = Hex
view_fault input.Memory = Memory

-- what is printed if there is no view: nothing if the sink failed
abbrev pub fault_line : ViewFault → List ℕ
fault_line Kind = codes "error kind" ++ line_feed
fault_line Long = faults.fault_line input.Long
fault_line Read = faults.fault_line input.Read
fault_line Hex = faults.fault_line input.Hex
fault_line Memory = faults.fault_line input.Memory
fault_line Write = []

-- what is printed after a run
abbrev pub line_of : Result Bool ViewFault → List ℕ
line_of (Ok accepted) = []
line_of (Err fault) = fault_line fault

-- the exit status of a run
abbrev pub status_of : Result Bool ViewFault → ℕ
status_of (Ok true) = 0
status_of (Ok false) = 1
status_of (Err fault) = 2

-- the sink received a line, and counted nothing but interruptions; or it received a prefix, and is to blame
abbrev pub TellsLine : {T : Type 0} → SinkGhosts T → T → T → List ℕ → Type 0
TellsLine sink before after line =
    (Appends (sink.received before) (sink.received after) line × OnlyInterrupted (sink.counts before) (sink.counts after))
    ⊎ (Received (sink.received before) (sink.received after) line × SinkIsToBlame (sink.counts before) (sink.counts after))

-- ---- the program

-- a run of this kind ended in some way, and then its line and its status were reported
pub record RunsAndTells {S T : Type 0} (kind : List ℕ) (source : SourceGhosts S) (sink : SinkGhosts T)
    (old new : S) (before after : T) (status : ℕ) : Type 0 where
  pub outcome : Result Bool ViewFault
  pub between : T
  pub ran : Runs kind source sink old new before between outcome
  pub told : TellsLine sink between after (line_of outcome)
  pub ended : status ≡ status_of outcome

-- without a kind nothing is read, and the line of the fault is printed
pub record TellsFault {S T : Type 0} (fault : ViewFault) (sink : SinkGhosts T) (old new : S) (before after : T) (status : ℕ) : Type 0 where
  pub unread : new ≡ old
  pub told : TellsLine sink before after (fault_line fault)
  pub ended : status ≡ 2

-- what the program does with its argument
abbrev pub Answers : {S T : Type 0} → SourceGhosts S → SinkGhosts T → S → S → T → T → Result (List ℕ) ViewFault → ℕ → Type 0
Answers source sink old new before after (Ok kind) status = RunsAndTells kind source sink old new before after status
Answers source sink old new before after (Err fault) status = TellsFault fault sink old new before after status

-- the program ended as it does by some words; its input had these bytes to come and its sink had received these;
-- neither had counted anything
pub record EndsBySomeWords {S T : Type 0} (source : SourceGhosts S) (sink : SinkGhosts T)
    (coming received : Option (List ℕ)) (code : ExitCode) : Type 0 where
  pub words : Words
  pub old : S
  pub new : S
  pub before : T
  pub after : T
  pub input : source.coming old ≡ coming
  pub input_counts : source.counts old ≡ no_counts
  pub output : sink.received before ≡ received
  pub output_counts : sink.counts before ≡ no_counts
  pub answered : Answers source sink old new before after (argument_of words) (exit_status code)
