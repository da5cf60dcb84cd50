use Rattle.std.proofs.Common.{◌≡◌, ◌++◌, take}
use Rattle.std.specs.List.{flat_map}
use Rattle.tlsgen_emit.specs.Paths.{paths_in, paths_of_message}
use Rattle.tlsgen_emit.proofs.file.push_messages.Given as goal

abbrev pub invariant-loop-message : goal.invariant-loop-message
invariant-loop-message l = paths_in l.files.items ≡ paths_in l.initial.files.items ++ flat_map paths_of_message (take l.message-index l.messages)
