use Rattle.frame_store.{proofs.cells.Common.{◌≡◌, ◌+◌, ◌<◌, ◌^◌, length}, specs.{Objects.{Tables}, Arguments.{arguments_of}}}
use Rattle.meaning_call.specs.Binding as plain
use Rattle.frame_signatures.proofs.binding.all_listed.Given as goal

abbrev pub invariant-loop-rest : goal.invariant-loop-rest
invariant-loop-rest l =
    ((live : Tables) → plain.are_listed l.parameters l.unnamed (arguments_of live l.dict l.rest) ≡ plain.are_listed l.parameters 0 (arguments_of live l.dict l.args))
    × (l.unnamed + length l.rest < 2 ^ 64)

abbrev pub decreases-loop-rest : goal.decreases-loop-rest
decreases-loop-rest l = length l.rest
