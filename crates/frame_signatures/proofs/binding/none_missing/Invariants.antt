use Rattle.frame_store.{proofs.cells.Common.{◌≡◌, ◌+◌, length, List, Text}, specs.{Objects.{Tables}, Arguments.{arguments_of}}}
use Rattle.meaning_call.specs.Binding as plain
use Rattle.frame_signatures.proofs.binding.none_missing.Given as goal

abbrev pub invariant-loop-rest : goal.invariant-loop-rest
invariant-loop-rest l =
    ((live : Tables) (texts : List Text) → plain.none_missing l.parameters (arguments_of live texts l.args) l.place l.rest ≡ plain.none_missing l.parameters (arguments_of live texts l.args) 0 l.parameters)
    × (l.place + length l.rest ≡ length l.parameters)

abbrev pub decreases-loop-rest : goal.decreases-loop-rest
decreases-loop-rest l = length l.rest
