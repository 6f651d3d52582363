use Rattle.frame_store.{proofs.cells.Common.{◌≡◌, ◌+◌, ◌<◌, ◌^◌, length, List, Text}, specs.{Objects.{Tables}, Arguments.{arguments_of, AreLive}}}
use Rattle.meaning_call.specs.Binding as plain
use Rattle.frame_signatures.proofs.binding.given_after.Given as goal

abbrev pub invariant-loop-rest : goal.invariant-loop-rest
invariant-loop-rest l =
    ((live : Tables) (texts : List Text) → plain.given_at l.parameters l.unnamed (arguments_of live texts l.rest) l.place ≡ plain.given_at l.parameters l.fn.unnamed (arguments_of live texts l.args) l.place)
    × ((live : Tables) → AreLive live l.args → AreLive live l.rest)
    × (l.unnamed + length l.rest < 2 ^ 64)

abbrev pub decreases-loop-rest : goal.decreases-loop-rest
decreases-loop-rest l = length l.rest
