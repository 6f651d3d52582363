use Rattle.frame_store.{proofs.cells.Common.{◌≡◌, ◌+◌, ◌<◌, ◌^◌, length}, specs.{Objects.{tables}, Arguments.{arguments_of, AreLive}}}
use Rattle.meaning_call.specs.Binding as plain
use Rattle.frame_signatures.proofs.binding.all_fit.Given as goal

abbrev pub invariant-loop-rest : goal.invariant-loop-rest
invariant-loop-rest l =
    (plain.fit l.parameters l.unnamed (arguments_of (tables l.store) l.dict l.rest) ≡ plain.fit l.parameters 0 (arguments_of (tables l.store) l.dict l.args))
    × AreLive (tables l.store) l.rest
    × (l.unnamed + length l.rest < 2 ^ 64)

abbrev pub decreases-loop-rest : goal.decreases-loop-rest
decreases-loop-rest l = length l.rest
