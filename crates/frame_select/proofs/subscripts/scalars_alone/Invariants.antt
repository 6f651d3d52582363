use Rattle.{
  frame_parts.proofs.Common.{◌≡◌, length, List, Text, Tables, items_of},
  frame_select.{specs.Selected.{scalars_in}, proofs.HeadingLaws.{scalars_after}},
}
use Rattle.frame_select.proofs.subscripts.scalars_alone.Given as goal

-- the scalars so far, before the others
abbrev pub invariant-loop-rest : goal.invariant-loop-rest
invariant-loop-rest l = (live : Tables) (texts : List Text) → scalars_after texts l.cells (scalars_in (items_of live texts l.rest)) ≡ scalars_in (items_of live texts l.items)

abbrev pub decreases-loop-rest : goal.decreases-loop-rest
decreases-loop-rest l = length l.rest
