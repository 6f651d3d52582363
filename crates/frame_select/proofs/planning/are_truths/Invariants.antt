use Rattle.{
  frame_parts.proofs.Common.{◌≡◌, drop, List, Text, Tables, items_of},
  frame_select.specs.Selected.{each_truth},
}
use Rattle.frame_select.proofs.planning.are_truths.Given as goal

-- the parts so far are truth values
abbrev pub invariant-loop-item : goal.invariant-loop-item
invariant-loop-item l = (live : Tables) (texts : List Text) → each_truth (items_of live texts (drop l.item-index l.items)) ≡ each_truth (items_of live texts l.items)
