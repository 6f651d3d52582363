use Rattle.{
  frame_parts.proofs.Common.{◌≡◌, List, drop, Text, try_all, cells_value},
  meaning_charge.specs.select.Keys.{whole_cell},
  frame_select.proofs.HeadingLaws.{made_after},
}
use Rattle.frame_select.proofs.keys.wholes_of.Given as goal

-- the numbers so far, before those of the other cells
abbrev pub invariant-loop-k : goal.invariant-loop-k
invariant-loop-k l = (texts : List Text) → made_after whole_cell l.numbers (drop l.k (cells_value texts l.cells)) ≡ try_all whole_cell (cells_value texts l.cells)
