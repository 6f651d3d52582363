use Rattle.{
  frame_parts.proofs.Common.{◌≡◌, ℕ, ◌%◌, List, drop, length, Text, Table, cells_value},
  frame_select.specs.select.Set.{fit_from},
  frame_set.specs.Values.{AreKindsOf},
}
use Rattle.frame_set.proofs.filling.expect_fit.Given as goal

-- the column of the next value, and whether the values from it on fit
abbrev pub invariant-loop-value : goal.invariant-loop-value
invariant-loop-value l = record {
  column : l.column ≡ l.value-index % length l.kinds;
  fits :
      (texts : List Text) (grown : Table) (columns : List ℕ) → AreKindsOf grown columns l.kinds
      → fit_from l.value-index grown columns (cells_value texts (drop l.value-index l.values)) ≡ fit_from 0 grown columns (cells_value texts l.values);
}
