use Rattle.{
  frame_parts.proofs.Common.{◌≡◌, ◌||◌, Bool, List, drop, list_any, Text, CellValue, AreGiven, IsSettled, cells_value},
  frame_signatures.specs.Scalars.{scalars},
}
use Rattle.frame_methods.proofs.listed.listed_cells.Given as goal

-- the scalars so far, before the others
abbrev pub invariant-loop-item : goal.invariant-loop-item
invariant-loop-item l = record {
  settled : IsSettled scalars l.dict (drop l.item-index l.items);
  given : AreGiven l.dict l.values.keys;
  same : (texts : List Text) (test : CellValue → Bool) → (list_any test (cells_value texts l.values.keys) || list_any test (scalars texts (drop l.item-index l.items))) ≡ list_any test (scalars texts l.items);
}
