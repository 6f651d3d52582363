use Rattle.{
  frame_store.{proofs.cells.Common.{◌≡◌, List, ◌++◌, drop, Text}, specs.Shown.{cells_value}},
  frame_signatures.specs.Scalars.{scalars},
}
use Rattle.frame_signatures.proofs.scalars.scalars_of.Given as goal

-- the scalars so far, before the others
abbrev pub invariant-loop-item : goal.invariant-loop-item
invariant-loop-item l = (texts : List Text) → cells_value texts l.cells ++ scalars texts (drop l.item-index l.items) ≡ scalars texts l.items
