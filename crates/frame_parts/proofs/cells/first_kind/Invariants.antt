use Rattle.frame_parts.proofs.{Common.{◌≡◌, List, Text}, CellLaws.{kind_from}}
use Rattle.frame_parts.proofs.cells.first_kind.Given as goal

-- no cell so far is present
abbrev pub invariant-loop-place : goal.invariant-loop-place
invariant-loop-place g l = (texts : List Text) → kind_from texts (g.C.CellList.cells l.cells) l.place ≡ kind_from texts (g.C.CellList.cells l.cells) 0
