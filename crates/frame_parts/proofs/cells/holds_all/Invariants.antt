use Rattle.frame_parts.proofs.{Common.{◌≡◌, List, Text, holds}, CellLaws.{all_from}}
use Rattle.frame_parts.proofs.cells.holds_all.Given as goal

-- the kind holds all so far
abbrev pub invariant-loop-place : goal.invariant-loop-place
invariant-loop-place g l = (texts : List Text) → all_from (holds l.kind) texts (g.C.CellList.cells l.cells) l.place ≡ all_from (holds l.kind) texts (g.C.CellList.cells l.cells) 0
