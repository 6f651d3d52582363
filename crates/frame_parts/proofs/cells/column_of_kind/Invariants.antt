use Rattle.frame_parts.proofs.{Common.{◌≡◌, List, take, Text, holds}, CellLaws.{all_from}}
use Rattle.frame_parts.proofs.cells.column_of_kind.Given as goal

-- the cells so far, and the kind holds them
abbrev pub invariant-loop-place : goal.invariant-loop-place
invariant-loop-place g l = record {
  made : l.column ≡ record { kind = l.fn.kind; cells = take l.place (g.C.CellList.cells l.cells) };
  held : (texts : List Text) → all_from (holds l.fn.kind) texts (g.C.CellList.cells l.cells) l.place ≡ all_from (holds l.fn.kind) texts (g.C.CellList.cells l.cells) 0;
}
