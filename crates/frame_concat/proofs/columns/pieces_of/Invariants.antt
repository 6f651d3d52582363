use Rattle.{
  frame_parts.proofs.Common.{◌≡◌, map, take},
  frame_concat.specs.Columns.{piece_of},
}
use Rattle.frame_concat.proofs.columns.pieces_of.Given as goal

abbrev pub invariant-loop-part : goal.invariant-loop-part
invariant-loop-part l = l.pieces.items ≡ map (piece_of l.sought) (take l.part-index l.parts)
