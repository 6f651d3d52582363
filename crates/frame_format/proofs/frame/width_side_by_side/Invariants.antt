use Rattle.{
  meaning_format.proofs.cells.Common.{◌≡◌, ◌+◌, ◌-◌, length, take},
  std.proofs.Common.{sum},
}
use Rattle.frame_format.proofs.frame.width_side_by_side.Given as goal

abbrev pub invariant-loop-width : goal.invariant-loop-width
invariant-loop-width l = l.total ≡ sum (take l.width-index l.widths) + (length l.widths - 1)
