use Rattle.meaning_format.{proofs.cells.Common.{◌≡◌, ◌++◌, slice_index}, specs.Print.{side_by_side, level_title}}
use Rattle.frame_format.proofs.measuring.push_names.Given as goal

abbrev pub invariant-loop-level : goal.invariant-loop-level
invariant-loop-level g l = l.out ≡ l.fn.out ++ side_by_side l.gap l.level (slice_index l.widths) (level_title l.source)
