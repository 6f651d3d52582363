use Rattle.meaning_format.{proofs.cells.Common.{◌≡◌, map}, specs.Print.{level_width, places}}
use Rattle.frame_format.proofs.measuring.widths_of_levels.Given as goal

abbrev pub invariant-loop-level : goal.invariant-loop-level
invariant-loop-level g l = l.widths.items ≡ map (level_width l.source) (places l.level)
