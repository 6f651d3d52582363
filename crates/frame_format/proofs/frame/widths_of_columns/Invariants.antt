use Rattle.meaning_format.{proofs.cells.Common.{◌≡◌, map}, specs.Print.{titled_width, places}}
use Rattle.frame_format.proofs.frame.widths_of_columns.Given as goal

abbrev pub invariant-loop-column : goal.invariant-loop-column
invariant-loop-column g l = l.widths.items ≡ map (titled_width l.source) (places l.column)
