use Rattle.meaning_format.{proofs.cells.Common.{◌≡◌, ◌++◌, codes, flat_map}, specs.Print.{series_line, places}}
use Rattle.frame_format.proofs.series.push_series_lines.Given as goal

abbrev pub invariant-loop-row : goal.invariant-loop-row
invariant-loop-row g l = l.out ≡ l.fn.out ++ flat_map (λ row. series_line l.source row ++ codes "\n") (places l.row)
