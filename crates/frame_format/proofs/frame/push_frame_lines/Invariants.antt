use Rattle.meaning_format.{proofs.cells.Common.{◌≡◌, ◌++◌, codes, flat_map}, specs.Print.{frame_line, places}}
use Rattle.frame_format.proofs.frame.push_frame_lines.Given as goal

abbrev pub invariant-loop-row : goal.invariant-loop-row
invariant-loop-row g l = l.out ≡ l.fn.out ++ flat_map (λ row. codes "\n" ++ frame_line l.source row) (places l.row)
