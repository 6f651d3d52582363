use Rattle.meaning_format.{proofs.cells.Common.{◌≡◌, ◌++◌, codes, join_by}, specs.{Told.{heading_at}, Print.{shown_name, places}}}
use Rattle.frame_format.proofs.empty.push_all_headings.Given as goal

abbrev pub invariant-loop-column : goal.invariant-loop-column
invariant-loop-column g l = l.out ≡ l.fn.out ++ join_by (λ column. shown_name (heading_at l.source column)) (codes ", ") (places l.column)
