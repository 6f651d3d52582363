use Rattle.meaning_format.{proofs.cells.Common.{◌≡◌, ◌++◌, codes, join_by}, specs.Print.{whole_label, places}}
use Rattle.frame_format.proofs.empty.push_all_labels.Given as goal

abbrev pub invariant-loop-row : goal.invariant-loop-row
invariant-loop-row g l = l.out ≡ l.fn.out ++ join_by (whole_label l.source) (codes ", ") (places l.row)
