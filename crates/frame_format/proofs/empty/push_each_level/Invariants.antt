use Rattle.meaning_format.{proofs.cells.Common.{◌≡◌, ◌++◌, codes, join_by}, specs.{Told.{label_at}, Print.{shown_label, places}}}
use Rattle.frame_format.proofs.empty.push_each_level.Given as goal

abbrev pub invariant-loop-level : goal.invariant-loop-level
invariant-loop-level g l = l.out ≡ l.fn.out ++ join_by (λ level. shown_label (label_at l.source l.row level)) (codes ", ") (places l.level)
