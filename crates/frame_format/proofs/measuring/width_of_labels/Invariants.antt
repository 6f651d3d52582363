use Rattle.meaning_format.{proofs.cells.Common.{◌≡◌, map}, specs.{Told.{label_at}, Print.{shown_label, widest, places}}}
use Rattle.frame_format.proofs.measuring.width_of_labels.Given as goal

abbrev pub invariant-loop-row : goal.invariant-loop-row
invariant-loop-row g l = l.most ≡ widest (map (λ row. shown_label (label_at l.source row l.level)) (places l.row))
