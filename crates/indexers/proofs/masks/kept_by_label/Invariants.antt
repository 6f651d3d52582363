use Rattle.{
  column_core.proofs.cells.Common.{◌≡◌, drop, map, pointwise},
  index_core.specs.{pick.Masks.{kept_by_label}, Labels.{same_number}},
  indexers.{specs.Masks.{is_true}, proofs.TurnLaws.{added}},
}
use Rattle.indexers.proofs.masks.kept_by_label.Given as goal

-- the rows so far, before those that the mask keeps of the others
abbrev pub invariant-loop-row : goal.invariant-loop-row
invariant-loop-row l =
    added l.rows (kept_by_label (pointwise same_number) l.mask_axis.tuples (map is_true l.mask.cells) l.row (drop l.row l.axis.tuples)) ≡ kept_by_label (pointwise same_number) l.mask_axis.tuples (map is_true l.mask.cells) 0 l.axis.tuples
