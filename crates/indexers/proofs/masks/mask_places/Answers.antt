use Rattle.{
  column_core.proofs.cells.Common.{arith, map},
  index_core.proofs.pick.InsideLaws.{by_label_inside},
  indexers.{specs.Masks.{is_true}, proofs.{AnswerLaws.{rows_inside}, MaskLaws.{masked_alike, alike_inside, masked_otherwise}}},
}
use Rattle.indexers.proofs.masks.mask_places.Goals as goal

pub returns-then-same_labels-clause-rows : goal.returns-then-same_labels-clause-rows
returns-then-same_labels-clause-rows = grind (arith, masked_alike)

pub returns-then-same_labels-clause-inside : goal.returns-then-same_labels-clause-inside
returns-then-same_labels-clause-inside = grind (arith, alike_inside)

pub returns-clause-rows : goal.returns-clause-rows
returns-clause-rows c = rw (masked_otherwise c.args.axis.now.tuples c.args.mask_axis.now.tuples (map is_true c.args.mask.cells) c.same_labels.result c.same_labels.ensures c.if-same_labels.false) c.kept_elsewhere.ensures

pub returns-clause-inside : goal.returns-clause-inside
returns-clause-inside = grind (arith, rows_inside, by_label_inside)
