use Rattle.{
  column_core.proofs.cells.Common.{arith, length-flat_map},
  std.proofs.lemmas.List.Folds.{length-flat_map-take},
  merge_concat.{specs.Parts.{part_cells}, proofs.BelowLaws.{rows_counted}},
}
use Rattle.merge_concat.proofs.below.column_of.Goals as goal

pub with_part-requires-clause-few : goal.with_part-requires-clause-few
with_part-requires-clause-few g c = grind (arith, length-flat_map, rows_counted, length-flat_map-take part_cells _ _ c.part-item.result c.loop-part-test.true)
