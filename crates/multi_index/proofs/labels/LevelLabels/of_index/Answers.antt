use Rattle.{
  index_core.proofs.cells.Common.{◌≡◌, ◌∙◌, arith, Label, List},
  multi_index.{specs.Levels.{seen_labels}, proofs.OrderedLaws.{seen_in_order}},
}
use Rattle.multi_index.proofs.labels.LevelLabels.of_index.Goals as goal

pub returns-then-is_sorted : goal.returns-then-is_sorted
returns-then-is_sorted c = grind (arith, seen_in_order)
