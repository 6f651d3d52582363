use Rattle.{
  index_core.proofs.cells.Common.{arith, ◌≡◌},
  multi_index.{specs.Levels.{level_labels}, proofs.KnownLaws.{all_known}},
}
use Rattle.multi_index.proofs.single.SingleLevel.of.Goals as goal

pub invariant_of-result : goal.invariant_of-result
invariant_of-result c =
    let labels : c.in_ok-labels.labels.value ≡ level_labels c.args.dict.now c.args.rows.items = grind arith in
    let rows : c.in_ok-index.index.value ≡ c.args.rows.items = grind arith in
    rw (labels, rows) (all_known c.args.dict.now c.args.rows.items)
