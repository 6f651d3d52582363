use Rattle.{
  index_core.{proofs.{cells.Common.{arith, ◌≡◌, ◌-◌, [], length, slice_index_or, is_lt}, pick.OrderLaws.{order_goes_on, order_broken, order_kept}}, specs.{Labels.{order_in}, pick.Leading.{leading_cmp}}},
  multi_index.{specs.Levels.{level_tuples, row_count}, proofs.LevelTuples.{count_tuples, tuple_at}},
}
use Rattle.multi_index.proofs.listed.is_sorted.Goals as goal

pub loop-row-preserved : goal.loop-row-preserved
loop-row-preserved c =
    let cmp = leading_cmp (order_in c.args.dict.now) in
    let tuples = level_tuples c.args.levels.now in
    let row = c.loop-row.row in
    let size : length tuples ≡ row_count c.args.levels.now = count_tuples _ in
    let read : is_lt (cmp (slice_index_or tuples row []) (slice_index_or tuples (row - 1) [])) ≡ is_lt c.compare_rows.result
    = grind (arith, tuple_at) in
    order_goes_on cmp tuples row [] _ c.loop-row.auto.row (omega (arith, size)) (grind arith) c.loop-row.invariant

pub returns : goal.returns
returns = grind (arith, count_tuples, order_kept)

pub returns-then-is_lt : goal.returns-then-is_lt
returns-then-is_lt c =
    let cmp = leading_cmp (order_in c.args.dict.now) in
    let tuples = level_tuples c.args.levels.now in
    let row = c.loop-row.row in
    let size : length tuples ≡ row_count c.args.levels.now = count_tuples _ in
    let read : is_lt (cmp (slice_index_or tuples row []) (slice_index_or tuples (row - 1) [])) ≡ is_lt c.compare_rows.result
    = grind (arith, tuple_at) in
    order_broken cmp tuples row [] _ c.loop-row.auto.row (omega (arith, size)) (grind arith) c.loop-row.invariant
