use Rattle.{
  multi_index.proofs.cells.Common.{◌≡◌, ◌<◌, ◌≤◌, ℕ, length, min, arith, common_steps, length-set, map_more, slice_index},
  row_keys.{specs.Numbers.{first_with}, proofs.LeaderLaws.{table_leads, table_more}},
}
use Rattle.row_keys.proofs.numbers.leaders_by_table.Goals as goal

pub loop-row-preserved : goal.loop-row-preserved
loop-row-preserved c =
    let numbers = c.args.numbers.now in
    let table = c.loop-row.table.items in
    let row : ℕ = c.loop-row.row in
    let n : ℕ = slice_index numbers row in
    let leader : ℕ = c.min-leader.result in
    let lt : row < length numbers = omega arith in
    let known : n ≤ c.args.end = grind arith in
    let inside : n < length table = omega (arith, known, c.loop-row.invariant.long) in
    let read : c.index.result.now ≡ slice_index table n = grind (arith, common_steps) in
    let made : leader ≡ min (slice_index table n) row = grind arith in
    let leads : leader ≡ first_with numbers n = search table_leads in
    let more = map_more (first_with numbers) numbers row 0 lt in
    grind (arith, length-set, table_more)
