use Rattle.{column_core.proofs.cells.Common.{◌≤◌, length, map, vec_capacity}, block_pool.{specs.Pools.{numbers_of, beside, grid_at}, proofs.JoinLaws.{Joining}}}
use Rattle.block_pool.proofs.pool.Pool.join.Given as goal

abbrev pub invariant-loop-k : goal.invariant-loop-k
invariant-loop-k l = record {
  joining : Joining l.fn.self (numbers_of l.first) l.last.0 l.self l.k l.columns.items;
  room : length (beside (map (grid_at l.fn.self) (numbers_of l.first)) (grid_at l.fn.self l.last.0)).columns ≤ vec_capacity l.columns;
}
