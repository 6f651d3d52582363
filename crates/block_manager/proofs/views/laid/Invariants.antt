use Rattle.{
  std.proofs.Common.{◌≡◌, ◌+◌, ◌≤◌, None, length, take, map, sum_by, vec_len},
  std.specs.Prelude.{vec_capacity},
  block_pool.specs.Pools.{total_of},
  block_manager.specs.{Changes.{Lays, grids_of, numbers_of}, Spots.{AreOwnRuns, LieThere, copied_cells, run_grid}},
}
use Rattle.block_manager.proofs.views.laid.Given as goal

abbrev pub invariant-loop-k : goal.invariant-loop-k
invariant-loop-k l = record {
  lays : Lays l.fn.pool (numbers_of l.made.items) l.pool;
  grids : grids_of l.pool (numbers_of l.made.items) ≡ map (run_grid (grids_of l.fn.pool (numbers_of l.views)) None) (take l.k l.runs);
  own : AreOwnRuns l.pool (numbers_of l.made.items) (take l.k l.runs);
  lie : LieThere l.fn.pool l.pool (numbers_of l.views) (numbers_of l.made.items) (take l.k l.runs);
  held : total_of l.pool ≡ total_of l.fn.pool + sum_by (copied_cells (grids_of l.fn.pool (numbers_of l.views))) (take l.k l.runs);
  spare : length l.runs ≤ l.pool.spare + l.k;
  count : vec_len l.made ≡ l.k;
  room : length l.runs ≤ vec_capacity l.made;
}
