use Rattle.{
  std.proofs.Common.{◌≡◌, ◌+◌, ◌≤◌, length, take, map, vec_len},
  std.specs.Prelude.{vec_capacity},
  block_manager.specs.{Changes.{Lays, grids_of, numbers_of}, Spots.{run_grid}},
}
use Rattle.block_manager.proofs.views.shared.Given as goal

abbrev pub invariant-loop-k : goal.invariant-loop-k
invariant-loop-k l = record {
  lays : Lays l.fn.pool (numbers_of l.made.items) l.pool;
  grids : grids_of l.pool (numbers_of l.made.items) ≡ map (run_grid (grids_of l.fn.pool (numbers_of l.views)) l.rows) (take l.k l.runs);
  blocks : l.pool.blocks ≡ l.fn.pool.blocks;
  spare : length l.runs ≤ l.pool.spare + l.k;
  count : vec_len l.made ≡ l.k;
  room : length l.runs + l.more ≤ vec_capacity l.made;
}
