use Rattle.{
  std.proofs.Common.{◌≡◌, ◌+◌, ◌<◌, ◌≤◌, ◌++◌, ℕ, map, sum, length, vec_len},
  std.specs.Prelude.{vec_capacity},
  block_pool.specs.Pools.{IsSole, cells_of, total_of},
  block_manager.specs.{Managed.{times}, Changes.{Lays, grids_of, numbers_of}},
}
use Rattle.block_manager.proofs.views.add_all.Given as goal

-- the blocks so far are added, and there is room for the views of the others
abbrev pub invariant-loop-block : goal.invariant-loop-block
invariant-loop-block l = record {
  lays : Lays l.fn.pool (numbers_of l.views.items) l.pool;
  sole : (id : ℕ) → 0 < times id (numbers_of l.views.items) → IsSole l.pool id;
  seen : grids_of l.pool (numbers_of l.views.items) ++ l.block-iterator.rest.items ≡ l.fn.blocks.items;
  held : total_of l.pool + sum (map cells_of l.block-iterator.rest.items) ≡ total_of l.fn.pool + sum (map cells_of l.fn.blocks.items);
  room : vec_len l.views + length l.block-iterator.rest.items ≤ vec_capacity l.views;
}
