use Rattle.{
  column_core.proofs.cells.Common.{◌≡◌, ◌-◌, ◌++◌, map, take, drop, vec_len, vec_capacity},
  block_pool.specs.Placed.{turned},
}
use Rattle.block_pool.proofs.copies.turn_from.Given as goal

-- those from the place on up to this one are turned
abbrev pub invariant-loop-k : goal.invariant-loop-k
invariant-loop-k l = record {
  items : l.list.items ≡ take l.from l.fn.list.items ++ (take (l.k - l.from) (map turned (drop l.from l.fn.list.items)) ++ drop (l.k - l.from) (drop l.from l.fn.list.items));
  len : vec_len l.list ≡ vec_len l.fn.list;
  capacity : vec_capacity l.list ≡ vec_capacity l.fn.list;
}
