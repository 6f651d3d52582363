use Rattle.{
  meaning_cells.proofs.Common.{◌≡◌, ◌+◌, ◌≤◌, ◌++◌, take, length, vec_len, vec_capacity},
}
use Rattle.column_core.proofs.blocks.append_some.Given as goal

-- those so far are appended, and there is room for the others
abbrev pub invariant-loop-column : goal.invariant-loop-column
invariant-loop-column l = record {
  items : l.list.items ++ l.column-iterator.rest.items ≡ l.fn.list.items ++ take l.count l.fn.columns.items;
  len : vec_len l.list + length l.column-iterator.rest.items ≡ vec_len l.fn.list + l.count;
  room : vec_len l.list + length l.column-iterator.rest.items ≤ vec_capacity l.list;
  capacity : vec_capacity l.fn.list ≤ vec_capacity l.list;
}
