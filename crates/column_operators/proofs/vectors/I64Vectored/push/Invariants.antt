use Rattle.{
  column_core.proofs.cells.Common.{◌≡◌, ◌+◌, ◌++◌, vec_len, vec_capacity},
  std.proofs.Common.{take},
}
use Rattle.column_operators.proofs.vectors.I64Vectored.push.Given as goal

-- the lanes so far are pushed
abbrev pub invariant-loop-lane : goal.invariant-loop-lane
invariant-loop-lane l = record {
  pushed : l.values.items ≡ l.fn.values.items ++ take l.lane l.lanes;
  counted : vec_len l.values ≡ vec_len l.fn.values + l.lane;
  room : vec_capacity l.values ≡ vec_capacity l.fn.values;
}
