use Rattle.{
  column_core.proofs.cells.Common.{◌≡◌, ◌+◌, ◌++◌, map, not, vec_len, vec_capacity},
  std.{proofs.Common.{take}, specs.Prelude.{nat_eq}},
}
use Rattle.column_operators.proofs.vectors.BoolVectored.push.Given as goal

-- the lanes so far are pushed
abbrev pub invariant-loop-lane : goal.invariant-loop-lane
invariant-loop-lane l = record {
  pushed : l.values.items ≡ l.fn.values.items ++ map (λ n. not (nat_eq n 0)) (take l.lane l.lanes);
  counted : vec_len l.values ≡ vec_len l.fn.values + l.lane;
  room : vec_capacity l.values ≡ vec_capacity l.fn.values;
}
