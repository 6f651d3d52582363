use Rattle.{
  column_core.proofs.cells.Common.{◌≡◌, ◌≤◌, length, vec_len, vec_capacity},
  nullable_array.specs.Pairs.{AreFlagged},
}
use Rattle.nullable_array.proofs.pairs.row_flags.Given as goal

-- the flags so far, and room for all
abbrev pub invariant-loop-row : goal.invariant-loop-row
invariant-loop-row g l = record {
  many : length l.flags.items ≡ l.row;
  counted : vec_len l.flags ≡ l.row;
  room : g.A.Source.count_of l.a ≤ vec_capacity l.flags;
  flags : AreFlagged (g.O.PairOp.flag_of l.op) (g.A.Side.value_at l.a) (g.A.Side.flag_at l.a) (g.B.Side.value_at l.b) (g.B.Side.flag_at l.b) l.row l.flags.items;
}
