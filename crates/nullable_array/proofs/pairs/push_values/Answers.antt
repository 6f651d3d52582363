use Rattle.{
  column_core.proofs.cells.Common.{arith},
  nullable_array.proofs.PairRows.{value_pushed},
}
use Rattle.nullable_array.proofs.pairs.push_values.Goals as goal

pub loop-row-preserved : goal.loop-row-preserved
loop-row-preserved g c =
    let so_far = c.loop-row.invariant in
    record {
      many = grind arith;
      counted = grind arith;
      room = grind arith;
      valued = rw c.push_reserved.ensures.items (value_pushed _ _ _ _ (g.O.PairOp.value_of _) c.loop-row.row _ _ _ _ so_far.valued so_far.many c.value-x.ensures c.value-y.ensures (grind arith));
    }
