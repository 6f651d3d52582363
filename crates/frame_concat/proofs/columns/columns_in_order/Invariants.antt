use Rattle.{
  frame_parts.proofs.Common.{◌≡◌, map, range_with_len},
  frame_concat.specs.declared.parts.Sought.TheVariants.{At},
}
use Rattle.frame_concat.proofs.columns.columns_in_order.Given as goal

abbrev pub invariant-loop-place : goal.invariant-loop-place
invariant-loop-place l = l.columns.items ≡ map At (range_with_len 0 l.place)
