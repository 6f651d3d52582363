use Rattle.{
  frame_parts.proofs.Common.{◌≡◌, ◌++◌, drop, length, true, Ok, list_all, IsLonger, then_value, try_all, met, blocks_value, AreColumns},
  column_operators.specs.Tasks.{operator_of},
  frame_ops.specs.Pairs.{kinds_meet, pairs_from, meetings_value},
}
use Rattle.frame_ops.proofs.columns.columns_met.Given as goal

abbrev pub invariant-loop-place : goal.invariant-loop-place
invariant-loop-place l =
    record {
      longer : IsLonger l.fn.dict l.dict;
      columns : AreColumns l.dict (length l.on.labels) l.place l.made;
      kinds : list_all (kinds_meet (operator_of l.op)) (pairs_from l.other l.place (drop l.place l.on.columns)) ≡ true;
      whole : then_value (try_all (met (operator_of l.op)) (meetings_value l.fn.dict (pairs_from l.other l.place (drop l.place l.on.columns)))) (λ rest. Ok (blocks_value l.dict l.made ++ rest))
          ≡ try_all (met (operator_of l.op)) (meetings_value l.fn.dict (pairs_from l.other 0 l.on.columns));
    }
