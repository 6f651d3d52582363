use Rattle.{
  frame_parts.proofs.Common.{◌≡◌, [], ◌∷◌, length, drop, with_values_from, block_column, IsSingle},
  frame_set.specs.Grown.{missing_column},
}
use Rattle.frame_set.proofs.growing.new_column.Given as goal

-- the column with the values so far, and with the others what all make of it
abbrev pub invariant-loop-k : goal.invariant-loop-k
invariant-loop-k l =
    record {
      single : IsSingle l.block;
      rows : length (block_column l.block).cells ≡ l.fn.count;
      kind : (block_column l.block).kind ≡ l.fn.kind;
      values : with_values_from l.k (block_column l.block ∷ []) l.rows (0 ∷ []) (drop l.k l.values) ≡ with_values_from 0 (missing_column l.fn.kind l.fn.count ∷ []) l.rows (0 ∷ []) l.values;
    }
