use Rattle.{
  frame_parts.proofs.Common.{◌≡◌, map, take, Some},
  reshape.specs.row_keys.Keys.{label_in},
}
use Rattle.frame_reshape.proofs.spreading.spread_labels.Given as goal

-- the labels so far
abbrev pub invariant-loop-column : goal.invariant-loop-column
invariant-loop-column l = l.labels.items ≡ map (λ tuple. Some (label_in 0 tuple)) (take l.column l.spread.columns)
