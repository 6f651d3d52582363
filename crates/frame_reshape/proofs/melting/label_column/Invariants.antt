use Rattle.{
  frame_parts.proofs.Common.{◌≡◌, take, length, replicate, flat_map},
  frame_reshape.specs.Melts.{heading_cells},
}
use Rattle.frame_reshape.proofs.melting.label_column.Given as goal

-- the labels so far, each once for each row
abbrev pub invariant-loop-k : goal.invariant-loop-k
invariant-loop-k l = l.column ≡ record { kind = l.fn.kind; cells = flat_map (replicate (length l.on.labels)) (take l.k (heading_cells l.on l.values)) }
