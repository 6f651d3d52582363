use Rattle.{
  column_core.proofs.cells.Common.{◌≡◌, ◌++◌, map, Some},
  csv_frames.specs.Growing.{kind_so_far},
}
use Rattle.csv_frames.proofs.columns.kinds_found.Given as goal

-- the kinds so far, before the others
abbrev pub invariant-loop-column : goal.invariant-loop-column
invariant-loop-column l = l.kinds.items ++ map (λ g. Some (kind_so_far g)) l.column-iterator.rest.items ≡ map (λ g. Some (kind_so_far g)) l.fn.columns.items
