use Rattle.{
  column_core.proofs.cells.Common.{◌≡◌, ◌++◌, map, drop},
  csv_frames.specs.Growing.{without_fields},
}
use Rattle.csv_frames.proofs.growth.new_columns.Given as goal

-- the columns so far, before the others
abbrev pub invariant-loop-place : goal.invariant-loop-place
invariant-loop-place l = l.columns.items ++ map without_fields (drop l.place l.kinds) ≡ map without_fields l.kinds
