use Rattle.{
  meaning_align.proofs.cells.Common.{◌≡◌, ◌<◌, ℕ},
  label_align.specs.{Both.{tuples_of}, Runs.{label_of_row}},
}
use Rattle.label_align.proofs.both.is_same_row.Given as goal

-- the labels so far are the same
abbrev pub invariant-loop-level : goal.invariant-loop-level
invariant-loop-level l = (k : ℕ) → k < l.level → label_of_row (tuples_of l.both) l.i k ≡ label_of_row (tuples_of l.both) l.j k
