use Rattle.meaning_align.proofs.cells.Common.{◌≡◌, ◌<◌, [], ℕ, slice_get, slice_index_or}
use Rattle.label_align.proofs.targets.has_tuple.Given as goal

-- the labels so far are the same
abbrev pub invariant-loop-level : goal.invariant-loop-level
invariant-loop-level l = (k : ℕ) → k < l.level → slice_get (slice_index_or l.axis.tuples l.row []) k ≡ slice_get l.tuple k
