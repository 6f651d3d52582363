use Rattle.index_core.{proofs.cells.Common.{◌≡◌, ◌<◌, ℕ, List, true, slice_index_or, is_lt, Label}, specs.{pick.Leading.{leading_cmp}, Labels.{order_in}}}
use Rattle.multi_index.specs.Levels.{level_tuples}
use Rattle.multi_index.proofs.listed.first_reached.Given as goal

-- the rows so far are below the bound
abbrev pub invariant-loop-row : goal.invariant-loop-row
invariant-loop-row l = (k : ℕ) → k < l.row → (d : List Label) → is_lt (leading_cmp (order_in l.dict) (slice_index_or (level_tuples l.levels) k d) l.bound) ≡ true
