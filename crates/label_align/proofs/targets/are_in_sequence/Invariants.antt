use Rattle.meaning_align.proofs.cells.Common.{◌≡◌, ◌<◌, ℕ, slice_index}
use Rattle.label_align.proofs.targets.are_in_sequence.Given as goal

-- the codes so far are their places
abbrev pub invariant-loop-place : goal.invariant-loop-place
invariant-loop-place l = (k : ℕ) → k < l.place → slice_index l.codes k ≡ k
