use Rattle.frame_parts.proofs.Common.{◌≡◌, ◌<◌, ℕ, false, nat_eq, slice_index_or}
use Rattle.frame_merge.proofs.places.key_at.Given as goal

-- no key so far is the column
abbrev pub invariant-loop-place : goal.invariant-loop-place
invariant-loop-place l = (k : ℕ) → k < l.place → nat_eq l.column (slice_index_or l.keys k 0) ≡ false
