use Rattle.frame_parts.proofs.Common.{◌≡◌, fold, length, take, slice_set, range_with_len}
use Rattle.frame_set.proofs.sharing.picks_of.Given as goal

-- the places behind the one more so far
abbrev pub invariant-loop-place : goal.invariant-loop-place
invariant-loop-place l = l.picks.items ≡ range_with_len 1 l.place

-- the picks, with those of the places so far
abbrev pub invariant-loop-taken : goal.invariant-loop-taken
invariant-loop-taken l = record {
  count : length l.picks.items ≡ l.count;
  picks : l.picks.items ≡ fold (λ picks place. slice_set picks place 0) (range_with_len 1 l.count) (take l.taken-index l.taken-items);
}
