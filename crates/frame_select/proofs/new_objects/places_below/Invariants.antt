use Rattle.frame_parts.proofs.Common.{◌≡◌, range_with_len}
use Rattle.frame_select.proofs.new_objects.places_below.Given as goal

abbrev pub invariant-loop-place : goal.invariant-loop-place
invariant-loop-place l = l.places ≡ range_with_len 0 l.place
