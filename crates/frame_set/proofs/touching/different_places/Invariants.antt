use Rattle.{
  frame_parts.proofs.Common.{◌≡◌, ◌≤◌, ◌+◌, drop, length},
  frame_select.specs.charge.Charge.{different_count},
  frame_set.proofs.TouchLaws.{AreMarks},
}
use Rattle.frame_set.proofs.touching.different_places.Given as goal

-- the places from one on
abbrev pub invariant-loop-k : goal.invariant-loop-k
invariant-loop-k l = record {
  marks : AreMarks l.later.items l.count (drop l.k l.places);
  count : l.different ≡ different_count (drop l.k l.places);
  within : l.different + l.k ≤ length l.places;
}
