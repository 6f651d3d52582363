use Rattle.{
  frame_parts.proofs.Common.{◌≡◌, All, length, drop, pairs_in, pairs_onto, Tables, entries_of},
  frame_make.{specs.Pairs.{entries_seen}, proofs.FrameLaws.{IsKey}},
}
use Rattle.frame_make.proofs.pairs.last_places.Given as goal

-- the pairs so far, before the others
abbrev pub invariant-loop-place : goal.invariant-loop-place
invariant-loop-place l = record {
  inside : All (IsKey l.dict (length l.pairs)) l.places.entries;
  pairs : (live : Tables) → pairs_onto (entries_seen live l.dict l.pairs l.places.entries) (entries_of live l.dict (drop l.place l.pairs)) ≡ pairs_in (entries_of live l.dict l.pairs);
}
