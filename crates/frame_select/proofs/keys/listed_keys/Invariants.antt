use Rattle.{
  frame_parts.proofs.Common.{◌≡◌, List, drop, Text, HaveLevels, Tables, items_of},
  meaning_charge.specs.select.Keys.{whole_items},
  frame_select.proofs.HeadingLaws.{keys_after},
}
use Rattle.frame_select.proofs.keys.listed_keys.Given as goal

-- the keys so far, before those of the other items
abbrev pub invariant-loop-item : goal.invariant-loop-item
invariant-loop-item l = record {
  keys : (live : Tables) (texts : List Text) → keys_after texts l.made (whole_items l.levels (items_of live texts (drop l.item-index l.items))) ≡ whole_items l.levels (items_of live texts l.items);
  full : HaveLevels l.levels l.made;
}
