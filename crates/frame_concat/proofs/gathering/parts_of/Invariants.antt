use Rattle.{
  frame_parts.proofs.Common.{◌≡◌, ◌++◌, drop, List, Text, items_of, tables},
  meaning_method.specs.Concat.{tables_of},
  frame_concat.specs.Parts.{parts_value, AreSettledParts},
}
use Rattle.frame_concat.proofs.gathering.parts_of.Given as goal

-- the parts so far, and the objects that are left
abbrev pub invariant-loop-item : goal.invariant-loop-item
invariant-loop-item l = record {
  whole : (texts : List Text) → parts_value texts l.parts.items ++ tables_of (items_of (tables l.store) texts (drop l.item-index l.items)) ≡ tables_of (items_of (tables l.store) texts l.items);
  known : AreSettledParts (tables l.store) l.parts.items;
}
