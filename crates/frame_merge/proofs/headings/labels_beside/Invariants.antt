use Rattle.{
  frame_parts.proofs.Common.{◌≡◌, map, take, IsLonger, IsSettled, table_value, headings_value},
  frame_merge.specs.Headings.{label_beside},
}
use Rattle.frame_merge.proofs.headings.labels_beside.Given as goal

-- the labels so far
abbrev pub invariant-loop-k : goal.invariant-loop-k
invariant-loop-k l = record {
  longer : IsLonger l.fn.dict l.dict;
  given : IsSettled headings_value l.dict l.labels.items;
  labels : headings_value l.dict l.labels.items ≡ map (label_beside (table_value l.fn.dict l.on) l.on l.keys l.suffix l.others.keys) (take l.k l.places);
}
