use Rattle.{
  frame_parts.proofs.Common.{◌≡◌, take, length, flat_map, labels_value, blocks_value},
  meaning_method.specs.Concat.{columns_beside},
  frame_concat.specs.{Parts.{parts_value}, Beside.{AreBlocks}},
}
use Rattle.frame_concat.proofs.beside.columns_beside.Given as goal

-- the columns of the parts so far
abbrev pub invariant-loop-part : goal.invariant-loop-part
invariant-loop-part l = record {
  blocks : AreBlocks l.dict (length l.axis.tuples) l.made;
  columns : blocks_value l.dict l.made ≡ flat_map (columns_beside (labels_value l.dict l.axis.tuples)) (parts_value l.dict (take l.part-index l.parts));
}
