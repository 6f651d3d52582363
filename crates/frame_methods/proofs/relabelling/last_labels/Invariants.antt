use Rattle.{
  frame_parts.proofs.Common.{drop, [], same_label},
  indexmap.specs.IndexMap.{insert_all},
  frame_methods.{specs.Renames.{given_labels}, proofs.RenameLaws.{LabelsSoFar}},
}
use Rattle.frame_methods.proofs.relabelling.last_labels.Given as goal

-- the labels so far, before the others
abbrev pub invariant-loop-key : goal.invariant-loop-key
invariant-loop-key l = LabelsSoFar l.dict l.labels.entries (drop l.key-index l.pairs) (insert_all same_label [] (given_labels l.dict l.pairs))
