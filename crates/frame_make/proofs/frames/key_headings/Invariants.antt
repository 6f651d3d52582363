use Rattle.{
  frame_parts.proofs.Common.{◌≡◌, ◌++◌, map, Some, None},
  indexmap.specs.IndexMap.{keys},
}
use Rattle.frame_make.proofs.frames.key_headings.Given as goal

-- the headings so far, before the other keys
abbrev pub invariant-loop-label : goal.invariant-loop-label
invariant-loop-label l = record {
  nameless : l.headings.columns_name ≡ None;
  labels : l.headings.labels ++ map (λ key. Some key) l.label-iterator ≡ map (λ key. Some key) (keys l.places);
}
