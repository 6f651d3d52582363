use Rattle.{
  frame_parts.proofs.Common.{◌≡◌, ◌++◌, List, drop, Text, headings_value},
  frame_signatures.specs.Scalars.{scalars},
  frame_labels.specs.Levels.{some_labels},
}
use Rattle.frame_labels.proofs.axis_names.push_names.Given as goal

-- the names so far, before the others
abbrev pub invariant-loop-item : goal.invariant-loop-item
invariant-loop-item l = (texts : List Text)
    → headings_value texts l.names.items ++ some_labels (scalars texts (drop l.item-index l.items)) ≡ headings_value texts l.fn.names.items ++ some_labels (scalars texts l.items)
