use Rattle.{
  frame_parts.proofs.Common.{◌≡◌, drop},
  frame_labels.specs.method.Merge.{are_same_kinds},
  frame_merge.specs.Keys.{kinds_of},
}
use Rattle.frame_merge.proofs.keys.are_same_kinds.Given as goal

-- the keys from here on decide it
abbrev pub invariant-loop-k : goal.invariant-loop-k
invariant-loop-k l = are_same_kinds (drop l.k (kinds_of l.l l.keys.left)) (drop l.k (kinds_of l.r l.keys.right)) ≡ are_same_kinds (kinds_of l.l l.keys.left) (kinds_of l.r l.keys.right)
