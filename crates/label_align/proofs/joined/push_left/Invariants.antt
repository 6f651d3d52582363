use Rattle.{
  meaning_align.{proofs.cells.Common.{map, Some, take, ◌-◌}, specs.Joins.{entry}},
  label_align.specs.Joined.{HasMore},
}
use Rattle.label_align.proofs.joined.push_left.Given as goal

abbrev pub invariant-loop-right : goal.invariant-loop-right
invariant-loop-right l = HasMore l.fn.out l.out (map (λ r. entry l.key l.left (Some (r - l.first))) (take l.right-index l.rights))
