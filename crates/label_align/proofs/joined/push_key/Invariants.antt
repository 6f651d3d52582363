use Rattle.{
  meaning_align.{proofs.cells.Common.{Some, take, map, ◌-◌, flat_map}, specs.Joins.{entries_with}},
  label_align.specs.Joined.{HasMore},
}
use Rattle.label_align.proofs.joined.push_key.Given as goal

abbrev pub invariant-loop-left : goal.invariant-loop-left
invariant-loop-left l = HasMore l.fn.out l.out (flat_map (λ r. entries_with l.key (map (λ row. row - l.first) l.rights) (Some r)) (take l.left-index l.lefts))
