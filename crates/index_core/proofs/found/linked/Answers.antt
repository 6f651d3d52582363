use Rattle.{
  meaning_pick.proofs.cells.Common.{length-set, get_or_default, get_or-set_same, get_or-set_other, cases_eq, ◌<◌, ◌+◌, ◌-◌, length, arith},
  index_core.{specs.Found.{HaveFirstRows, HaveNextRows}, proofs.LinkLaws.{first_more}},
}
use Rattle.index_core.proofs.found.linked.Goals as goal

pub loop-row-preserved : goal.loop-row-preserved
loop-row-preserved c =
    let labels = c.args.labels.now in
    let p = c.loop-row.row - 1 in
    let lt : p < length labels = omega arith in
    let first : HaveFirstRows c.loop-row.first.entries labels (p + 1) = grind arith in
    let next : HaveNextRows c.loop-row.next.items labels (p + 1) = grind arith in
    record {
      first = first_more _ p _ _ _ lt (λ q. c.in_ok-later.ensures.updates.0 q) first;
      next = grind (arith, length-set, get_or_default, cases_eq, get_or-set_same, get_or-set_other);
    }
