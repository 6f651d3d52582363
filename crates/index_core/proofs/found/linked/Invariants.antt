use Rattle.index_core.specs.Found.{HaveFirstRows, HaveNextRows}
use Rattle.index_core.proofs.found.linked.Given as goal

-- the rows from one on are linked
abbrev pub invariant-loop-row : goal.invariant-loop-row
invariant-loop-row l = record {
  first : HaveFirstRows l.first.entries l.labels l.row;
  next : HaveNextRows l.next.items l.labels l.row;
}
