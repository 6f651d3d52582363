use Rattle.{
  column_core.proofs.cells.Common.{arith},
  asof_merge.proofs.WalkLaws.{beyond_next},
}
use Rattle.asof_merge.proofs.walk.pass_rows.Goals as goal

pub returns-then-not-is_on_side-clause-beyond : goal.returns-then-not-is_on_side-clause-beyond
returns-then-not-is_on_side-clause-beyond c = beyond_next _ _ c.args.direction c.loop-passed.passed c.next_row-row.result c.args.others.now.ascending c.next_row-row.ensures.next c.next_row-row.ensures.within (grind arith)
