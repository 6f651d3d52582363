use Rattle.{
  frame_parts.proofs.Common.{arith, All-push, err_from_is_err_and, IsSingle},
  frame_labels.proofs.LevelColumnLaws.{level_step, level_refused},
}
use Rattle.frame_labels.proofs.level_columns.level_columns.Goals as goal

pub returns-in_err-column-clause-columns : goal.returns-in_err-column-clause-columns
returns-in_err-column-clause-columns c = λ texts.
    let p = err_from_is_err_and c.from_residual.result c.from_residual.ensures.1 in
    rw (p.1, p.2) (grind (arith, level_refused texts c.args.axis.now c.loop-level.level))

pub loop-level-preserved : goal.loop-level-preserved
loop-level-preserved c =
    record {
      single = rw c.in_ok-push.ensures.ok (All-push IsSingle _ _ c.loop-level.invariant.single (grind arith));
      columns = λ texts. level_step _ c.args.axis.now _ _ _ c.in_ok-column.column (omega arith) (grind arith) (c.in_ok-column.ensures texts) (c.loop-level.invariant.columns texts);
    }
