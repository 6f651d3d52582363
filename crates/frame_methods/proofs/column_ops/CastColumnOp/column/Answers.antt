use Rattle.frame_methods.proofs.OpLaws.{cast_count}
use Rattle.frame_methods.proofs.column_ops.CastColumnOp.column.Goals as goal

pub returns-clause-rows : goal.returns-clause-rows
returns-clause-rows c = cast_count _ _ _ c.args.a _ c.cast.ensures.answer
