use Rattle.column_core.proofs.cells.Common.{arith, [], take_more, get_or_from_slice_get}
use Rattle.merge_concat.proofs.beside.tuples_of.Goals as goal

pub loop-row-preserved : goal.loop-row-preserved
loop-row-preserved c = grind (arith, take_more c.args.axis.now.tuples c.loop-row.row [], get_or_from_slice_get c.args.axis.now.tuples c.loop-row.row c.tuple.result [])
