use Rattle.index_core.proofs.{cells.Common.{arith}, SameLaws.{holds, all_same}}
use Rattle.multi_index.proofs.axis.Axis.same_rows.Goals as goal

pub same_row-requires-clause-alike : goal.same_row-requires-clause-alike
same_row-requires-clause-alike = grind arith

pub returns : goal.returns
returns = grind (arith, holds, all_same)
