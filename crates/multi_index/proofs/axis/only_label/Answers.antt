use Rattle.{
  index_core.proofs.cells.Common.{arith},
  multi_index.proofs.TupleLaws.{only_label_is},
}
use Rattle.multi_index.proofs.axis.only_label.Goals as goal

pub returns-in-Some : goal.returns-in-Some
returns-in-Some c =
    cc (c.in-Some.is, only_label_is c.in-Some.tuple.now c.at.result (grind arith) c.at.ensures)
