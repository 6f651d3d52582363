use Rattle.{
  index_core.proofs.cells.Common.{arith, refl},
  multi_index.{specs.Picks.{as_it_is}, proofs.PickLaws.{rows_seen, fault_lifted}},
}
use Rattle.multi_index.proofs.axis.single_places.Goals as goal

pub returns-in-Ok : goal.returns-in-Ok
returns-in-Ok c = grind (arith, rows_seen c.args.labels.now _ _ _ refl c.requires c.at.ensures, c.in-Ok.ensures)

pub returns-in-Err : goal.returns-in-Err
returns-in-Err c = rw c.axis_fault.ensures (fault_lifted _ as_it_is c.in-Err.fault _ _ (rows_seen _ _ _ _ refl c.requires c.at.ensures) c.in-Err.ensures)
