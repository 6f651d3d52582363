use Rattle.{
  index_core.{proofs.cells.Common.{arith, refl}, specs.pick.Rows.{rows_of}},
  multi_index.proofs.PickLaws.{slice_seen, fault_lifted},
}
use Rattle.multi_index.proofs.axis.single_slice.Goals as goal

pub returns-in-Ok-clause-rows : goal.returns-in-Ok-clause-rows
returns-in-Ok-clause-rows c = grind (arith, slice_seen c.args.dict.now c.args.labels.now _ _ _ _ _ refl c.only_label.ensures c.only_label-2.ensures, c.in-Ok.ensures.rows)

pub returns-in-Err-clause-rows : goal.returns-in-Err-clause-rows
returns-in-Err-clause-rows c =
    rw c.axis_fault.ensures (fault_lifted ⊥ rows_of c.in-Err.fault _ _ (search slice_seen) c.in-Err.ensures.rows)
