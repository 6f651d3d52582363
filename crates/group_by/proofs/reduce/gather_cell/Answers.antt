use Rattle.{
  column_core.proofs.cells.Common.{arith, ◌<◌, length, All-set},
  factorize.specs.group.Reductions.{group_kind},
  group_by.specs.Cells.{IsCellOf},
}
use Rattle.group_by.proofs.reduce.gather_cell.Goals as goal

pub returns-in-Some-clause-held : goal.returns-in-Some-clause-held
returns-in-Some-clause-held g c = λ kind olds here.
    let lt : c.in-Some.group < length c.args.gathered.now = grind arith in
    All-set (IsCellOf c.args.dict.now (group_kind g.G.Gather.op kind)) c.args.gathered.now _ _ (c.step.ensures.held kind (olds _ _ lt) here) olds
