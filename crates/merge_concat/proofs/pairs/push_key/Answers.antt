use Rattle.{
  column_core.proofs.cells.Common.{arith, ◌<◌, length, subst, take_all},
  merge_concat.{specs.Pairs.{HasMore}, proofs.JoinLaws.{of_some}},
}
use Rattle.merge_concat.proofs.pairs.push_key.Goals as goal

pub returns : goal.returns
returns c =
    let some : 0 < length c.args.lefts.now = grind arith in
    subst (HasMore c.args.out.now c.loop-left.out)
    (search (take_all, of_some))
    c.loop-left.invariant
