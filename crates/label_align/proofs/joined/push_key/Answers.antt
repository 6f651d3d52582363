use Rattle.{
  meaning_align.proofs.cells.Common.{arith, ◌<◌, length, subst, take_all},
  label_align.{specs.Joined.{HasMore}, proofs.OuterJoinLaws.{entries_of_some}},
}
use Rattle.label_align.proofs.joined.push_key.Goals as goal

pub returns : goal.returns
returns c =
    let some : 0 < length c.args.lefts.now = grind arith in
    subst (HasMore c.args.out.now c.loop-left.out)
    (search (take_all, entries_of_some))
    c.loop-left.invariant
