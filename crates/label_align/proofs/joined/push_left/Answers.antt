use Rattle.{
  meaning_align.proofs.cells.Common.{arith, ◌<◌, ◌-◌, length, take_all},
  label_align.proofs.OuterJoinLaws.{entries_with_some},
}
use Rattle.label_align.proofs.joined.push_left.Goals as goal

pub returns : goal.returns
returns c =
    let some : 0 < length c.args.rights.now = grind arith in
    grind (arith, take_all c.loop-right.right-index c.args.rights.now (omega arith), entries_with_some c.args.key (λ r. r - c.args.first) c.args.left c.args.rights.now some)
