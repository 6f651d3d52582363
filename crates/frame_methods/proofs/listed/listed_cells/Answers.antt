use Rattle.{
  frame_parts.proofs.Common.{◌<◌, length, arith},
  frame_methods.proofs.ListedLaws.{first_settled, noted_given, noted_step},
}
use Rattle.frame_methods.proofs.listed.listed_cells.Goals as goal

pub loop-item-preserved : goal.loop-item-preserved
loop-item-preserved c =
    let lt : c.loop-item.item-index < length c.args.items.now = omega arith in
    let both = first_settled _ _ _ _ _ lt c.item-item.is c.scalar.ensures c.loop-item.invariant.settled in
    record {
      settled = both.1;
      given = rw c.in_ok-note.ensures (search noted_given);
      same = λ texts test.
          noted_step _ _ _ _ _ _ _ _ _ lt c.item-item.is c.scalar.ensures c.in_ok-note.ensures
          (c.loop-item.invariant.same texts test);
    }
