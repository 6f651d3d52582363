use Rattle.{
  frame_parts.proofs.Common.{arith, tables},
  frame_select.proofs.ReachLaws.{joined_settled},
}
use Rattle.frame_set.proofs.targets.rows_of_pair.Goals as goal

pub rows_reached-requires-clause-key : goal.rows_reached-requires-clause-key
rows_reached-requires-clause-key c =
    let live = tables c.args.store.now in
    record {
      live = c.in_ok-key.ensures.live live;
      given = grind (arith, joined_settled);
    }
