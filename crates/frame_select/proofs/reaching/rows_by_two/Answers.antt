use Rattle.frame_parts.proofs.Common.{arith, tables}
use Rattle.frame_select.proofs.reaching.rows_by_two.Goals as goal

pub rows_by-requires-clause-key : goal.rows_by-requires-clause-key
rows_by-requires-clause-key c =
    let live = tables c.args.store.now in
    record {
      live = c.in_ok-key.ensures.live live;
      given = grind arith;
    }
