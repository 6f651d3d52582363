use Rattle.{
  frame_parts.proofs.Common.{arith, rules},
  frame_labels.proofs.ReindexLaws.{rows_made, rows_answer},
}
use Rattle.frame_labels.proofs.reindexing.rows_reindexed.Goals as goal

pub returns : goal.returns
returns c =
    let t = c.args.on.now in
    rows_answer _ t _ _ (rw (c.axis-2.ensures, c.in_ok-axis.ensures) at c.in_ok-rows.ensures.rows) (grind (arith, c.in_ok-rows.ensures.count, c.in_ok-axis.ensures)) c.new.result (search rules) c.requires.known c.requires.labels
    (grind (arith, rows_made))
