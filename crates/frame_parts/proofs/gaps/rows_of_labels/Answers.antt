use Rattle.{
  frame_parts.proofs.Common.{arith, Err, reindexed, AlignsBy, as_it_is, rows_below, rows_counted, rows_met, rows_refused},
  label_align.specs.row_keys.Keys.{same_tuple},
}
use Rattle.frame_parts.proofs.gaps.rows_of_labels.Goals as goal

pub returns-in-Ok-clause-rows : goal.returns-in-Ok-clause-rows
returns-in-Ok-clause-rows = grind (arith, rows_met)

pub returns-in-Err-clause-rows : goal.returns-in-Err-clause-rows
returns-in-Err-clause-rows c =
    let is : AlignsBy as_it_is (Err c.in-Err.fault) (reindexed same_tuple c.args.axis.now.tuples c.args.labels.now.tuples) = grind arith in
    rw c.align_refusal.ensures (rows_refused c.args.dict.now c.len.ensures.distinct _ _ c.requires.own c.requires.given c.in-Err.fault is)

pub returns-in-Ok-clause-count : goal.returns-in-Ok-clause-count
returns-in-Ok-clause-count = grind (arith, rows_counted)

pub returns-in-Ok-clause-below : goal.returns-in-Ok-clause-below
returns-in-Ok-clause-below = grind (arith, rows_below)
