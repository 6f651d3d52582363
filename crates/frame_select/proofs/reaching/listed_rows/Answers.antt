use Rattle.{
  frame_parts.proofs.Common.{length},
  frame_select.proofs.ListedLaws.{listed_found, listed_beyond, listed_refused},
}
use Rattle.frame_select.proofs.reaching.listed_rows.Goals as goal

pub returns-in-Ok-Some-clause-rows : goal.returns-in-Ok-Some-clause-rows
returns-in-Ok-Some-clause-rows c = λ settled.
    rw c.listed.ensures (listed_found c.args.dict.now (length c.args.axis.now.names) c.args.axis.now.tuples c.args.labels.now c.len.ensures.distinct c.requires.given settled _ _ (rw c.in-Ok-Some.field-0-is at c.in-Ok-Some.ensures.rows))

pub returns-in-Ok-None-clause-rows : goal.returns-in-Ok-None-clause-rows
returns-in-Ok-None-clause-rows c = λ settled.
    listed_beyond c.args.dict.now (length c.args.axis.now.names) c.args.axis.now.tuples c.args.labels.now c.len.ensures.distinct c.requires.given settled _ (rw c.in-Ok-None.field-0-is at c.in-Ok-None.ensures.rows)

pub returns-in-Err-clause-rows : goal.returns-in-Err-clause-rows
returns-in-Err-clause-rows c = λ settled.
    rw c.refusal.ensures (listed_refused c.args.dict.now (length c.args.axis.now.names) c.args.axis.now.tuples c.args.labels.now c.len.ensures.distinct c.requires.given settled _ c.in-Err.fault c.in-Err.ensures.rows)
