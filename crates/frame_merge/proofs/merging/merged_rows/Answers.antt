use Rattle.{
  frame_parts.proofs.Common.{arith},
  frame_merge.proofs.TableLaws.{many_so, met_so},
}
use Rattle.frame_merge.proofs.merging.merged_rows.Goals as goal

pub returns-in_default-clause-answer : goal.returns-in_default-clause-answer
returns-in_default-clause-answer c =
    many_so c.args.dict.now c.args.l.now c.args.r.now c.args.keys.now c.args.how c.args.once _ _ c.in_ok-met.ensures.rows _ _ c.in_ok-rights.ensures c.columns.ensures _ (grind arith) c.rows_within-most.ensures.law c.in_default.is

pub returns-clause-answer : goal.returns-clause-answer
returns-clause-answer c = met_so c.args.dict.now c.args.l.now c.args.r.now c.args.keys.now c.args.how c.args.once _ _ c.in_ok-met.ensures.rows _ c.in-Some.is _ _ c.frame_of_pairs.ensures.answer
