use Rattle.{
  frame_parts.proofs.Common.{◌<◌, ◌^◌, arith},
  frame_methods.proofs.SummaryLaws.{distinct_answer},
}
use Rattle.frame_methods.proofs.summaries.summary_cell.Goals as goal

pub returns-in_ok-distinct-in-Distinct-clause-answer : goal.returns-in_ok-distinct-in-Distinct-clause-answer
returns-in_ok-distinct-in-Distinct-clause-answer c =
    let n = c.in_ok-distinct-in-Distinct.field-0 in
    let lt : n < 2 ^ 64 = omega arith in
    rw c.in-Distinct.is (distinct_answer _ c.args.a n _ lt (grind arith) c.count_cell.ensures)
