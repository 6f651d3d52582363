use Rattle.{
  frame_parts.proofs.Common.{◌<◌, length, arith},
  frame_methods.proofs.{ColumnLaws.{place_given}, SummaryLaws.{cells_step}},
}
use Rattle.frame_methods.proofs.summaries.summary_column.Goals as goal

pub summary_as-requires : goal.summary_as-requires
summary_as-requires c =
    let lt : c.loop-place.place < length c.args.on.now.columns = omega arith in
    search place_given

pub loop-place-preserved : goal.loop-place-preserved
loop-place-preserved c =
    let lt : c.loop-place.place < length c.args.on.now.columns = omega arith in
    cells_step _ _ _ _ _ _ _ _ _
    c.loop-place.invariant lt c.column.ensures.column c.in_ok-summary_as.ensures.given c.in_ok-push.ensures.ok c.in_ok-summary_as.ensures.answer
