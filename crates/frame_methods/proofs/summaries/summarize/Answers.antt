use Rattle.{
  frame_parts.proofs.Common.{◌<◌, length, sym, arith},
  frame_methods.proofs.ColumnLaws.{place_given},
}
use Rattle.frame_methods.proofs.summaries.summarize.Goals as goal

pub summary_cell-requires : goal.summary_cell-requires
summary_cell-requires c =
    let lt : 0 < length c.args.on.now.columns = omega (arith, c.requires.whole.headed, c.requires.whole.headings.single (sym c.in-Series.ensures)) in
    place_given _ _ 0 _ c.requires.given lt c.column.ensures.column
