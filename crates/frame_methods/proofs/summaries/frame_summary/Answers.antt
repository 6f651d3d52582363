use Rattle.{
  frame_parts.proofs.Common.{◌≡◌, true, length, rules, within_limits},
  frame_methods.proofs.SeriesLaws.{frame_made},
}
use Rattle.frame_methods.proofs.summaries.frame_summary.Goals as goal

pub returns : goal.returns
returns c =
    let within : within_limits (length c.args.on.now.columns) 1 ≡ true = search rules in
    frame_made _ _ c.args.on.now _ _ _ _
    c.in_ok-cells.ensures.answer (c.kind_for-kind.ensures _) c.in_ok-cells.ensures.kind within c.requires.whole.headed c.in_ok-axis.ensures c.in_ok-series_table.ensures c.requires.given c.in_ok-cells.ensures.given
