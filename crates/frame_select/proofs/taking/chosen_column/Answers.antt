use Rattle.{
  frame_parts.proofs.Common.{arith, Int64, Boolean},
  cell_core.specs.declared.cell.Kind.TheVariants.{Text},
  column_core.{specs.{Columns.{number_cell, truth_cell, text_cell}, Lanes.{lane_row}}, proofs.ColumnLaws.{length-column}},
  frame_select.proofs.CutLaws.{chosen_seen},
}
use Rattle.frame_select.proofs.taking.chosen_column.Goals as goal

pub chosen_lane-requires : goal.chosen_lane-requires
chosen_lane-requires c = rw (length-column _ _ _ _ (rw c.in-Ints.is at c.a.view_is)) c.requires

pub returns-in-Ints : goal.returns-in-Ints
returns-in-Ints c =
    let lane = c.in-Ints.lane in
    grind (arith, chosen_seen Int64 number_cell lane.count (lane_row lane.values.now lane.present.now lane.start lane.stride lane.back) c.args.rows.now, length-column _ _ _ _ (rw c.in-Ints.is at c.a.view_is))

pub chosen_lane-requires-in-Truths : goal.chosen_lane-requires-in-Truths
chosen_lane-requires-in-Truths c = rw (length-column _ _ _ _ (rw c.in-Truths.is at c.a.view_is)) c.requires

pub returns-in-Truths : goal.returns-in-Truths
returns-in-Truths c =
    let lane = c.in-Truths.lane in
    grind (arith, chosen_seen Boolean truth_cell lane.count (lane_row lane.values.now lane.present.now lane.start lane.stride lane.back) c.args.rows.now, length-column _ _ _ _ (rw c.in-Truths.is at c.a.view_is))

pub chosen_lane-requires-in-Texts : goal.chosen_lane-requires-in-Texts
chosen_lane-requires-in-Texts c = rw (length-column _ _ _ _ (rw c.in-Texts.is at c.a.view_is)) c.requires

pub returns-in-Texts : goal.returns-in-Texts
returns-in-Texts c =
    let lane = c.in-Texts.lane in
    grind (arith, chosen_seen Text text_cell lane.count (lane_row lane.values.now lane.present.now lane.start lane.stride lane.back) c.args.rows.now, length-column _ _ _ _ (rw c.in-Texts.is at c.a.view_is))
