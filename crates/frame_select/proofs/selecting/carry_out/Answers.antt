use Rattle.{
  frame_parts.proofs.Common.{arith, ◌≡◌, false, refl, ◌∷◌, [], ap, table_value, tables, longer_self, object_settled},
  meaning_charge.specs.select.Select.{cut, row_result},
  frame_select.{specs.Plans.{has_single_row, is_shared}, proofs.CutLaws.{only_place, plan_meant, cell_made}},
}
use Rattle.frame_select.specs.declared.planning.Extent.TheVariants as answer
use Rattle.frame_select.proofs.selecting.carry_out.Goals as goal

pub row_series-series-requires-clause-known : goal.row_series-series-requires-clause-known
row_series-series-requires-clause-known c = search object_settled

pub returns-in-Cell : goal.returns-in-Cell
returns-in-Cell c =
    cell_made _ c.args.store.now _ _ c.args.plan _ _ _ c.read.ensures.table c.requires.settled c.in-Cell.is
    c.first.ensures (c.requires.plan.whole_row (ap has_single_row c.in-Cell.is)) (grind (arith, only_place)) c.cell-cell.ensures _

pub returns-in-Row : goal.returns-in-Row
returns-in-Row c =
    let dict = c.args.dict.now in
    let plan = c.args.plan in
    let single : is_shared plan ≡ false = rw c.in-Row.is refl in
    rw (single, ← plan_meant dict (tables c.args.store.now) c.args.on c.read-in-Row.result plan answer.Row (c.first-row.result ∷ []) plan.columns c.read-in-Row.ensures.table c.in-Row.is c.first-row.ensures (c.requires.plan.whole_row (ap has_single_row c.in-Row.is)) refl) (c.placed.ensures.answers dict (row_result (cut (table_value dict c.read-in-Row.result) (c.first-row.result ∷ []) plan.columns)) (longer_self _) c.requires.settled c.row_series-series.ensures)

pub returns-in-Column : goal.returns-in-Column
returns-in-Column c =
    rw c.in-Column.is (c.take_column.ensures c.args.dict.now c.requires.settled)

pub returns : goal.returns
returns c = rw c.in-Frame.is c.take_frame.ensures
