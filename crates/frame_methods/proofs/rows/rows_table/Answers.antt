use Rattle.{
  frame_parts.proofs.Common.{arith, ◌≡◌, true, length, rules, within_limits},
  frame_select.proofs.PickedLaws.{places_inside, places_count},
  frame_methods.proofs.RowLaws.{rows_made},
}
use Rattle.frame_methods.proofs.rows.rows_table.Goals as goal

pub chosen_table-requires-clause-columns : goal.chosen_table-requires-clause-columns
chosen_table-requires-clause-columns c = places_inside _ _ _ c.in_ok-columns.ensures c.columns-2.ensures

pub chosen_table-requires-clause-headed : goal.chosen_table-requires-clause-headed
chosen_table-requires-clause-headed = grind (arith, places_count)

pub returns : goal.returns
returns c = λ texts settled.
    let t = c.args.on.now in
    let within : within_limits (length c.args.rows.now) (length t.columns) ≡ true = search rules in
    rows_made _ t _ _ _ _
    c.in_ok-headings.ensures (rw c.columns-2.ensures at c.in_ok-columns.ensures)
    (grind arith) within settled
