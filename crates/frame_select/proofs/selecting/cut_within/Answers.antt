use Rattle.{
  frame_parts.proofs.Common.{arith, rules, ◌≡◌, true, length, Ok, Err, length-map, limited, within_limits, NoMemory, NumberedTable, table_value, table_at, tables, longer_self, settled_with},
  frame_select.{specs.Plans.{rows_in, share_cells, taken_table}, proofs.{CutLaws.{new_answers, table_is_settled, taken_seen, taken_settled}, FreeLaws.{taken_cost}}},
}
use Rattle.frame_store.specs.tables.Value as value
use Rattle.frame_select.proofs.selecting.cut_within.Goals as goal

pub returns-in_err-id : goal.returns-in_err-id
returns-in_err-id c = λ texts settled given.
    let refused : c.from_residual.result ≡ Err NoMemory = search rules in
    rw refused (
      grind arith,
      longer_self _,
      rw c.in_err-id.ensures.err settled,
      record { cells = omega (arith, c.in_err-id.ensures.held); blocks = c.in_err-id.ensures.blocks },
    )

pub returns : goal.returns
returns c = λ texts settled given.
    let t = table_at (tables c.args.store.now) c.args.on.0 in
    let taken : NumberedTable = taken_table c.args.shape c.args.headings c.args.rows.now c.args.columns.now t in
    let within : within_limits (length (rows_in c.args.rows.now)) (length c.args.columns.now) ≡ true = search rules in
    let is : limited (table_value texts taken) ≡ Ok (value.table (table_value texts taken)) = grind (arith, taken_seen texts c.args.shape c.args.headings c.args.rows.now c.args.columns.now t, length-map) in (
      new_answers _ _ _ _ _ _ c.in_ok-id.ensures.fresh c.in_ok-id.ensures.ok settled is,
      longer_self texts,
      settled_with _ _ _ _ _ settled (taken_settled texts c.args.shape _ c.args.rows.now _ t (table_is_settled _ _ _ c.requires.live settled) given) c.in_ok-id.ensures.ok,
      record { cells = omega (arith, c.in_ok-id.ensures.held, taken_cost texts taken (share_cells c.args.rows.now) _ is); blocks = c.in_ok-id.ensures.blocks },
    )
