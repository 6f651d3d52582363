use Rattle.{
  frame_parts.proofs.Common.{arith, ◌≡◌, Err, rules, Joined, table_value},
  frame_ops.proofs.JoinLaws.{joined_refused, joined_makes, rows_beyond, rows_found},
  column_operators.specs.Tasks.{operator_of},
  frame_ops.specs.Namings.{named_by},
}
use Rattle.frame_ops.proofs.joining.joined_infix.Goals as goal

pub returns-in_err-rows-clause-makes : goal.returns-in_err-rows-clause-makes
returns-in_err-rows-clause-makes c =
    let is : c.from_residual.result ≡ Err c.in_err-rows.field-0.0 = search rules in
    rw is (rows_beyond (operator_of c.args.op) c.args.dict.now c.args.a.now c.args.b.now (table_value c.args.dict.now (named_by c.args.a.now c.args.naming)) c.requires.columns c.requires.kinds c.rows_within-most.result _ c.columns.ensures c.rows_within-most.ensures.law _ _ c.axis.ensures c.axis-2.ensures _ _ c.in_err-rows.was c.joined_rows.ensures.rows)

pub returns-in_err-blocks-clause-makes : goal.returns-in_err-blocks-clause-makes
returns-in_err-blocks-clause-makes c =
    let rows : Joined = record { axis = c.name_levels.new.axis; left = c.in_ok-rows.rows.left; right = c.in_ok-rows.rows.right } in
    let is : c.from_residual-in_err-blocks.result ≡ Err c.in_err-blocks.field-0.0 = search rules in
    let found = rows_found c.args.dict.now c.args.a.now c.args.b.now _ c.rows_within-most.ensures.few _ _ c.axis.ensures c.axis-2.ensures c.in_ok-rows.rows c.in_ok-rows.ensures.rows c.name_levels.new.axis c.name_levels.ensures.tuples in
    rw is (joined_refused c.args.dict.now _ c.args.a.now c.args.b.now c.args.naming rows (operator_of c.args.op) found _ _ c.in_err-blocks.was c.joined_columns.ensures.made)

pub returns-clause-makes : goal.returns-clause-makes
returns-clause-makes c =
    let rows : Joined = record { axis = c.name_levels.new.axis; left = c.in_ok-rows.rows.left; right = c.in_ok-rows.rows.right } in
    let same : rows.axis.tuples ≡ c.in_ok-rows.rows.axis.tuples = c.name_levels.ensures.tuples in
    let found = rows_found c.args.dict.now c.args.a.now c.args.b.now _ c.rows_within-most.ensures.few _ _ c.axis.ensures c.axis-2.ensures c.in_ok-rows.rows c.in_ok-rows.ensures.rows c.name_levels.new.axis same in
    joined_makes c.args.dict.now c.joined_columns.new.dict c.args.a.now c.args.b.now c.args.naming rows (operator_of c.args.op) found
    c.requires.known_a.given c.requires.name (rw same c.in_ok-rows.ensures.given) c.name_levels.ensures.given
    c.in_ok-blocks.blocks _ (grind arith) (grind arith) c.joined_columns.ensures.longer c.in_ok-blocks.ensures.made c.in_ok-blocks.ensures.columns
