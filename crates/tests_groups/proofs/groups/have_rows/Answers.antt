use Rattle.column_core.{proofs.cells.Common.{◌≡◌, ◌<◌, ◌≤◌, length, All, arith, rules, subst, slice_index_or, common_steps, take_all, All-more}, specs.Columns.{CellColumn}}
use Rattle.tests_groups.proofs.groups.have_rows.Goals as goal

pub loop-column-preserved : goal.loop-column-preserved
loop-column-preserved c =
    let columns = c.args.columns.now in
    let k = c.loop-column.column-index in
    let lt : k < length columns = omega arith in
    let here : length (slice_index_or columns k c.column-item.result).cells ≡ c.args.rows = first_of (search rules, grind (arith, common_steps)) in
    All-more (λ (column : CellColumn). length column.cells ≡ c.args.rows) columns k c.column-item.result lt c.loop-column.invariant here

pub returns : goal.returns
returns c = λ _.
    let columns = c.args.columns.now in
    let end : length columns ≤ c.loop-column.column-index = omega arith in
    subst (All (λ (column : CellColumn). length column.cells ≡ c.args.rows)) (take_all c.loop-column.column-index columns end) c.loop-column.invariant
