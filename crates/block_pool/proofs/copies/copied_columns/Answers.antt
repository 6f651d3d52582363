use Rattle.{column_core.proofs.cells.Common.{◌≡◌, ℕ, take, drop, ◌++◌, ◌∙◌, ap, arith, List, Cell, slice_set}, column_core.{specs.Blocks.{CellBlock}, proofs.ColumnLaws.{length-tabulate}}, block_pool.proofs.CopyLaws.{filled_columns, blank_next, column_filled, all_filled, target, blank}}
use Rattle.block_pool.proofs.copies.copied_columns.Goals as goal

pub fill-requires-clause-column : goal.fill-requires-clause-column
fill-requires-clause-column c = rw c.loop-column.invariant (omega (arith, filled_columns c.args.block.now c.args.view c.loop-column.column))

pub fill-requires-clause-rows : goal.fill-requires-clause-rows
fill-requires-clause-rows c = rw (c.loop-column.invariant, c.shown.ensures.cells) (length-tabulate c.args.view.count _)

pub fill-requires-clause-even : goal.fill-requires-clause-even
fill-requires-clause-even c = rw c.loop-column.invariant (blank_next c.args.block.now c.args.view c.loop-column.column c.loop-column-test.true)

pub loop-column-preserved : goal.loop-column-preserved
loop-column-preserved c =
    let block = c.args.block.now in
    let v = c.args.view in
    c.fill.ensures
    ∙ ap (λ (old : CellBlock). record { kind = old.kind; rows = old.rows; columns = slice_set old.columns c.loop-column.column c.shown.result.cells }) c.loop-column.invariant
    ∙ ap (λ (columns : List (List Cell)). record { kind = block.kind; rows = v.count; columns = columns })
    (rw c.shown.ensures.cells (column_filled block v c.loop-column.column c.loop-column-test.true))

pub returns : goal.returns
returns c =
    let block = c.args.block.now in
    let v = c.args.view in
    let end : c.loop-column.column ≡ v.columns = omega arith in
    c.loop-column.invariant
    ∙ ap (λ (n : ℕ). record { kind = block.kind; rows = v.count; columns = take n (target block v) ++ drop n (blank block v) }) end
    ∙ ap (λ (columns : List (List Cell)). record { kind = block.kind; rows = v.count; columns = columns }) (all_filled block v)
