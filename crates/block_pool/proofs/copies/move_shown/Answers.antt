use Rattle.{column_core.proofs.cells.Common.{◌∙◌, ◌++◌, ap, sym, arith, take, drop, map, List}, column_core.specs.{Blocks.{columns_in}, Columns.{CellColumn}}, block_pool.{specs.Placed.{turned}, proofs.{CopyLaws.{changed_behind}, FullLaws.{shown_ahead, shown_back}}}}
use Rattle.block_pool.proofs.copies.move_shown.Goals as goal

pub returns-then-view-clause-items : goal.returns-then-view-clause-items
returns-then-view-clause-items c =
    let old = c.args.list.now.items in
    let moved = take c.args.view.columns (columns_in c.args.block) in
    c.turn_from.ensures.items
    ∙ ap (λ (l : List CellColumn). take c.len-before.result l ++ map turned (drop c.len-before.result l)) c.move_columns.ensures.items
    ∙ changed_behind turned old moved c.len-before.result (omega (arith, c.len-before.ensures, c.args.list.now.ok.0))
    ∙ ap (λ (cs : List CellColumn). old ++ cs) (sym (shown_back c.args.block c.args.view c.requires.placed c.requires.even c.requires.full c.if-view.true))

pub returns-else-view-clause-items : goal.returns-else-view-clause-items
returns-else-view-clause-items c =
    c.move_columns.ensures.items
    ∙ ap (λ (cs : List CellColumn). c.args.list.now.items ++ cs) (sym (shown_ahead c.args.block c.args.view c.requires.placed c.requires.even c.requires.full c.if-view.false))
