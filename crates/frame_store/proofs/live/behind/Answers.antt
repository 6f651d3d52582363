use Rattle.{meaning_tables.{proofs.cells.Common.{◌∙◌, ◌++◌, [], List, ap, arith}, specs.Table.{ColumnOf}}, cell_core.specs.declared.cell.Cell.{Cell}, block_manager.specs.Managed.{columns_on}, frame_store.{specs.Parts.{columns_of}, proofs.{ColumnLaws.{all_rows_fit, all_rows_same}, KeptLaws.{trades_then, same_held}}}}
use Rattle.frame_store.proofs.live.behind.Goals as goal

pub slice-requires-clause-rows : goal.slice-requires-clause-rows
slice-requires-clause-rows c = all_rows_fit c.args.count (columns_on c.args.pool.now c.args.manager.now) c.requires.rows

pub returns-in-Ok-clause-columns : goal.returns-in-Ok-clause-columns
returns-in-Ok-clause-columns c =
    c.in-Ok.ensures.columns
    ∙ ap (λ (cs : List (ColumnOf Cell)). columns_of c.args.first.items ++ cs) (c.in_ok-made.ensures.columns ∙ all_rows_same c.args.count (columns_on c.args.pool.now c.args.manager.now) c.requires.rows)

pub returns-in-Ok-clause-trades : goal.returns-in-Ok-clause-trades
returns-in-Ok-clause-trades c =
    trades_then c.args.pool.now c.slice.new.pool c.put_first.new.pool c.in_ok-made.made.views c.put_first.new.self.views c.in_ok-made.ensures.views c.in_ok-made.ensures.kept c.in-Ok.ensures.views c.in-Ok.ensures.kept

pub returns-in-Err-clause-trades : goal.returns-in-Err-clause-trades
returns-in-Err-clause-trades c =
    let first = trades_then c.args.pool.now c.slice.new.pool c.put_first.new.pool c.in_ok-made.made.views c.put_first.new.self.views c.in_ok-made.ensures.views c.in_ok-made.ensures.kept c.in-Err.ensures.views c.in-Err.ensures.kept in
    trades_then c.args.pool.now c.put_first.new.pool c.release.new.pool c.put_first.new.self.views [] first.views first.kept c.release.ensures.views c.release.ensures.kept

pub returns-in-Ok-clause-held : goal.returns-in-Ok-clause-held
returns-in-Ok-clause-held c = omega (arith, c.in-Ok.ensures.held, same_held c.args.pool.now c.slice.new.pool c.in_ok-made.ensures.blocks)

pub returns-in-Err-clause-held : goal.returns-in-Err-clause-held
returns-in-Err-clause-held c = omega (arith, c.release.ensures.held, same_held c.slice.new.pool c.put_first.new.pool c.in-Err.ensures.err.1.blocks, same_held c.args.pool.now c.slice.new.pool c.in_ok-made.ensures.blocks)
