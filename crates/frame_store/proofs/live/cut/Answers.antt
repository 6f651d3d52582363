use Rattle.{
  meaning_tables.{proofs.cells.Common.{[], refl, sym, subst, ℕ, All, length}, specs.Table.{ColumnOf}},
  cell_core.specs.{declared.cell.Cell.{Cell}, Grids.{AreRowsBelow}},
  block_manager.{specs.{Managed.{columns_on}, Parts.{AreBelow}}, proofs.OtherLaws.{other_stands}},
  frame_store.proofs.KeptLaws.{as_many, cut_is, cut_is_right, cut_trades, rows_of_picked},
}
use Rattle.frame_store.proofs.live.cut.Goals as goal

pub slice-made-requires-clause-rows : goal.slice-made-requires-clause-rows
slice-made-requires-clause-rows c =
    let old = c.args.pool.now in
    let m = c.args.manager.now in
    subst (All (λ (k : ColumnOf Cell). AreRowsBelow c.args.rows (length k.cells))) (sym c.in_ok-picked.ensures.columns)
    (rows_of_picked c.args.rows (columns_on old m) c.args.columns.now c.requires.rows (subst (λ (n : ℕ). AreBelow n c.args.columns.now) (sym (as_many old m)) c.requires.columns))

pub release-requires : goal.release-requires
release-requires c = other_stands c.select.new.pool c.slice-made.new.pool [] c.slice-made.ensures.kept c.in_ok-picked.picked c.in_ok-picked.ensures.stands (λ id some. refl)

pub returns-clause-columns : goal.returns-clause-columns
returns-clause-columns c =
    cut_is c.args.pool.now c.select.new.pool c.slice-made.new.pool c.release.new.pool c.args.manager.now c.in_ok-picked.picked c.args.rows c.args.columns.now c.in_ok-picked.ensures.views c.in_ok-picked.ensures.columns c.release.ensures.views c.release.ensures.kept
    c.slice-made.result c.slice-made.ensures.columns c.slice-made.ensures.stands c.slice-made.ensures.views

pub returns-clause-stands : goal.returns-clause-stands
returns-clause-stands c =
    cut_is_right c.args.pool.now c.select.new.pool c.slice-made.new.pool c.release.new.pool c.args.manager.now c.in_ok-picked.picked c.args.rows c.args.columns.now c.in_ok-picked.ensures.views c.in_ok-picked.ensures.columns c.release.ensures.views c.release.ensures.kept
    c.slice-made.result c.slice-made.ensures.stands c.slice-made.ensures.views

pub returns-clause-trades : goal.returns-clause-trades
returns-clause-trades c =
    cut_trades c.args.pool.now c.select.new.pool c.slice-made.new.pool c.release.new.pool c.args.manager.now c.in_ok-picked.picked c.args.rows c.args.columns.now c.in_ok-picked.ensures.views c.in_ok-picked.ensures.columns c.release.ensures.views c.release.ensures.kept
    c.slice-made.result c.select.ensures.kept c.slice-made.ensures.kept c.slice-made.ensures.views c.slice-made.ensures.err
