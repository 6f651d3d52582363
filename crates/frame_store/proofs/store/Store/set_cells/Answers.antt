use Rattle.{meaning_tables.{proofs.cells.Common.{on_ok_weaker, sym, subst}, specs.{Table.{NumberedTable}, Change.{with_values}, Valid.{IsWhole}}}, std.proofs.lemmas.Result.{on_err_weaker}, block_manager.specs.Managed.{RaisesBy, cells_named}, frame_store.{specs.{Parts.{AreRowsOf, AreColumnsOf, AreHeld}, Stores.{charged, tables_over}}, proofs.{ChangedLaws.{store_changed, tables_changed, tables_unchanged, lie_changed, kept_there, table_is, set_in, sole_there, sole_blocks}, KeptLaws.{stays_table}}}}
use Rattle.frame_store.proofs.store.Store.set_cells.Goals as goal

pub set_cells-requires-clause-kept : goal.set_cells-requires-clause-kept
set_cells-requires-clause-kept c = kept_there c.args.self.now.pool c.args.self.now.objects.slots c.args.self.now.kept c.args.on.0 c.index_mut.result.now c.index_mut.ensures.value

pub invariant_of-self : goal.invariant_of-self
invariant_of-self c =
    record { kept = store_changed c.args.self.now.pool c.set_cells.new.pool c.args.self.now.objects.slots c.args.on.0 c.index_mut.result.now c.set_cells.new.self c.args.self.now.kept c.index_mut.ensures.value c.set_cells.ensures.trades c.set_cells.ensures.kept }

pub returns-clause-ok : goal.returns-clause-ok
returns-clause-ok c =
    on_ok_weaker c.set_cells.result
    (tables_changed c.args.self.now.pool c.set_cells.new.pool c.args.self.now.objects.slots c.args.on.0 c.index_mut.result.now c.set_cells.new.self c.args.self.now.kept c.index_mut.ensures.value c.set_cells.ensures.trades (λ t. with_values t c.args.rows.now c.args.columns.now c.args.values.now))
    c.set_cells.ensures.table

pub returns-clause-err : goal.returns-clause-err
returns-clause-err c =
    on_err_weaker c.set_cells.result
    (λ same. tables_unchanged c.args.self.now.pool c.set_cells.new.pool c.args.self.now.objects.slots c.args.on.0 c.index_mut.result.now c.set_cells.new.self c.args.self.now.kept c.index_mut.ensures.value c.set_cells.ensures.trades
    (stays_table c.args.self.now.pool c.set_cells.new.pool c.index_mut.result.now c.set_cells.new.self same.0 same.1))
    c.set_cells.ensures.err

pub set_cells-requires-clause-rows : goal.set_cells-requires-clause-rows
set_cells-requires-clause-rows c = subst (λ (t : NumberedTable). AreRowsOf t c.args.rows.now) (table_is c.args.self.now.pool c.args.self.now.objects.slots c.args.self.now.kept c.args.on.0 c.index_mut.result.now c.index_mut.ensures.value) c.requires.rows

pub set_cells-requires-clause-columns : goal.set_cells-requires-clause-columns
set_cells-requires-clause-columns c = subst (λ (t : NumberedTable). AreColumnsOf t c.args.columns.now) (table_is c.args.self.now.pool c.args.self.now.objects.slots c.args.self.now.kept c.args.on.0 c.index_mut.result.now c.index_mut.ensures.value) c.requires.columns

pub set_cells-requires-clause-held : goal.set_cells-requires-clause-held
set_cells-requires-clause-held c = subst (λ (t : NumberedTable). AreHeld t.columns c.args.columns.now c.args.values.now) (table_is c.args.self.now.pool c.args.self.now.objects.slots c.args.self.now.kept c.args.on.0 c.index_mut.result.now c.index_mut.ensures.value) c.requires.held

pub returns-clause-law : goal.returns-clause-law
returns-clause-law c =
    let whole = subst IsWhole (sym (table_is c.args.self.now.pool c.args.self.now.objects.slots c.args.self.now.kept c.args.on.0 c.index_mut.result.now c.index_mut.ensures.value)) (kept_there c.args.self.now.pool c.args.self.now.objects.slots c.args.self.now.kept c.args.on.0 c.index_mut.result.now c.index_mut.ensures.value).whole in
    on_ok_weaker c.set_cells.result
    (λ is. set_in (tables_over c.args.self.now.pool c.args.self.now.objects.slots) _ c.args.on.0 c.args.rows.now c.args.columns.now c.args.values.now whole
    (tables_changed c.args.self.now.pool c.set_cells.new.pool c.args.self.now.objects.slots c.args.on.0 c.index_mut.result.now c.set_cells.new.self c.args.self.now.kept c.index_mut.ensures.value c.set_cells.ensures.trades (λ t. with_values t c.args.rows.now c.args.columns.now c.args.values.now) is)
    c.requires.rows c.requires.columns c.requires.values)
    c.set_cells.ensures.table

pub returns-clause-held : goal.returns-clause-held
returns-clause-held c =
    subst (λ (t : NumberedTable). RaisesBy (charged (cells_named t.columns c.args.columns.now) c.set_cells.result) c.args.self.now.pool c.set_cells.new.pool) (sym (table_is c.args.self.now.pool c.args.self.now.objects.slots c.args.self.now.kept c.args.on.0 c.index_mut.result.now c.index_mut.ensures.value)) c.set_cells.ensures.held

pub returns-clause-sole : goal.returns-clause-sole
returns-clause-sole c =
    on_ok_weaker c.set_cells.result
    (λ then alone.
    let same = then (sole_there c.args.self.now.pool c.args.self.now.objects.slots c.args.on.0 c.index_mut.result.now c.args.columns.now c.index_mut.ensures.value alone) in
    sole_blocks c.args.self.now.pool c.set_cells.new.pool c.args.self.now.objects.slots c.args.on.0 c.index_mut.result.now c.set_cells.new.self c.index_mut.ensures.value same.0 same.1)
    c.set_cells.ensures.sole

pub returns-clause-blocks : goal.returns-clause-blocks
returns-clause-blocks c = lie_changed c.args.self.now.pool c.set_cells.new.pool c.args.self.now.objects.slots c.args.on.0 c.index_mut.result.now c.set_cells.new.self c.args.self.now.kept c.index_mut.ensures.value c.set_cells.ensures.trades c.set_cells.result c.set_cells.ensures.err
