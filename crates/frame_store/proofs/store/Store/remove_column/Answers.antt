use Rattle.{meaning_tables.{proofs.cells.Common.{on_ok_weaker, subst, length, ◌<◌, ◌≡◌, Frame}, specs.{Table.{NumberedTable}, Change.{without_column}}}, std.proofs.lemmas.Result.{on_err_weaker}, frame_store.proofs.{ChangedLaws.{store_changed, tables_changed, tables_unchanged, lie_changed, kept_there, table_is}, KeptLaws.{stays_table}}}
use Rattle.frame_store.proofs.store.Store.remove_column.Goals as goal

pub remove_column-requires-clause-kept : goal.remove_column-requires-clause-kept
remove_column-requires-clause-kept c = kept_there c.args.self.now.pool c.args.self.now.objects.slots c.args.self.now.kept c.args.on.0 c.index_mut.result.now c.index_mut.ensures.value

pub invariant_of-self : goal.invariant_of-self
invariant_of-self c =
    record { kept = store_changed c.args.self.now.pool c.remove_column.new.pool c.args.self.now.objects.slots c.args.on.0 c.index_mut.result.now c.remove_column.new.self c.args.self.now.kept c.index_mut.ensures.value c.remove_column.ensures.trades c.remove_column.ensures.kept }

pub returns-clause-ok : goal.returns-clause-ok
returns-clause-ok c =
    on_ok_weaker c.remove_column.result
    (tables_changed c.args.self.now.pool c.remove_column.new.pool c.args.self.now.objects.slots c.args.on.0 c.index_mut.result.now c.remove_column.new.self c.args.self.now.kept c.index_mut.ensures.value c.remove_column.ensures.trades (λ t. without_column t c.args.column))
    c.remove_column.ensures.table

pub returns-clause-err : goal.returns-clause-err
returns-clause-err c =
    on_err_weaker c.remove_column.result
    (λ same. tables_unchanged c.args.self.now.pool c.remove_column.new.pool c.args.self.now.objects.slots c.args.on.0 c.index_mut.result.now c.remove_column.new.self c.args.self.now.kept c.index_mut.ensures.value c.remove_column.ensures.trades
    (stays_table c.args.self.now.pool c.remove_column.new.pool c.index_mut.result.now c.remove_column.new.self same.0 same.1))
    c.remove_column.ensures.err

pub remove_column-requires-clause-column : goal.remove_column-requires-clause-column
remove_column-requires-clause-column c = subst (λ (t : NumberedTable). c.args.column < length t.columns) (table_is c.args.self.now.pool c.args.self.now.objects.slots c.args.self.now.kept c.args.on.0 c.index_mut.result.now c.index_mut.ensures.value) c.requires.column

pub remove_column-requires-clause-frame : goal.remove_column-requires-clause-frame
remove_column-requires-clause-frame c = subst (λ (t : NumberedTable). t.shape ≡ Frame) (table_is c.args.self.now.pool c.args.self.now.objects.slots c.args.self.now.kept c.args.on.0 c.index_mut.result.now c.index_mut.ensures.value) c.requires.frame

pub returns-clause-blocks : goal.returns-clause-blocks
returns-clause-blocks c = lie_changed c.args.self.now.pool c.remove_column.new.pool c.args.self.now.objects.slots c.args.on.0 c.index_mut.result.now c.remove_column.new.self c.args.self.now.kept c.index_mut.ensures.value c.remove_column.ensures.trades c.remove_column.result c.remove_column.ensures.err
