use Rattle.{meaning_tables.{proofs.cells.Common.{on_ok_weaker, subst, length, ◌≤◌}, specs.{Table.{NumberedTable}, Change.{with_column}}}, std.proofs.lemmas.Result.{on_err_weaker}, frame_store.{specs.Parts.{block_column, FitsRows, TakesHeading}, proofs.{ChangedLaws.{store_changed, tables_changed, tables_unchanged, lie_changed, kept_there, table_is}, KeptLaws.{stays_table}}}}
use Rattle.frame_store.proofs.store.Store.put_column.Goals as goal

pub put_column-requires-clause-kept : goal.put_column-requires-clause-kept
put_column-requires-clause-kept c = kept_there c.args.self.now.pool c.args.self.now.objects.slots c.args.self.now.kept c.args.on.0 c.index_mut.result.now c.index_mut.ensures.value

pub invariant_of-self : goal.invariant_of-self
invariant_of-self c =
    record { kept = store_changed c.args.self.now.pool c.put_column.new.pool c.args.self.now.objects.slots c.args.on.0 c.index_mut.result.now c.put_column.new.self c.args.self.now.kept c.index_mut.ensures.value c.put_column.ensures.trades c.put_column.ensures.kept }

pub returns-clause-ok : goal.returns-clause-ok
returns-clause-ok c =
    on_ok_weaker c.put_column.result
    (tables_changed c.args.self.now.pool c.put_column.new.pool c.args.self.now.objects.slots c.args.on.0 c.index_mut.result.now c.put_column.new.self c.args.self.now.kept c.index_mut.ensures.value c.put_column.ensures.trades (λ t. with_column t c.args.column c.args.heading (block_column c.args.block)))
    c.put_column.ensures.table

pub returns-clause-err : goal.returns-clause-err
returns-clause-err c =
    on_err_weaker c.put_column.result
    (λ same. tables_unchanged c.args.self.now.pool c.put_column.new.pool c.args.self.now.objects.slots c.args.on.0 c.index_mut.result.now c.put_column.new.self c.args.self.now.kept c.index_mut.ensures.value c.put_column.ensures.trades
    (stays_table c.args.self.now.pool c.put_column.new.pool c.index_mut.result.now c.put_column.new.self same.0 same.1))
    c.put_column.ensures.err

pub put_column-requires-clause-column : goal.put_column-requires-clause-column
put_column-requires-clause-column c = subst (λ (t : NumberedTable). c.args.column ≤ length t.columns) (table_is c.args.self.now.pool c.args.self.now.objects.slots c.args.self.now.kept c.args.on.0 c.index_mut.result.now c.index_mut.ensures.value) c.requires.column

pub put_column-requires-clause-rows : goal.put_column-requires-clause-rows
put_column-requires-clause-rows c = subst (λ (t : NumberedTable). FitsRows t c.args.block) (table_is c.args.self.now.pool c.args.self.now.objects.slots c.args.self.now.kept c.args.on.0 c.index_mut.result.now c.index_mut.ensures.value) c.requires.rows

pub put_column-requires-clause-headings : goal.put_column-requires-clause-headings
put_column-requires-clause-headings c = subst (λ (t : NumberedTable). TakesHeading t c.args.column c.args.heading) (table_is c.args.self.now.pool c.args.self.now.objects.slots c.args.self.now.kept c.args.on.0 c.index_mut.result.now c.index_mut.ensures.value) c.requires.headings

pub returns-clause-blocks : goal.returns-clause-blocks
returns-clause-blocks c = lie_changed c.args.self.now.pool c.put_column.new.pool c.args.self.now.objects.slots c.args.on.0 c.index_mut.result.now c.put_column.new.self c.args.self.now.kept c.index_mut.ensures.value c.put_column.ensures.trades c.put_column.result c.put_column.ensures.err
