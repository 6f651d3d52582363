use Rattle.{meaning_tables.{proofs.cells.Common.{◌∙◌, ℕ, ap, sym, subst, arith, [], length, map}, specs.Table.{cell_count}}, std.{proofs.lemmas.Result.{err_from_is_err_and}, specs.{FinMap.{FinMap}, Ordering.{nat_cmp}}}, block_pool.specs.Pools.{total_of}, block_manager.proofs.AddingLaws.{stays_traded, stays_kept}, frame_store.{specs.{Parts.{block_column}, Stores.{ObjectValue, Trades}}, proofs.KeptLaws.{as_the_first, cells_of_table}}}
use Rattle.frame_store.proofs.table.Table.into_object.Goals as goal

pub of_blocks-requires-clause-rows : goal.of_blocks-requires-clause-rows
of_blocks-requires-clause-rows c = as_the_first (map block_column c.self.inside.blocks.items) (length c.self.inside.axis.tuples) c.self.invariant.whole.filled

pub returns-in_err-manager-clause-trades : goal.returns-in_err-manager-clause-trades
returns-in_err-manager-clause-trades c =
    let p = err_from_is_err_and c.from_residual.result c.from_residual.ensures.1 in
    rw p.1 (record {
      views = stays_traded c.args.pool.now c.of_blocks.new.pool [] c.in_err-manager.ensures.err;
      kept = stays_kept c.args.pool.now c.of_blocks.new.pool [] c.in_err-manager.ensures.err;
    })

pub returns-in_err-manager-clause-held : goal.returns-in_err-manager-clause-held
returns-in_err-manager-clause-held c = omega (arith, ap (λ (b : FinMap nat_cmp ℕ). total_of (record c.args.pool.now { blocks = b })) c.in_err-manager.ensures.err.blocks)

pub returns-clause-trades : goal.returns-clause-trades
returns-clause-trades c =
    let trades : Trades c.args.pool.now c.of_blocks.new.pool [] c.in_ok-manager.manager.views = record { views = c.in_ok-manager.ensures.views; kept = c.in_ok-manager.ensures.kept } in
    subst (λ (o : ObjectValue). Trades c.args.pool.now c.of_blocks.new.pool [] o.manager.views) (sym c.new.ensures) trades

pub returns-clause-held : goal.returns-clause-held
returns-clause-held c =
    omega (
      arith,
      c.in_ok-manager.ensures.held,
      cells_of_table c.self.inside.shape c.self.inside.axis (record { columns_name = c.self.inside.columns_name; labels = c.self.inside.headings.items }) _ c.self.invariant.single c.self.invariant.whole ∙ ap cell_count c.self.view_is,
    )
