use Rattle.{column_core.proofs.cells.Common.{◌<◌, ◌∙◌, ap, sym, length, slice_index_or, [], arith}, column_core.{specs.Blocks.{CellBlock}, proofs.ColumnLaws.{length-tabulate}}, block_pool.proofs.{PoolLaws.{live_slot, placed_on}, ShowLaws.{column_of}, LyingLaws.{lies}}}
use Rattle.block_pool.proofs.pool.Pool.column.Goals as goal

pub index-view-requires : goal.index-view-requires
index-view-requires c = live_slot _ _ _ _ c.self.view_is c.args.id.0 c.requires.live

pub shown-requires-clause-placed : goal.shown-requires-clause-placed
shown-requires-clause-placed c = placed_on _ _ _ _ _ c.self.invariant c.args.id.0 _ c.index.result.now c.index-view.ensures c.index.ensures

pub shown-requires-clause-column : goal.shown-requires-clause-column
shown-requires-clause-column c =
    let at = lies c.self.inside.lots.slots c.self.inside.views.slots _ _ _ c.self.invariant _ c.self.view_is c.args.id.0 c.index-view.result.now c.index.result.now c.index-view.ensures c.index.ensures in
    omega (arith, c.requires.column, at.columns)

pub returns : goal.returns
returns c =
    let v = c.index-view.result.now in
    let lot = c.index.result.now in
    let at = lies c.self.inside.lots.slots c.self.inside.views.slots _ _ _ c.self.invariant _ c.self.view_is c.args.id.0 v lot c.index-view.ensures c.index.ensures in
    let within : c.args.column < v.columns = omega (arith, c.requires.column, at.columns) in
    record {
      kind = c.shown.ensures.kind ∙ sym at.kind;
      cells = c.shown.ensures.cells ∙ sym (column_of lot.block v c.args.column within) ∙ sym (ap (λ (g : CellBlock). slice_index_or g.columns c.args.column []) at.grid);
      rows = ap length c.shown.ensures.cells ∙ length-tabulate v.count _ ∙ sym at.rows;
    }
