use Rattle.{
  meaning_tables.{proofs.cells.Common.{◌<◌, ◌∙◌, length, length-map, ap, subst, arith}, specs.Table.{NumberedTable}},
  frame_store.{specs.{declared.object.Columns.{Columns}, Parts.{HaveRows, block_column}, Views.{read_columns}}, proofs.PartLaws.{first_rows}},
}
use Rattle.frame_store.proofs.object.ObjRef.column.Goals as goal

pub returns-in-Owned-clause-rows : goal.returns-in-Owned-clause-rows
returns-in-Owned-clause-rows c =
    let blocks = c.in-Owned.blocks.now.items in
    let filled = subst (λ (k : Columns). HaveRows (length c.self.inside.axis.now.tuples) (read_columns k)) c.in-Owned.is c.self.invariant.whole.filled in
    let lt : c.args.column < length c.in-Owned.blocks.now.items =
    omega (arith, c.requires, ap (λ (t : NumberedTable). length t.columns) c.self.view_is, ap (λ (k : Columns). length (read_columns k)) c.in-Owned.is, length-map c.in-Owned.blocks.now.items block_column) in
    first_rows blocks c.args.column (length c.self.inside.axis.now.tuples) c.index.result.now c.column.result.cells filled lt c.index.ensures c.column.ensures.cells
    ∙ ap (λ (t : NumberedTable). length t.labels) c.self.view_is
