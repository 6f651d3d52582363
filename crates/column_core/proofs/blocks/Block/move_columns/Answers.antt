use Rattle.{
  meaning_cells.proofs.Common.{◌∙◌, ◌++◌, ap, sym, take, List, arith},
  column_core.{specs.{Columns.{CellColumn}, Blocks.{columns_of, kind_of}}, proofs.BlockLaws.{columns_seen, column_count}},
}
use Rattle.column_core.proofs.blocks.Block.move_columns.Goals as goal

pub move_parts-requires-clause-count : goal.move_parts-requires-clause-count
move_parts-requires-clause-count c =
    let parts = c.self.inside.parts in
    omega (arith, c.requires.count, column_count (kind_of parts) c.self.inside.rows (columns_of parts) c.args.self c.self.invariant c.self.view_is)

pub returns-clause-items : goal.returns-clause-items
returns-clause-items c =
    let parts = c.self.inside.parts in
    c.move_parts.ensures.items
    ∙ ap (λ (cs : List CellColumn). c.args.list.now.items ++ take c.args.count cs) (sym (columns_seen (kind_of parts) c.self.inside.rows (columns_of parts) c.args.self c.self.invariant c.self.view_is))
