use Rattle.{meaning_cells.proofs.Common.{◌≡◌, sym, subst, arith, true, holds, datum}, cell_core.specs.declared.cell.Kind.{Kind}, column_core.{specs.{Blocks.{columns_of, kind_of}}, proofs.BlockLaws.{column_count, column_rows, column_kind, put_seen, put_still}}}
use Rattle.column_core.proofs.blocks.Block.put.Goals as goal

pub put_part-requires : goal.put_part-requires
put_part-requires c =
    let parts = c.self.inside.parts in
    let b = c.args.self.now in
    record {
      column = omega (arith, c.requires.column, column_count (kind_of parts) c.self.inside.rows (columns_of parts) b c.self.invariant c.self.view_is);
      row = omega (arith, c.requires.row, column_rows (kind_of parts) c.self.inside.rows (columns_of parts) b c.self.invariant c.self.view_is c.args.column c.requires.column);
      held = λ texts. subst (λ (k : Kind). holds k (datum texts c.args.cell) ≡ true) (sym (column_kind (kind_of parts) c.self.inside.rows (columns_of parts) b c.self.invariant c.self.view_is c.args.column c.requires.column)) (c.requires.held texts);
    }

pub invariant_of-self : goal.invariant_of-self
invariant_of-self c =
    let parts = c.self.inside.parts in
    put_still (kind_of parts) c.self.inside.rows (columns_of parts) c.args.self.now c.self.invariant c.self.view_is c.args.column c.requires.column _ _ c.args.row c.args.cell c.put_part.ensures.kind c.put_part.ensures.columns

pub returns : goal.returns
returns c =
    let parts = c.self.inside.parts in
    put_seen (kind_of parts) c.self.inside.rows (columns_of parts) c.args.self.now c.self.invariant c.self.view_is c.args.column c.requires.column _ _ c.args.row c.args.cell c.put_part.ensures.kind c.put_part.ensures.columns
