-- The parts of a table that isn't an object yet, and those of one that is read.
use Rattle.std.specs.Prelude.{List, map, All}
use Rattle.cell_core.specs.declared.cell.Cell.{Cell}
use Rattle.meaning_tables.specs.Table.{ColumnOf, NumberedTable}
use Rattle.meaning_tables.specs.Valid.{IsWhole}
use Rattle.block_manager.specs.Managed.{StandsOn, columns_on}
use Rattle.frame_store.specs.Parts.{block_column, IsSingle}
use Rattle.frame_store.specs.declared.object.Columns.{Columns}
use Rattle.frame_store.specs.declared.object.Columns.TheVariants.{Owned, Placed}
use Rattle.frame_store.specs.declared.object.ObjRef.TheInside.{Inside as Read}
use Rattle.frame_store.specs.declared.table.Table.TheInside.{Inside}

abbrev pub kept_table : Inside → NumberedTable
kept_table t =
    record {
      shape = t.shape;
      columns_name = t.columns_name;
      level_names = t.axis.names;
      labels = t.axis.tuples;
      headings = t.headings.items;
      columns = map block_column t.blocks.items;
    }

-- each block has one column, and the parts fit one another
pub record IsKept (t : Inside) : Type 0 where
  pub single : All IsSingle t.blocks.items
  pub whole : IsWhole (kept_table t)

-- the columns that are read: those of blocks, or of a manager on its pool
abbrev pub read_columns : Columns → List (ColumnOf Cell)
read_columns (Owned blocks) = map block_column blocks.now.items
read_columns (Placed pool manager) = columns_on pool.now manager.now

abbrev pub AreReadable : Columns → Type 0
AreReadable (Owned blocks) = All IsSingle blocks.now.items
AreReadable (Placed pool manager) = StandsOn pool.now manager.now

abbrev pub read_table : Read → NumberedTable
read_table r =
    record {
      shape = r.shape;
      columns_name = r.columns_name;
      level_names = r.axis.now.names;
      labels = r.axis.now.tuples;
      headings = r.headings.now.items;
      columns = read_columns r.columns;
    }

-- each column can be read, and the parts fit one another
pub record IsRead (r : Read) : Type 0 where
  pub readable : AreReadable r.columns
  pub whole : IsWhole (read_table r)
