-- Tables of the tests.
use Rattle.std.specs.Prelude.{[], ◌∷◌, None}
use Rattle.cell_core.specs.declared.cell.Cell.{Cell}
use Rattle.cell_core.specs.declared.grid.Shape.TheVariants.{Series}
use Rattle.multi_index.specs.Axes.{range_axis}
use Rattle.frame_store.specs.tables.Table.{ColumnOf, NumberedTable}
use Rattle.frame_store.specs.Parts.{table_with}

-- the Series without a name of a column of two rows
abbrev pub two_rows : ColumnOf Cell → NumberedTable
two_rows c = table_with Series (range_axis 2) (record { columns_name = None; labels = None ∷ [] }) (c ∷ [])
