-- A table as it is told by row and column.
use Rattle.std.specs.Prelude.{[], length, slice_index_or, None}
use Rattle.cell_core.specs.declared.cell.Cell.TheVariants.{Na}
use Rattle.cell_core.specs.declared.cell.Label.TheVariants as label
use Rattle.cell_core.specs.Grids.{GridValue}
use Rattle.meaning_tables.specs.Table.{NumberedTable, column_at}

abbrev pub grid_of : NumberedTable → GridValue
grid_of t =
    record {
      shape = t.shape;
      rows = length t.labels;
      columns = length t.columns;
      levels = length t.level_names;
      columns_name = t.columns_name;
      kind = λ column. (column_at t.columns column).kind;
      heading = λ column. slice_index_or t.headings column None;
      level_name = λ level. slice_index_or t.level_names level None;
      label = λ row level. slice_index_or (slice_index_or t.labels row []) level label.Na;
      cell = λ row column. slice_index_or (column_at t.columns column).cells row Na;
    }
