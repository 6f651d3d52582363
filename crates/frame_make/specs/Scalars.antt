-- The scalars of a list that may be given, and the Series of a column.
use Rattle.std.specs.Prelude.{List, [], ◌∷◌, Option, None}
use Rattle.std.specs.Borrow.{Bor}
use Rattle.std.specs.Option.{option_map}
use Rattle.cell_core.specs.declared.cell.Label.{Label}
use Rattle.cell_core.specs.declared.grid.Shape.TheVariants.{Series}
use Rattle.column_core.specs.cells.Text.{Text}
use Rattle.column_core.specs.cells.Cell.{CellValue}
use Rattle.column_core.specs.Columns.{CellColumn}
use Rattle.multi_index.specs.Axes.{AxisValue}
use Rattle.frame_store.specs.tables.Table.{NumberedTable}
use Rattle.frame_store.specs.Parts.{table_column, table_with}
use Rattle.frame_store.specs.declared.arguments.Item.{Item}
use Rattle.frame_signatures.specs.Scalars.{scalars}

-- the scalars of a list that is lent, if one is
abbrev pub scalars_given : List Text → Option (Bor (List Item)) → Option (List CellValue)
scalars_given texts items = option_map (λ (l : Bor (List Item)). scalars texts l.now) items

-- the Series of a column, under an axis and a name if it has one
abbrev pub made_series : AxisValue → Option Label → CellColumn → NumberedTable
made_series axis name column = table_with Series axis record { columns_name = None; labels = name ∷ [] } (table_column column ∷ [])
