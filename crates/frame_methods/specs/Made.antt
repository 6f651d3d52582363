-- What a form makes, with texts.
use Rattle.std.specs.Prelude.{List}
use Rattle.column_core.specs.cells.Text.{Text}
use Rattle.column_core.specs.cells.Cell.{datum}
use Rattle.frame_store.specs.tables.Table.{table_value}
use Rattle.frame_store.specs.tables.Value as value
use Rattle.frame_store.specs.tables.Value.{Entry}
use Rattle.frame_methods.specs.declared.made.Made.{Made}
use Rattle.frame_methods.specs.declared.made.Made.TheVariants.{Scalar, Table}

abbrev pub made_value : List Text → Made → Entry
made_value texts (Scalar c) = value.cell (datum texts c)
made_value texts (Table t) = value.table (table_value texts t)
