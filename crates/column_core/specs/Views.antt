-- The cells that a borrowed column and a column of its own stand for.
use Rattle.std.specs.Prelude.{length}
use Rattle.cell_core.specs.declared.cell.Kind.TheVariants.{Int64, Boolean, Text as string}
use Rattle.column_core.specs.declared.columns.Borrowed.{Borrowed}
use Rattle.column_core.specs.declared.columns.Borrowed.TheVariants as borrowed
use Rattle.column_core.specs.declared.columns.Kept.{Kept}
use Rattle.column_core.specs.declared.columns.Kept.TheVariants as kept
use Rattle.column_core.specs.Lanes.{lane_row, option_at}
use Rattle.column_core.specs.Columns.{CellColumn, number_cell, truth_cell, text_cell, column_with}

abbrev pub borrowed_column : Borrowed → CellColumn
borrowed_column (borrowed.Ints a) = column_with Int64 number_cell a.count (lane_row a.values.now a.present.now a.start a.stride a.back)
borrowed_column (borrowed.Truths a) = column_with Boolean truth_cell a.count (lane_row a.values.now a.present.now a.start a.stride a.back)
borrowed_column (borrowed.Texts a) = column_with string text_cell a.count (lane_row a.values.now a.present.now a.start a.stride a.back)

-- all rows from the first on
abbrev pub kept_column : Kept → CellColumn
kept_column (kept.Ints a) = column_with Int64 number_cell (length a.values.items) (option_at a.values.items a.present.items)
kept_column (kept.Truths a) = column_with Boolean truth_cell (length a.values.items) (option_at a.values.items a.present.items)
kept_column (kept.Texts a) = column_with string text_cell (length a.values.items) (option_at a.values.items a.present.items)
