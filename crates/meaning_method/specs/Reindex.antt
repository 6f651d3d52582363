-- `reindex`: the rows, or the columns, of the labels in a list.
use Rattle.std.specs.Prelude.{ℕ, List, map, length, replicate, Option, Some, None, Result, Err}
use Rattle.meaning_call.specs.cell_core.declared.cell.Kind.TheVariants.{Int64}
use Rattle.meaning_call.specs.cells.Cell.{na_cell, LabelValue}
use Rattle.meaning_call.specs.cells.Fault.{FaultValue, wrong_kind, then_value}
use Rattle.meaning_group.specs.align.Faults.{met_rows}
use Rattle.meaning_group.specs.align.Targets.{reindexed}
use Rattle.meaning_select.specs.tables.Table.{ColumnOf, TableOf, Table, column_at}
use Rattle.meaning_select.specs.tables.Value.{Entry, GivenList}
use Rattle.meaning_call.specs.form.Finish.{limited, column_labels}
use Rattle.meaning_call.specs.form.Infix.{same_tuple, on_rows}
use Rattle.meaning_select.specs.Keys.{whole_items}
use Rattle.meaning_select.specs.Select.{row_name}

-- these labels, each with the cells of its row, or with missing ones; the names of the levels stay
abbrev pub rows_at : {L C : Type 0} → C → TableOf L C → List (List L) → List (Option ℕ) → TableOf L C
rows_at na t labels rows = record t { labels = labels; columns = on_rows na rows t.columns }

abbrev pub rows_reindexed : Table → List (List LabelValue) → Result Entry FaultValue
rows_reindexed t labels = then_value (met_rows (reindexed same_tuple t.labels labels)) (λ rows. limited (rows_at na_cell t labels rows))

-- the column at a place, or whole numbers of which all are missing
abbrev pub column_or_missing : {L C : Type 0} → C → TableOf L C → Option ℕ → ColumnOf C
column_or_missing na t None = record { kind = Int64; cells = replicate (length t.labels) na }
column_or_missing na t (Some place) = column_at t.columns place

-- these headings, each with its column, or with a missing one; the name that the columns have together stays
abbrev pub columns_at : {L C : Type 0} → C → TableOf L C → List (Option L) → List (Option ℕ) → TableOf L C
columns_at na t headings places = record t { headings = headings; columns = map (column_or_missing na t) places }

abbrev pub columns_reindexed : Table → List (List LabelValue) → Result Entry FaultValue
columns_reindexed t labels =
    then_value (met_rows (reindexed same_tuple (column_labels t) labels)) (λ places. limited (columns_at na_cell t (map row_name labels) places))

-- the items of a list are scalars on one level, as the columns have, and on several tuples with a label for each
abbrev pub reindex_rows : Table → GivenList → Result Entry FaultValue
reindex_rows t items = then_value (whole_items (length t.level_names) items) (rows_reindexed t)

abbrev pub reindex_columns : Table → GivenList → Result Entry FaultValue
reindex_columns t items = then_value (whole_items 1 items) (columns_reindexed t)

-- labels of rows or of columns: just one of the lists is given
abbrev pub reindex_result : Table → Option GivenList → Option GivenList → Result Entry FaultValue
reindex_result t (Some items) None = reindex_rows t items
reindex_result t None (Some items) = reindex_columns t items
reindex_result t rows columns = Err wrong_kind
