-- What `melt` makes of columns.
use Rattle.std.specs.Prelude.{ℕ, pos, List, map, length, replicate, slice_index_or, unwrap_or, None}
use Rattle.std.specs.List.{flat_map}
use Rattle.column_core.specs.cells.Text.{Text}
use Rattle.cell_core.specs.declared.cell.Cell.{Cell}
use Rattle.cell_core.specs.declared.cell.Label.TheVariants.{Int}
use Rattle.frame_store.specs.tables.Table.{ColumnOf, NumberedTable, column_at}
use Rattle.frame_labels.specs.method.Reshape as meant
use Rattle.frame_store.specs.Parts.{AreColumnsOf}
use Rattle.frame_labels.specs.LevelColumns.{cell_of}
use Rattle.frame_reshape.specs.declared.melting.Melted.{Melted}

-- the label of a column as a cell; 0 would stand for a label that is missing, which no frame has
abbrev pub heading_cell : NumberedTable → ℕ → Cell
heading_cell t place = cell_of (unwrap_or (slice_index_or t.headings place None) (Int (pos 0)))

abbrev pub heading_cells : NumberedTable → List ℕ → List Cell
heading_cells t places = map (heading_cell t) places

abbrev pub melted_value : Melted → meant.Melted
melted_value m = record { kept = m.kept; values = m.values }

-- the same whatever the texts are
abbrev pub melted_seen : List Text → Melted → meant.Melted
melted_seen texts m = melted_value m

-- columns of the table
pub record IsMelted (t : NumberedTable) (m : Melted) : Type 0 where
  pub kept : AreColumnsOf t m.kept
  pub values : AreColumnsOf t m.values

-- each label once for each row
abbrev pub label_cells : NumberedTable → List ℕ → List Cell
label_cells t values = flat_map (replicate (length t.labels)) (heading_cells t values)

-- a column that stays, so many times
abbrev pub kept_column : NumberedTable → ℕ → ℕ → ColumnOf Cell
kept_column t count place = record { kind = (column_at t.columns place).kind; cells = flat_map (λ value. (column_at t.columns place).cells) (replicate count place) }
