-- The groups that have an answer.
use Rattle.std.specs.Prelude.{ℕ, List, [], ◌∷◌, filter_map, map, slice_index_or, Option, option_map, None}
use Rattle.column_core.specs.cells.Text.{Text}
use Rattle.cell_core.specs.declared.cell.Cell.{Cell}
use Rattle.cell_core.specs.declared.grid.Shape.TheVariants.{Series}
use Rattle.column_core.specs.cells.Cell.{datum}
use Rattle.column_core.specs.cells.Reduce.{is_present}
use Rattle.multi_index.specs.pick.Rows.{rows_where}
use Rattle.frame_store.specs.tables.Table.{NumberedTable, Table, table_value}
use Rattle.frame_labels.specs.method.Reshape as meant
use Rattle.frame_store.specs.Parts.{table_column}
use Rattle.frame_labels.specs.Levels.{row_labels}
use Rattle.frame_select.specs.Selected.{headings_at}
use Rattle.frame_reshape.specs.declared.grouping.GroupCells.{GroupCells}
use Rattle.frame_reshape.specs.declared.told.Pivoted.{Pivoted}
use Rattle.frame_reshape.specs.Pivots.{pivoted_value}

-- the groups whose cell is present
abbrev pub answered : List Cell → List ℕ
answered cells = rows_where (λ c. is_present (datum [] c)) 0 cells

-- the first rows of these groups
abbrev pub rows_of_groups : List ℕ → List (Option ℕ) → List ℕ
rows_of_groups firsts groups = filter_map (option_map (λ group. slice_index_or firsts group 0)) groups

-- their cells as a Series under the labels of these rows
abbrev pub group_series : NumberedTable → Pivoted → List Text → GroupCells → Table
group_series t p texts g =
    table_value texts record {
      shape = Series;
      columns_name = None;
      level_names = headings_at t (meant.label_places (pivoted_value p));
      labels = map (row_labels t (meant.label_places (pivoted_value p))) g.rows;
      headings = slice_index_or t.headings p.values None ∷ [];
      columns = table_column g.cells ∷ [];
    }
