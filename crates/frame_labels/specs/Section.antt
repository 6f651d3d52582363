-- Rows by the number of their label on one level.
use Rattle.std.specs.Prelude.{ℕ, Bool, List, length}
use Rattle.std.specs.List.{range_with_len}
use Rattle.cell_core.specs.declared.cell.Label.{Label}
use Rattle.multi_index.specs.index_core.Labels.{same_number}
use Rattle.factorize.specs.row_keys.Keys.{label_in}
use Rattle.multi_index.specs.Axes.{taken_axis, without_level}
use Rattle.frame_store.specs.tables.Table.{NumberedTable}
use Rattle.frame_store.specs.Parts.{axis_of, headings_of, table_with}
use Rattle.frame_select.specs.Chosen.{columns_at}

-- the tuple has the label on the level
abbrev pub has_number : ℕ → Label → List Label → Bool
has_number level l tuple = same_number l (label_in level tuple)

-- the table of these rows without a level
abbrev pub section_of : NumberedTable → List ℕ → ℕ → NumberedTable
section_of t rows level =
    table_with t.shape (without_level (taken_axis (axis_of t) rows) level) (headings_of t) (columns_at rows (range_with_len 0 (length t.columns)) t)
