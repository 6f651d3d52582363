-- The rows of groups, where each row has the number of its group or none.
use Rattle.std.specs.Prelude.{ℕ, ◌==◌, Bool, false, List, map, slice_index_or, Option, Some, None}
use Rattle.meaning_align.specs.cells.Cell.{CellValue, na_cell}
use Rattle.meaning_align.specs.pick.Rows.{rows_where}

-- how many groups there are, and the group of each row
pub record GroupsValue : Type 0 where
  pub count : ℕ
  pub codes : List (Option ℕ)

abbrev pub is_in : ℕ → Option ℕ → Bool
is_in group None = false
is_in group (Some code) = group == code

-- the rows of a group, in order
abbrev pub rows_of_group : ℕ → List (Option ℕ) → List ℕ
rows_of_group group codes = rows_where (is_in group) 0 codes

-- the cells of these rows
abbrev pub cells_at : List CellValue → List ℕ → List CellValue
cells_at cells rows = map (λ row. slice_index_or cells row na_cell) rows

-- the cells of a group, in the order of its rows
abbrev pub cells_of_group : ℕ → List (Option ℕ) → List CellValue → List CellValue
cells_of_group group codes cells = cells_at cells (rows_of_group group codes)
