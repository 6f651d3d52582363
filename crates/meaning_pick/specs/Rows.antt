-- Lists of rows.
use Rattle.std.specs.Prelude.{ℕ, ◌+◌, ◌-◌, Bool, true, false, List, [], ◌∷◌, map, Option, Some, None, if◌then◌else◌}
use Rattle.std.specs.List.{range_with_len}
use Rattle.meaning_cells.specs.cell_core.declared.grid.Rows.{Rows}
use Rattle.meaning_cells.specs.cell_core.Grids.{place_from}

-- the rows that pass a test, in order, where the first one has this number
abbrev pub rows_where : {X : Type 0} → (X → Bool) → ℕ → List X → List ℕ
rows_where p row [] = []
rows_where p row (x ∷ xs) = if p x then row ∷ rows_where p (row + 1) xs else rows_where p (row + 1) xs

-- the rows from one on that stand before another one: none where they stand the other way
abbrev pub rows_between : ℕ → ℕ → List ℕ
rows_between first end = range_with_len first (end - first)

-- the row that a list has, if it has just one
abbrev pub only_row : List ℕ → Option ℕ
only_row [] = None
only_row (row ∷ []) = Some row
only_row (row ∷ (other ∷ rows)) = None

-- the rows start, start + step and so on
abbrev pub rows_of : Rows → List ℕ
rows_of rows = map (place_from rows.start rows.step) (range_with_len 0 rows.count)

-- there is a row
abbrev pub are_some : List ℕ → Bool
are_some [] = false
are_some (row ∷ rows) = true
