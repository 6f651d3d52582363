-- The rows of one side that have the tuple of a row of another.
use Rattle.std.specs.Prelude.{ℕ, ◌<◌, List, [], length, map, slice_index_or, All}
use Rattle.cell_core.specs.declared.cell.Label.{Label}
use Rattle.multi_index.specs.pick.Rows.{rows_where}
use Rattle.row_keys.specs.Keys.{same_tuple}

-- the rows with a tuple
abbrev pub rows_with : List (List Label) → List Label → List ℕ
rows_with tuples key = rows_where (same_tuple key) 0 tuples

-- the rows of each code
abbrev pub rows_coded : List ℕ → List (List ℕ) → List (List ℕ)
rows_coded codes rows = map (λ code. slice_index_or rows code []) codes

-- each code has rows, or an empty list of them
abbrev pub AreCodesBelow : List ℕ → List (List ℕ) → Type 0
AreCodesBelow codes rows = All (λ code. code < length rows) codes
