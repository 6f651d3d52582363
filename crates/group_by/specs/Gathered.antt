-- What is gathered from cells, one after the other.
use Rattle.std.specs.Prelude.{◌≡◌, ◌<◌, ℕ, ℤ, pos, ◌+ℤ◌, false, List, [], ◌∷◌, ◌++◌, length, slice_index_or, Option, Some, None, fold, if◌then◌else◌}
use Rattle.std.specs.Int.{int_wrap, w64}
use Rattle.cell_core.specs.declared.cell.Cell.{Cell}
use Rattle.cell_core.specs.declared.cell.Cell.TheVariants.{Na}
use Rattle.column_core.specs.cells.Cell.{CellValue, na_cell, int_cell, datum}
use Rattle.column_core.specs.cells.Reduce.{is_present, present}
use Rattle.factorize.specs.group.Rows.{is_in, cells_of_group}
use Rattle.factorize.specs.group.Reductions.{GroupReduction, group_cell}

-- what is read of a cell, where it is present
abbrev pub if_present : {A : Type 0} → CellValue → A → Option A
if_present cell a = if is_present cell then Some a else None

-- a total with an amount more, which wraps, or with nothing more
abbrev pub plus : ℤ → Option ℤ → ℤ
plus total None = total
plus total (Some amount) = int_wrap w64 (total +ℤ amount)

-- the total of the amounts of present cells, which wraps
abbrev pub total_of : (CellValue → ℤ) → List CellValue → ℤ
total_of amount cells = fold (λ total c. int_wrap w64 (total +ℤ amount c)) (pos 0) (present cells)

abbrev pub total_cell : (CellValue → ℤ) → List CellValue → CellValue
total_cell amount cells = int_cell (total_of amount cells)

-- the present cell that is chosen, each time between the one so far and the next
abbrev pub chosen_cell : (CellValue → CellValue → CellValue) → List CellValue → CellValue
chosen_cell choose cells = fold choose na_cell (present cells)

-- a cell was taken into what is gathered of its group, and no other group's changed
pub record TakesIn (op : GroupReduction) (texts : List (List ℕ)) (group : Option ℕ) (cell : Cell) (before after : List Cell) : Type 0 where
  pub size : length after ≡ length before
  pub here : (g : ℕ) → group ≡ Some g → (cells : List CellValue) → datum texts (slice_index_or before g Na) ≡ group_cell op cells → datum texts (slice_index_or after g Na) ≡ group_cell op (cells ++ datum texts cell ∷ [])
  pub others : (g : ℕ) → is_in g group ≡ false → slice_index_or after g Na ≡ slice_index_or before g Na

-- what stands for each group is what is gathered of the group's cells
abbrev pub HaveGathered : GroupReduction → List (List ℕ) → List (Option ℕ) → ℕ → List CellValue → List Cell → Type 0
HaveGathered op texts codes count cells gathered =
    (group : ℕ) → group < count → datum texts (slice_index_or gathered group Na) ≡ group_cell op (cells_of_group group codes cells)
