-- Cells of groups that are told apart by the numbers of their texts.
use Rattle.std.specs.Prelude.{◌≡◌, ◌<◌, ℕ, slice_index_or, ◌==◌, Bool, true, false, ◌&&◌, List, Option, Some, None, if◌then◌else◌}
use Rattle.std.specs.List.{list_any}
use Rattle.indexmap.specs.IndexSet.{insert_key}
use Rattle.cell_core.specs.declared.cell.Cell.{Cell}
use Rattle.cell_core.specs.declared.cell.Cell.TheVariants.{Na}
use Rattle.column_core.specs.cells.Cell.{CellValue}
use Rattle.column_core.specs.cells.Reduce.{distinct_count}
use Rattle.factorize.specs.group.Rows.{cells_of_group}
use Rattle.cell_core.specs.contracts.cell.CellPartialEq.TheImpl.{eq-value}

abbrev pub is_missing : Cell → Bool
is_missing Na = true
is_missing cell = false

abbrev pub same_by_number : Cell → Cell → Bool
same_by_number a b = eq-value.it a b

-- the same cell of the same group
abbrev pub same_member : ℕ × Cell → ℕ × Cell → Bool
same_member p q = (p.0 == q.0) && same_by_number p.1 q.1

-- what was seen with a cell of a group, if it has a group and is present
abbrev pub noted : List (ℕ × Cell) → Option ℕ → Cell → List (ℕ × Cell)
noted seen None cell = seen
noted seen (Some group) cell = if is_missing cell then seen else insert_key same_member seen (group, cell)

-- the group in which the cell is a new one
abbrev pub new_in : List (ℕ × Cell) → Option ℕ → Cell → Option ℕ
new_in seen None cell = None
new_in seen (Some group) cell = if is_missing cell then None else if list_any (same_member (group, cell)) seen then None else Some group

-- how many different cells each group has
abbrev pub HaveDistinct : List (Option ℕ) → ℕ → List CellValue → List ℕ → Type 0
HaveDistinct codes count cells counts = (group : ℕ) → group < count → slice_index_or counts group 0 ≡ distinct_count (cells_of_group group codes cells)
