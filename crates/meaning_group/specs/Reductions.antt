-- What is made of the cells of each group.
use Rattle.std.specs.Prelude.{ℕ, ◌+◌, pos, Bool, true, false, List, map, length, take, fold, slice_index_or, Option, Some, None, Result, Ok, Err, if◌then◌else◌}
use Rattle.std.specs.Int.{int_wrap, w64}
use Rattle.meaning_align.specs.cell_core.declared.cell.Kind.{Kind}
use Rattle.meaning_align.specs.cell_core.declared.cell.Kind.TheVariants.{Int64, Text as string}
use Rattle.meaning_align.specs.cells.Cell.{CellValue, na_cell, int_cell}
use Rattle.meaning_align.specs.cells.Column.{ColumnValue, ColumnFault, kind_mismatch, tabulate, gap_cell}
use Rattle.meaning_align.specs.cells.Cumulate.{cumulation_cell, cumulation_takes, unless_missing}
use Rattle.meaning_align.specs.cells.Cumulate as cumulation
use Rattle.meaning_align.specs.cells.Reduce.{present, reduction_cell, distinct_count}
use Rattle.meaning_align.specs.cells.Reduce as reduction
use Rattle.meaning_group.specs.Rows.{GroupsValue, rows_of_group, cells_of_group}

pub data GroupReduction : Type 0 where
  sum : GroupReduction
  min : GroupReduction
  max : GroupReduction
  count : GroupReduction
  nunique : GroupReduction
  first : GroupReduction
  last : GroupReduction

-- the first of two cells, where there is one, and the last
abbrev pub earlier : CellValue → CellValue → CellValue
earlier na_cell b = b
earlier a b = a

abbrev pub later : CellValue → CellValue → CellValue
later a b = b

-- a number of rows or cells; it wraps as sums do
abbrev pub count_cell : ℕ → CellValue
count_cell n = int_cell (int_wrap w64 (pos n))

-- what a reduction makes of the cells of a group
abbrev pub group_cell : GroupReduction → List CellValue → CellValue
group_cell sum cells = reduction_cell reduction.sum cells
group_cell min cells = reduction_cell reduction.min cells
group_cell max cells = reduction_cell reduction.max cells
group_cell count cells = reduction_cell reduction.count cells
group_cell nunique cells = count_cell (distinct_count cells)
group_cell first cells = fold earlier na_cell (present cells)
group_cell last cells = fold later na_cell (present cells)

-- texts have no sum
abbrev pub group_takes : GroupReduction → Kind → Bool
group_takes sum string = false
group_takes op kind = true

-- sums and counts are numbers; the others are cells of the group
abbrev pub group_kind : GroupReduction → Kind → Kind
group_kind sum kind = Int64
group_kind count kind = Int64
group_kind nunique kind = Int64
group_kind op kind = kind

-- one cell for each group
abbrev pub reduced_cells : GroupReduction → GroupsValue → List CellValue → List CellValue
reduced_cells op groups cells = tabulate groups.count (λ group. group_cell op (cells_of_group group groups.codes cells))

-- a column of these cells, where the reduction takes the kind
abbrev pub column_if_taken : GroupReduction → Kind → List CellValue → Result ColumnValue ColumnFault
column_if_taken op kind cells = if group_takes op kind then Ok record { kind = group_kind op kind; cells = cells } else Err kind_mismatch

-- `df.groupby(..)[..].sum()` and the like
abbrev pub reduce_groups : GroupReduction → GroupsValue → ColumnValue → Result ColumnValue ColumnFault
reduce_groups op groups a = column_if_taken op a.kind (reduced_cells op groups a.cells)

-- `df.groupby(..)[..].transform(..)`: at each row the cell of its group
abbrev pub transform_groups : GroupReduction → GroupsValue → ColumnValue → Result ColumnValue ColumnFault
transform_groups op groups a = column_if_taken op a.kind (map (gap_cell na_cell (reduced_cells op groups a.cells)) groups.codes)

-- what there is of a row's group, and NA where it has none
abbrev pub of_group : Option ℕ → (ℕ → CellValue) → CellValue
of_group None cell = na_cell
of_group (Some group) cell = cell group

-- the cells of a group up to a row
abbrev pub cells_up_to : ℕ → ℕ → List (Option ℕ) → List CellValue → List CellValue
cells_up_to row group codes cells = cells_of_group group (take (row + 1) codes) cells

-- the sum of a row's group up to the row; a missing cell stays
abbrev pub running_cell : List (Option ℕ) → List CellValue → ℕ → CellValue
running_cell codes cells row =
    of_group (slice_index_or codes row None) (λ group. unless_missing (slice_index_or cells row na_cell) (cumulation_cell cumulation.sum (cells_up_to row group codes cells)))

-- `df.groupby(..)[..].cumsum()`
abbrev pub cumsum_groups : GroupsValue → ColumnValue → Result ColumnValue ColumnFault
cumsum_groups groups a =
    if cumulation_takes cumulation.sum a.kind then Ok record { kind = Int64; cells = tabulate (length groups.codes) (running_cell groups.codes a.cells) } else Err kind_mismatch

-- `df.groupby(..).size()`: the rows of each group, counted
abbrev pub group_sizes : GroupsValue → ColumnValue
group_sizes groups = record { kind = Int64; cells = tabulate groups.count (λ group. count_cell (length (rows_of_group group groups.codes))) }

-- `df.groupby(..).cumcount()`: how many rows of its group stand before a row
abbrev pub count_before : List (Option ℕ) → ℕ → CellValue
count_before codes row = of_group (slice_index_or codes row None) (λ group. count_cell (length (rows_of_group group (take row codes))))

abbrev pub group_places : GroupsValue → ColumnValue
group_places groups = record { kind = Int64; cells = tabulate (length groups.codes) (count_before groups.codes) }
