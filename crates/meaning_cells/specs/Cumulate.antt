-- Cumulations: at each row the reduction of the cells up to it.
use Rattle.std.specs.Prelude.{Bool, true, false, List, [], ◌∷◌, ◌++◌, Result, Ok, Err, if◌then◌else◌}
use Rattle.cell_core.specs.declared.cell.Kind.{Kind}
use Rattle.cell_core.specs.declared.cell.Kind.TheVariants.{Int64, Boolean}
use Rattle.meaning_cells.specs.Cell.{CellValue, na_cell}
use Rattle.meaning_cells.specs.Column.{ColumnValue, ColumnFault, kind_mismatch}
use Rattle.meaning_cells.specs.Reduce.{reduction_cell}
use Rattle.meaning_cells.specs.Reduce as reduction

pub data Cumulation : Type 0 where
  sum : Cumulation
  min : Cumulation
  max : Cumulation

abbrev pub cumulation_cell : Cumulation → List CellValue → CellValue
cumulation_cell sum = reduction_cell reduction.sum
cumulation_cell min = reduction_cell reduction.min
cumulation_cell max = reduction_cell reduction.max

-- a missing cell stays
abbrev pub unless_missing : CellValue → CellValue → CellValue
unless_missing na_cell answer = na_cell
unless_missing c answer = answer

-- at each cell what f makes of the cells up to it, after those before
abbrev pub running : (List CellValue → CellValue) → List CellValue → List CellValue → List CellValue
running f before [] = []
running f before (c ∷ cs) = unless_missing c (f (before ++ c ∷ [])) ∷ running f (before ++ c ∷ []) cs

-- sums are of numbers or truth values, least and greatest of numbers
abbrev pub cumulation_takes : Cumulation → Kind → Bool
cumulation_takes op Int64 = true
cumulation_takes sum Boolean = true
cumulation_takes op kind = false

abbrev pub cumulate_column : Cumulation → ColumnValue → Result ColumnValue ColumnFault
cumulate_column op a = if cumulation_takes op a.kind then Ok record { kind = Int64; cells = running (cumulation_cell op) [] a.cells } else Err kind_mismatch
