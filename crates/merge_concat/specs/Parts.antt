-- Parts of a column.
use Rattle.std.specs.Prelude.{ℕ, List, [], ◌∷◌, length, replicate, Option, Some, None, if◌then◌else◌}
use Rattle.std.specs.List.{list_all, flat_map, sum_by}
use Rattle.cell_core.specs.declared.cell.Kind.{Kind}
use Rattle.cell_core.specs.declared.cell.Kind.TheVariants.{Int64}
use Rattle.cell_core.specs.declared.cell.Cell.{Cell}
use Rattle.cell_core.specs.declared.cell.Cell.TheVariants as cell
use Rattle.column_core.specs.Columns.{CellColumn}
use Rattle.meaning_join.specs.Concat.{same_kind}
use Rattle.merge_concat.specs.declared.parts.Part.{Part}
use Rattle.merge_concat.specs.declared.parts.Part.TheVariants.{Cells, Missing}

-- the kind of a part: of missing cells the one that is told
abbrev pub part_kind : Kind → Part → Kind
part_kind missing (Cells column) = column.kind
part_kind missing (Missing count) = missing

abbrev pub part_cells : Part → List Cell
part_cells (Cells column) = column.cells
part_cells (Missing count) = replicate count cell.Na

-- the kind that all columns have, if they have one; of no column it is that of whole numbers
abbrev pub common_kind : List CellColumn → Option Kind
common_kind [] = Some Int64
common_kind (column ∷ columns) = if list_all (λ other. same_kind column.kind other.kind) columns then Some column.kind else None

abbrev pub cells_below : List Part → List Cell
cells_below parts = flat_map part_cells parts

-- how many cells there are in all
abbrev pub count_below : List Part → ℕ
count_below parts = sum_by (λ part. length (part_cells part)) parts

-- all cells of a column
abbrev pub whole_of : CellColumn → Part
whole_of column = Cells column
