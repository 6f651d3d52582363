-- What is made of columns by groups.
use Rattle.std.specs.Prelude.{◌≡◌, ℕ, ◌<◌, Bool, true, List, map, length, All, Result}
use Rattle.cell_core.specs.declared.cell.Kind.{Kind}
use Rattle.cell_core.specs.declared.cell.Kind.TheVariants.{Int64}
use Rattle.column_core.specs.cells.Text.{Text}
use Rattle.column_core.specs.cells.Cell.{CellValue, na_cell, AreGiven}
use Rattle.column_core.specs.cells.Column.{ColumnValue, ColumnFault, tabulate, gap_cell}
use Rattle.column_core.specs.cells.Cumulate as cumulation
use Rattle.column_core.specs.cells.Cumulate.{cumulation_takes}
use Rattle.column_core.specs.Blocks.{CellBlock}
use Rattle.frame_store.specs.tables.Table.{ColumnOf, NumberedTable, Table, column_at}
use Rattle.frame_labels.specs.method.Groups as meant
use Rattle.factorize.specs.group.Rows.{GroupsValue}
use Rattle.factorize.specs.group.Reductions.{group_takes, group_kind, reduced_cells, reduce_groups, transform_groups, running_cell, cumsum_groups}
use Rattle.frame_store.specs.Parts.{block_column, IsSingle, HaveRows}
use Rattle.group_by.specs.Operations.{reduction_of}
use Rattle.frame_groups.specs.declared.columns.ColumnCall.{ColumnCall}
use Rattle.frame_groups.specs.declared.columns.ColumnCall.TheVariants.{Reduced, Transformed, Cumsum}

-- what a call makes of a column
abbrev pub made_of : ColumnCall → GroupsValue → ColumnValue → Result ColumnValue ColumnFault
made_of (Reduced op) g = reduce_groups (reduction_of op) g
made_of (Transformed op) g = transform_groups (reduction_of op) g
made_of Cumsum g = cumsum_groups g

-- the kinds that a call takes
abbrev pub takes : ColumnCall → Kind → Bool
takes (Reduced op) kind = group_takes (reduction_of op) kind
takes (Transformed op) kind = group_takes (reduction_of op) kind
takes Cumsum kind = cumulation_takes cumulation.sum kind

abbrev pub takes_at : ColumnCall → NumberedTable → ℕ → Bool
takes_at call t place = takes call (column_at t.columns place).kind

-- the column that it makes, where it takes the kind
abbrev pub column_made : ColumnCall → GroupsValue → ColumnOf CellValue → ColumnOf CellValue
column_made (Reduced op) g c = record { kind = group_kind (reduction_of op) c.kind; cells = reduced_cells (reduction_of op) g c.cells }
column_made (Transformed op) g c = record { kind = group_kind (reduction_of op) c.kind; cells = map (gap_cell na_cell (reduced_cells (reduction_of op) g c.cells)) g.codes }
column_made Cumsum g c = record { kind = Int64; cells = tabulate (length g.codes) (running_cell g.codes c.cells) }

abbrev pub made_at : ColumnCall → GroupsValue → Table → ℕ → ColumnOf CellValue
made_at call g t place = column_made call g (column_at t.columns place)

-- how many cells it makes
abbrev pub rows_made : ColumnCall → GroupsValue → ℕ
rows_made (Reduced op) g = g.count
rows_made (Transformed op) g = length g.codes
rows_made Cumsum g = length g.codes

-- columns of the table of kinds that the call takes
abbrev pub AreTaken : ColumnCall → NumberedTable → List ℕ → Type 0
AreTaken call t places = All (λ place. (place < length t.columns) × (takes_at call t place ≡ true)) places

-- blocks of one column each, of so many rows, whose texts were given
pub record AreBlocks (texts : List Text) (rows : ℕ) (blocks : List CellBlock) : Type 0 where
  pub single : All IsSingle blocks
  pub filled : HaveRows rows (map block_column blocks)
  pub given : All (λ c. AreGiven texts c.cells) (map block_column blocks)

-- the call that has a cell for each row; one of the others isn't
abbrev pub row_call_of : ColumnCall → meant.GroupCall
row_call_of (Reduced op) = meant.reduced (reduction_of op)
row_call_of (Transformed op) = meant.transformed (reduction_of op)
row_call_of Cumsum = meant.cumsum

abbrev pub IsByRow : ColumnCall → Type 0
IsByRow (Reduced op) = ⊥
IsByRow (Transformed op) = Unit {0}
IsByRow Cumsum = Unit {0}
