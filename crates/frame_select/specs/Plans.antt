-- What a selection takes from a table, as it is meant.
use Rattle.std.specs.Prelude.{◌≡◌, ℕ, ◌<◌, List, length, Bool, true, false, not, ◌&&◌, Result, Ok, Err, All, if◌then◌else◌}
use Rattle.std.specs.List.{range_with_len}
use Rattle.cell_core.specs.Grids.{AreRowsBelow}
use Rattle.cell_core.specs.declared.grid.Shape.{Shape}
use Rattle.cell_core.specs.declared.grid.Shape.TheVariants.{Frame}
use Rattle.column_core.specs.cells.Text.{Text}
use Rattle.column_core.specs.cells.Fault.{FaultValue, then_value}
use Rattle.frame_store.specs.tables.Cost.{answer_charge}
use Rattle.frame_store.specs.tables.Table.{NumberedTable, Table, cell_count, table_value}
use Rattle.frame_store.specs.tables.Valid.{AreHeadings}
use Rattle.frame_store.specs.tables.Value.{Entry}
use Rattle.indexers.specs.pick.Keys.{Pick}
use Rattle.indexers.specs.pick.Rows.{rows_of}
use Rattle.meaning_charge.specs.select.Keys.{Reach}
use Rattle.meaning_charge.specs.select.Select.{cut, without_leading, picked_result}
use Rattle.frame_store.specs.Parts.{HeadingList}
use Rattle.frame_store.specs.Shown.{Refuses}
use Rattle.frame_store.specs.declared.fault.OpFault.{OpFault}
use Rattle.frame_store.specs.declared.fault.OpFault.TheVariants.{Refused, NoMemory}
use Rattle.indexers.specs.declared.keys.Picked.{Picked}
use Rattle.frame_select.specs.Chosen.{chosen, chosen_under}
use Rattle.frame_select.specs.declared.planning.Taken.{Taken}
use Rattle.frame_select.specs.declared.planning.Taken.TheVariants.{Slice, Listed, Under}
use Rattle.frame_select.specs.declared.planning.Extent.{Extent}
use Rattle.frame_select.specs.declared.planning.Extent.TheVariants as extent
use Rattle.frame_select.specs.declared.planning.Plan.{Plan}

-- the rows that are taken, and of how many leading levels the answer loses
abbrev pub rows_in : Taken → List ℕ
rows_in (Slice rows) = rows_of rows
rows_in (Listed places) = places
rows_in (Under places count) = places

abbrev pub levels_lost : Taken → ℕ
levels_lost (Slice rows) = 0
levels_lost (Listed places) = 0
levels_lost (Under places count) = count

-- rows at equal distances share their cells with the table
abbrev pub share_cells : Taken → Bool
share_cells (Slice rows) = true
share_cells (Listed places) = false
share_cells (Under places count) = false

-- they are rows of the table, of whose levels one is left
abbrev pub AreTakenFrom : NumberedTable → Taken → Type 0
AreTakenFrom t (Slice rows) = AreRowsBelow rows (length t.labels)
AreTakenFrom t (Listed places) = All (λ row. row < length t.labels) places
AreTakenFrom t (Under places count) = All (λ row. row < length t.labels) places × (count < length t.level_names)

-- the rows and the levels that were picked
pub record TakesPicked (t : NumberedTable) (picked : Picked) (taken : Taken) : Type 0 where
  pub rows : rows_in taken ≡ picked.places
  pub lost : levels_lost taken ≡ picked.dropped
  pub within : AreTakenFrom t taken

-- all rows of the table
pub record TakesAll (t : NumberedTable) (taken : Taken) : Type 0 where
  pub rows : rows_in taken ≡ range_with_len 0 (length t.labels)
  pub shared : share_cells taken ≡ true
  pub lost : levels_lost taken ≡ 0
  pub within : AreTakenFrom t taken

-- the table of these rows and columns under these headings
abbrev pub taken_table : Shape → HeadingList → Taken → List ℕ → NumberedTable → NumberedTable
taken_table shape headings (Slice rows) columns t = chosen shape headings (rows_of rows) columns t
taken_table shape headings (Listed places) columns t = chosen shape headings places columns t
taken_table shape headings (Under places count) columns t = chosen_under count shape headings places columns t

-- how many cells that makes, and what an answer costs whose cells are shared or not
abbrev pub cells_made : Taken → NumberedTable → ℕ
cells_made taken made = if share_cells taken then 0 else cell_count made

abbrev pub unless_shared : Bool → Entry → ℕ
unless_shared shared answer = if shared then 0 else answer_charge answer

-- whether the rows and whether the columns are single
abbrev pub has_single_row : Extent → Bool
has_single_row extent.Cell = true
has_single_row extent.Row = true
has_single_row f = false

abbrev pub has_single_column : Extent → Bool
has_single_column extent.Cell = true
has_single_column extent.Column = true
has_single_column f = false

abbrev pub pick_as : Bool → ℕ → List ℕ → Pick
pick_as single lost places = record { rows = places; single = single; dropped = lost; sliced = false }

-- what it takes shares its cells, but for a single row, which goes across the columns
abbrev pub is_shared : Plan → Bool
is_shared plan = not (has_single_row plan.extent) && share_cells plan.rows

-- the rows that are reached are those of `:` or of a slice
abbrev pub is_sliced : Pick → Bool
is_sliced pick = not pick.single && pick.sliced

abbrev pub reaches_slice : Result Reach FaultValue → Bool
reaches_slice (Ok reach) = is_sliced reach.rows
reaches_slice (Err fault) = false

-- what a plan reaches
abbrev pub reach_of_plan : Plan → Reach
reach_of_plan plan = record { rows = pick_as (has_single_row plan.extent) (levels_lost plan.rows) (rows_in plan.rows); columns = pick_as (has_single_column plan.extent) 0 plan.columns }

-- the rows and columns of a table that it takes, without the levels that it loses
abbrev pub cut_by : Plan → Table → Table
cut_by plan t = without_leading (levels_lost plan.rows) (cut t (rows_in plan.rows) plan.columns)

-- Its rows and columns are those of the table, one where they are single. A single row keeps its levels, and a Series' column
-- is single.
pub record IsPlanFor (t : NumberedTable) (plan : Plan) : Type 0 where
  pub rows : AreTakenFrom t plan.rows
  pub columns : All (λ place. place < length t.columns) plan.columns
  pub one_row : has_single_row plan.extent ≡ true → length (rows_in plan.rows) ≡ 1
  pub whole_row : has_single_row plan.extent ≡ true → levels_lost plan.rows ≡ 0
  pub one_column : has_single_column plan.extent ≡ true → length plan.columns ≡ 1
  pub frame : has_single_column plan.extent ≡ false → t.shape ≡ Frame

-- What is picked where keys reach this is what the plan takes, which shares its cells where these are rows of a slice.
pub record IsPlanOf (texts : List Text) (t : NumberedTable) (plan : Plan) (reach : Result Reach FaultValue) : Type 0 where
  pub picked : then_value reach (picked_result (table_value texts t)) ≡ picked_result (table_value texts t) (reach_of_plan plan)
  pub shared : is_shared plan ≡ reaches_slice reach

-- It is the plan, or the first fault is answered. Want of memory may come in place of any answer.
abbrev pub PlansBy : List Text → NumberedTable → Result Plan OpFault → Result Reach FaultValue → Type 0
PlansBy texts t (Ok plan) reach = IsPlanOf texts t plan reach
PlansBy texts t (Err (Refused code)) reach = Refuses texts code (then_value reach (picked_result (table_value texts t)))
PlansBy texts t (Err NoMemory) reach = Unit {0}

-- rows and columns of a table, with a heading for each column
pub record CanTake (shape : Shape) (headings : HeadingList) (rows : Taken) (columns : List ℕ) (t : NumberedTable) : Type 0 where
  pub rows_below : AreTakenFrom t rows
  pub columns_below : All (λ place. place < length t.columns) columns
  pub headed : length headings.labels ≡ length columns
  pub fit : AreHeadings shape headings.columns_name headings.labels
