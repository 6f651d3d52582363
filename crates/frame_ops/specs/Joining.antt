-- Rows that are joined by their labels, with texts by number.
use Rattle.std.specs.Prelude.{◌≡◌, ◌≤◌, ◌^◌, ℕ, true, List, length, Option, Result, Err, All, if◌then◌else◌}
use Rattle.std.specs.List.{list_all}
use Rattle.cell_core.specs.declared.cell.Cell.TheVariants.{Na}
use Rattle.column_core.specs.cells.Text.{Text}
use Rattle.column_core.specs.cells.Cell.{LabelValue}
use Rattle.column_core.specs.cells.Fault.{FaultValue, bad_value, not_aligned}
use Rattle.column_core.specs.cells.Symbol.{Binary}
use Rattle.column_core.specs.Moves.{IsPlaceOf}
use Rattle.multi_index.specs.Axes.{AxisValue, HaveLevels, range_axis}
use Rattle.label_align.specs.declared.joined.Joined.{Joined}
use Rattle.frame_store.specs.tables.Table.{NumberedTable, Table}
use Rattle.frame_store.specs.tables.Value.{Entry}
use Rattle.frame_parts.specs.form.Infix as meant
use Rattle.frame_parts.specs.form.Infix.{same_tuple, tuple_before, on_rows, on_levels, meets, beside, same_count, compares}
use Rattle.frame_parts.specs.align.Faults.{met_rows}
use Rattle.frame_parts.specs.align.Joins.{outer_within}
use Rattle.frame_store.specs.Parts.{table_with, headings_of}
use Rattle.frame_store.specs.Shown.{labels_value}
use Rattle.frame_ops.specs.declared.other.Other.TheVariants.{Beside}
use Rattle.frame_ops.specs.Pairs.{all_met, kinds_meet}

-- the joined rows with their texts
abbrev pub joined_value : List Text → Joined → meant.Joined
joined_value texts rows = record { keys = labels_value texts rows.axis.tuples; left = rows.left; right = rows.right }

-- the rows by the labels that either side has, where these are so many at most
abbrev pub joined_within : ℕ → List (List LabelValue) → List (List LabelValue) → Result meant.Joined FaultValue
joined_within most a b = met_rows (outer_within most same_tuple tuple_before a b)

-- a row of a side for each joined row, if it has one there
pub record AreSideRows (count : ℕ) (side : AxisValue) (rows : List (Option ℕ)) : Type 0 where
  pub count_is : length rows ≡ count
  pub places : All (IsPlaceOf (length side.tuples)) rows

-- joined rows of two axes, no more than a table may have
pub record IsJoined (a b : AxisValue) (rows : Joined) : Type 0 where
  pub few : length rows.axis.tuples ≤ 2 ^ 26
  pub levels : HaveLevels (length a.names) rows.axis.tuples
  pub left : AreSideRows (length rows.axis.tuples) a rows.left
  pub right : AreSideRows (length rows.axis.tuples) b rows.right

-- a side on joined rows, which are numbered
abbrev pub side_on : NumberedTable → List (Option ℕ) → NumberedTable
side_on t rows = table_with t.shape (range_axis (length rows)) (headings_of t) (on_rows Na rows t.columns)

-- the operator takes the columns of both, and their rows have as many levels
pub record MayJoin (op : Binary) (a b : NumberedTable) : Type 0 where
  pub kinds : list_all (kinds_meet op) (all_met a (Beside b)) ≡ true
  pub levels : length a.level_names ≡ length b.level_names

-- tables of other labels come to the rest after these tests, unless they are compared
abbrev pub joined_after : Binary → Table → Table → Result Entry FaultValue → Result Entry FaultValue
joined_after op a b rest =
    on_levels (list_all (meets op) (beside a.columns b.columns)) (same_count a.level_names b.level_names) (if compares op then Err (bad_value not_aligned) else rest)
