-- What runs up to each row, as contracts see it.
use Rattle.std.specs.Prelude.{◌≡◌, ℕ, ◌+◌, ℤ, List, map, length, min, nat_lt, Option, Some, None, if◌then◌else◌}
use Rattle.cell_core.specs.declared.cell.Cell.{Cell}
use Rattle.column_core.specs.Columns.{number_cell}
use Rattle.nullable_array.specs.declared.ops.Cumulation.{Cumulation}
use Rattle.nullable_array.specs.Distincts.{present_values}
use Rattle.rolling.specs.Answers.{step_of, came_to, answer_of}

-- its settings, how many present cells were pushed, as far as they are asked for, and what these come to
pub record ExpandingValue : Type 0 where
  pub min_periods : ℕ
  pub op : Cumulation
  pub present : ℕ
  pub so_far : Option ℤ

-- its settings are these
pub record HasSettings (min_periods : ℕ) (op : Cumulation) (e : ExpandingValue) : Type 0 where
  pub min_periods_is : e.min_periods ≡ min_periods
  pub op_is : e.op ≡ op

-- these are the rows that it took, each of them a number or none
pub record HasTaken (e : ExpandingValue) (rows : List (Option ℤ)) : Type 0 where
  pub counted : e.present ≡ min e.min_periods (length (present_values rows))
  pub gathered : e.so_far ≡ came_to e.op (present_values rows)

-- what these rows come to
abbrev pub answer_of_rows : ExpandingValue → List (Option ℤ) → Option ℤ
answer_of_rows e rows = answer_of e.min_periods e.op (present_values rows)

-- these are the cells that were pushed, the first one first
pub record HasPushed (e : ExpandingValue) (pushed : List Cell) : Type 0 where
  pub rows : List (Option ℤ)
  pub rows_are : map number_cell rows ≡ pushed
  pub taken : HasTaken e rows

-- a row more
abbrev pub with_row : ExpandingValue → Option ℤ → ExpandingValue
with_row e None = e
with_row e (Some x) = record e { present = if nat_lt e.present e.min_periods then e.present + 1 else e.present; so_far = step_of e.op e.so_far x }

-- what the rows so far come to, where enough of them are present
abbrev pub answer_so_far : ExpandingValue → Option ℤ
answer_so_far e = if nat_lt e.present e.min_periods then None else e.so_far
