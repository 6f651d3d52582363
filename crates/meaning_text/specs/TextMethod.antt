-- Methods of texts, and what each makes of a column.
use Rattle.std.specs.Prelude.{ℕ, ℤ, pos, Bool, true, not, List, map, length, nat_eq, int_le, Option, Result, Ok, Err, if◌then◌else◌}
use Rattle.std.specs.Int.{int_wrap, w64}
use Rattle.std.specs.List.{starts_with, ends_with}
use Rattle.std.specs.Ordering.{int_eq}
use Rattle.std.specs.Str.{chars, encode_utf8_all}
use Rattle.meaning_pick.specs.cells.Text.{Text}
use Rattle.meaning_pick.specs.cells.Cell.{Kind, Int64, Boolean, string, CellValue, na_cell, int_cell, truth_cell, text_cell}
use Rattle.meaning_pick.specs.cells.Column.{ColumnValue}
use Rattle.meaning_pick.specs.Positions.{step_or_one}
use Rattle.meaning_text.specs.Points.{stripped, stands_in, sliced, zero_filled}

-- a method with what it is given
pub data TextMethod : Type 0 where
  len : TextMethod
  strip : TextMethod
  starts : Text → TextMethod
  ends : Text → TextMethod
  contains : Text → TextMethod
  slice : Option ℤ → Option ℤ → Option ℤ → TextMethod
  fill : ℤ → TextMethod

-- why no column is made: the cells aren't texts, or a step is 0 or a width too great
pub data TextMethodFault : Type 0 where
  not_text : TextMethodFault
  bad_argument : TextMethodFault

-- the code points of a text, and the text of code points
abbrev pub points_of : Text → List ℕ
points_of t = chars t

abbrev pub text_with : List ℕ → CellValue
text_with cs = text_cell (encode_utf8_all cs)

-- what a method makes of the code points of a text; numbers of code points wrap at 64 bits, as numbers of cells do
abbrev pub method_value : TextMethod → List ℕ → CellValue
method_value len cs = int_cell (int_wrap w64 (pos (length cs)))
method_value strip cs = text_with (stripped cs)
method_value (starts pattern) cs = truth_cell (starts_with nat_eq cs (points_of pattern))
method_value (ends pattern) cs = truth_cell (ends_with nat_eq cs (points_of pattern))
method_value (contains pattern) cs = truth_cell (stands_in (points_of pattern) cs)
method_value (slice from to step) cs = text_with (sliced from to step cs)
method_value (fill width) cs = text_with (zero_filled width cs)

-- a missing cell stays
abbrev pub method_cell : TextMethod → CellValue → CellValue
method_cell method (text_cell t) = method_value method (points_of t)
method_cell method c = na_cell

abbrev pub method_kind : TextMethod → Kind
method_kind len = Int64
method_kind strip = string
method_kind (starts pattern) = Boolean
method_kind (ends pattern) = Boolean
method_kind (contains pattern) = Boolean
method_kind (slice from to step) = string
method_kind (fill width) = string

-- a slice's step isn't 0, and a width is at most this
abbrev pub greatest_width : ℕ
greatest_width = 65536

abbrev pub takes : TextMethod → Bool
takes (slice from to step) = not (int_eq (step_or_one step) (pos 0))
takes (fill width) = int_le width (pos greatest_width)
takes method = true

abbrev pub method_column : TextMethod → List CellValue → ColumnValue
method_column method cells = record { kind = method_kind method; cells = map (method_cell method) cells }

abbrev pub method_of_kind : TextMethod → Kind → List CellValue → Result ColumnValue TextMethodFault
method_of_kind method string cells = if takes method then Ok (method_column method cells) else Err bad_argument
method_of_kind method kind cells = Err not_text

-- a method on a column, cell by cell
abbrev pub text_method : TextMethod → ColumnValue → Result ColumnValue TextMethodFault
text_method method a = method_of_kind method a.kind a.cells
