-- Casts of cells, and the texts of numbers and truth values.
use Rattle.std.specs.Prelude.{zero, suc, ℤ, pos, Bool, true, false, ◌&&◌, ◌==◌, List, [], ◌∷◌, length, reverse, nat_lt, codes, Option, Some, None, option_map, Result, if◌then◌else◌}
use Rattle.std.specs.Fmt.{signed_decimal}
use Rattle.std.specs.List.{list_any}
use Rattle.std.specs.Str.{all_ascii_digits}
use Rattle.std.specs.Str.Parse.{without_leading_sign, signed_digits_value}
use Rattle.cell_core.specs.declared.cell.Kind.{Kind}
use Rattle.cell_core.specs.declared.cell.Kind.TheVariants.{Int64, Boolean, Text as string}
use Rattle.meaning_cells.specs.Text.{Text, same_text}
use Rattle.meaning_cells.specs.Cell.{CellValue, na_cell, int_cell, truth_cell, text_cell, has_64_bits}
use Rattle.meaning_cells.specs.Column.{ColumnValue, ColumnFault, not_cast, try_each, column_of}

abbrev pub after_spaces : Text → Text
after_spaces [] = []
after_spaces (b ∷ bs) = if b == 32 then after_spaces bs else b ∷ bs

-- without the spaces at both ends
abbrev pub without_spaces : Text → Text
without_spaces t = reverse (after_spaces (reverse (after_spaces t)))

-- a sign, which may be missing, and one digit or more
abbrev pub is_numeral : Text → Bool
is_numeral t = nat_lt 0 (length (without_leading_sign t)) && all_ascii_digits (without_leading_sign t)

abbrev pub numeral_value : Text → Option ℤ
numeral_value t = if is_numeral t && has_64_bits (signed_digits_value 10 t) then Some (signed_digits_value 10 t) else None

-- the whole number of 64 bits that a text is, spaces at both ends left out
abbrev pub whole_number : Text → Option ℤ
whole_number t = numeral_value (without_spaces t)

abbrev pub true_texts : List Text
true_texts = codes "True" ∷ codes "TRUE" ∷ codes "true" ∷ []

abbrev pub false_texts : List Text
false_texts = codes "False" ∷ codes "FALSE" ∷ codes "false" ∷ []

-- the truth value that a text is
abbrev pub truth_value : Text → Option Bool
truth_value t = if list_any (same_text t) true_texts then Some true else if list_any (same_text t) false_texts then Some false else None

abbrev pub truth_text : Bool → Text
truth_text true = codes "True"
truth_text false = codes "False"

-- 0 is False and 1 is True
abbrev pub truth_of_number : ℤ → Option Bool
truth_of_number (pos zero) = Some false
truth_of_number (pos (suc zero)) = Some true
truth_of_number z = None

abbrev pub number_of_truth : Bool → ℤ
number_of_truth true = pos 1
number_of_truth false = pos 0

-- a cell as a cell of a kind, where it can be one
abbrev pub cast_cell : Kind → CellValue → Option CellValue
cast_cell kind na_cell = Some na_cell
cast_cell Int64 (int_cell z) = Some (int_cell z)
cast_cell Int64 (truth_cell b) = Some (int_cell (number_of_truth b))
cast_cell Int64 (text_cell t) = option_map int_cell (whole_number t)
cast_cell Boolean (int_cell z) = option_map truth_cell (truth_of_number z)
cast_cell Boolean (truth_cell b) = Some (truth_cell b)
cast_cell Boolean (text_cell t) = option_map truth_cell (truth_value t)
cast_cell string (int_cell z) = Some (text_cell (signed_decimal z))
cast_cell string (truth_cell b) = Some (text_cell (truth_text b))
cast_cell string (text_cell t) = Some (text_cell t)

abbrev pub cast_column : Kind → ColumnValue → Result ColumnValue ColumnFault
cast_column kind a = column_of kind not_cast (try_each (cast_cell kind) 0 a.cells)
