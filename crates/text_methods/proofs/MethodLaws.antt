-- How many rows the answer of a method has.
use Rattle.{column_core.{proofs.cells.Common.{◌≡◌, subst, arith, ℕ, Bool, List, length, length-map, Result, Ok, Err, IfOk, if◌then◌else◌, Kind, CellValue, ColumnValue}, specs.Columns.{CellColumn, column_value}}, cell_core.specs.declared.cell.Kind.TheVariants.{Int64, Boolean, Text as string}, meaning_text.specs.TextMethod.{TextMethod, TextMethodFault, bad_argument, takes, method_column, method_of_kind, text_method}, text_methods.specs.{Answers.{Answers}, declared.ops.TextFault.{TextFault}}}

taken_rows : (late : List (List ℕ)) (method : TextMethod) (taken : Bool) (xs : List CellValue) (c : CellColumn)
    → ◌≡◌ {A = Result ColumnValue TextMethodFault} (if taken then Ok (method_column method xs) else Err bad_argument) (Ok (column_value late c)) → length c.cells ≡ length xs
taken_rows = grind (arith, length-map)

kind_rows : (late : List (List ℕ)) (method : TextMethod) (kind : Kind) (xs : List CellValue) (c : CellColumn) → method_of_kind method kind xs ≡ Ok (column_value late c) → length c.cells ≡ length xs
kind_rows late method string xs c e = taken_rows late method (takes method) xs c e
kind_rows late method Int64 xs c e = cc
kind_rows late method Boolean xs c e = cc

as_many : (early late : List (List ℕ)) (method : TextMethod) (a : CellColumn) (result : Result CellColumn TextFault) → Answers late result (text_method method (column_value early a)) → IfOk result (λ c. length c.cells ≡ length a.cells)
as_many early late method a (Err fault) answer = tt
as_many early late method a (Ok c) answer = grind (arith, length-map, kind_rows)

-- as many as the column has, whichever way it is borrowed
pub answer_rows : (early late : List (List ℕ)) (method : TextMethod) (lane a : CellColumn) (result : Result CellColumn TextFault) → lane ≡ a → Answers late result (text_method method (column_value early lane)) → IfOk result (λ c. length c.cells ≡ length a.cells)
answer_rows early late method lane a result same answer =
    subst (λ x. IfOk result (λ c. length c.cells ≡ length x.cells)) same (as_many early late method lane result answer)
