-- What an operator makes has as many rows as its operands.
use Rattle.{
  column_core.{proofs.cells.Common.{◌≡◌, ◌∙◌, ℕ, suc, Bool, true, false, List, ◌∷◌, length, map, arith, Option, Result, Ok, Err, length-map, length-replicate, IfOk, Kind, Cell, Text, CellValue, datum, ColumnValue, try_pairs, then_rows, column_if, zero_division, scalar_binary, scalar_column, Binary}, specs.{cells.Operator.{binary_column}, Columns.{CellColumn, column_value as cells_value}}},
  nullable_array.specs.{Answers.{Answers}, declared.ops.ArrayFault.{ArrayFault}},
}

one_more_row : (row : ℕ) (o : Option CellValue) (r : Result (List CellValue) ℕ) (zs xs : List CellValue) → ((rest : List CellValue) → r ≡ Ok rest → length rest ≡ length xs) → then_rows o row r ≡ Ok zs → length zs ≡ suc (length xs)
one_more_row = grind arith

pairs_length : (f : CellValue → CellValue → Option CellValue) (row : ℕ) (xs ys zs : List CellValue) → length xs ≡ length ys → try_pairs f row xs ys ≡ Ok zs → length zs ≡ length xs
pairs_length f row (x ∷ xs) (y ∷ ys) zs same is =
    one_more_row _ _ _ zs xs (λ rest e. let less : length xs ≡ length ys = omega arith in pairs_length f (suc row) xs ys rest less e) is
pairs_length f _ _ _ _ same is = search

column_length : (texts : List Text) (o : Option Kind) (n : ℕ) (r : Result (List CellValue) ℕ) (c : CellColumn) → ((zs : List CellValue) → r ≡ Ok zs → length zs ≡ n)
    → column_if o zero_division r ≡ Ok (cells_value texts c) → length c.cells ≡ n
column_length = grind (arith, length-map)

pub answer_length : (texts : List Text) (op : Binary) (x y : ColumnValue) (c : CellColumn) (n : ℕ) → length x.cells ≡ n → length y.cells ≡ n → Answers texts (Ok c) (binary_column op x y) → length c.cells ≡ n
answer_length _ _ x y c n e f is =
    column_length _ _ n _ c (λ zs is. grind (arith, pairs_length)) is

made_rows : (texts : List Text) (op : Binary) (x y : ColumnValue) (n : ℕ) (result : Result CellColumn ArrayFault) → length x.cells ≡ n → length y.cells ≡ n → Answers texts result (binary_column op x y) → IfOk result (λ made. length made.cells ≡ n)
made_rows _ _ x y n (Err fault) e f _ = tt
made_rows _ _ x y n (Ok made) e f answer = search answer_length

-- the column that is made has as many rows as its operands
pub column_rows : (old new : List Text) (op : Binary) (a b : CellColumn) (n : ℕ) (result : Result CellColumn ArrayFault) → length a.cells ≡ n → length b.cells ≡ n
    → Answers new result (binary_column op (cells_value old a) (cells_value old b)) → IfOk result (λ made. length made.cells ≡ n)
column_rows _ _ op a b n _ e f answer =
    made_rows _ op _ _ n _ (length-map a.cells _ ∙ e) (length-map b.cells _ ∙ f) answer

pub scalar_rows : (old new : List Text) (op : Binary) (a : CellColumn) (c : Cell) (left : Bool) (n : ℕ) (result : Result CellColumn ArrayFault) → length a.cells ≡ n
    → Answers new result (scalar_binary op (cells_value old a) (datum old c) left) → IfOk result (λ made. length made.cells ≡ n)
scalar_rows old new op a c left n result e answer = go _ answer
  where
    seen : length (map (datum old) a.cells) ≡ n
    seen = search length-map

    many : length (scalar_column (cells_value old a) (datum old c)).cells ≡ n
    many = search (length-replicate, seen)

    go : (left : Bool) → Answers new result (scalar_binary op (cells_value old a) (datum old c) left) → IfOk result (λ made. length made.cells ≡ n)
    go true h = made_rows _ op _ _ n _ many seen h
    go false h = made_rows _ op _ _ n _ seen many h
