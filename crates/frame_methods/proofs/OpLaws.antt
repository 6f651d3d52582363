-- What is made of a column, with texts.
use Rattle.{
  frame_parts.proofs.Common.{arith, ◌≡◌, ◌∙◌, refl, ap, sym, ℕ, suc, ◌+◌, ◌-◌, ℤ, pos, negsuc, nat_lt, Bool, List, [], ◌∷◌, map, length, Result, Ok, IfOk, Option, if◌then◌else◌, length-map, length-map-range_with_len, All-map, map-map, get_or-map, range_with_len, Cell, Kind, Text, CellValue, na_cell, datum, IsGiven, AreGiven, ColumnValue, tabulate, CellColumn, Answers, ArrayFault, column_value, made_column, cells_value, table_column, settled_by, cells_settled, cells_given},
  column_core.proofs.cells.Common.{ColumnFault, try_each, shifted, shifted_row, cast_column, Cumulation, running, cumulate_column},
  frame_labels.specs.method.Methods.{mapped, shifted_column},
  frame_methods.specs.Columns.{MakesColumn},
}
use Rattle.cell_core.specs.declared.cell.Cell.TheVariants as cell
use Rattle.column_core.specs.Columns as kernel

-- cells by themselves
mapped_cells : (f : CellValue → CellValue) (made : Cell → Cell) (texts : List Text) (cs : List Cell) → ((c : Cell) → IsGiven texts c → f (datum texts c) ≡ datum texts (made c)) → AreGiven texts cs
    → map f (map (datum texts) cs) ≡ map (datum texts) (map made cs)
mapped_cells f _ _ [] _ _ = refl
mapped_cells f made texts (c ∷ cs) same given = λ j. same c (given 0 c (omega arith)) j ∷ mapped_cells f made texts cs same (λ k d lt. given (suc k) d (omega arith)) j

abbrev IsMapped : Kind → (Cell → Cell) → CellColumn → CellColumn → Type 0
IsMapped kind made a new = new ≡ record { kind = kind; cells = map made a.cells }

pub marked_answer : (kind : Kind) (f : CellValue → CellValue) (made : Cell → Cell) (texts : List Text) (a new : CellColumn) → ((c : Cell) → IsGiven texts c → f (datum texts c) ≡ datum texts (made c)) → AreGiven texts a.cells
    → IsMapped kind made a new → mapped kind f (column_value texts (table_column a)) ≡ Ok (column_value texts (table_column new))
marked_answer kind f made texts a _ same given is = grind (arith, mapped_cells f made texts a.cells same given)

pub mapped_given : (kind : Kind) (made : Cell → Cell) (texts : List Text) (a new : CellColumn) → ((c : Cell) → IsGiven texts c → IsGiven texts (made c)) → AreGiven texts a.cells → IsMapped kind made a new → AreGiven texts new.cells
mapped_given _ made texts a _ stays given is = rw is (All-map (IsGiven texts) made a.cells (λ k d lt. stays _ (given k d lt)))

-- a shift

either_value : (texts : List Text) (b : Bool) (c : Cell) → (if b then na_cell else datum texts c) ≡ datum texts (if b then cell.Na else c)
either_value = grind arith

shifted_at : (texts : List Text) (cs : List Cell) (z : ℤ) (i : ℕ) → shifted_row na_cell (map (datum texts) cs) z i ≡ datum texts (shifted_row cell.Na cs z i)
shifted_at texts cs (pos n) i = ap (λ c. if nat_lt i n then na_cell else c) (get_or-map (datum texts) cs (i - n) cell.Na) ∙ either_value _ _ _
shifted_at texts cs (negsuc n) i = get_or-map (datum texts) cs (i + suc n) cell.Na

shifted_values : (texts : List Text) (cs : List Cell) (z : ℤ) → shifted na_cell (map (datum texts) cs) z ≡ map (datum texts) (shifted cell.Na cs z)
shifted_values texts cs z =
    ap (λ n. tabulate n (shifted_row na_cell (map (datum texts) cs) z)) (length-map cs _)
    ∙ (λ j. map (λ i. shifted_at texts cs z i j) (range_with_len 0 (length cs)))
    ∙ sym (map-map (datum texts) (shifted_row cell.Na cs z) (range_with_len 0 (length cs)))

pub shifted_answer : (z : ℤ) (texts : List Text) (a new : CellColumn) → new.kind ≡ a.kind → new.cells ≡ shifted cell.Na a.cells z → shifted_column z (column_value texts (table_column a)) ≡ Ok (column_value texts (table_column new))
shifted_answer z texts a _ kind cells = grind (arith, shifted_values texts a.cells z)

pub shifted_given : (z : ℤ) (texts : List Text) (a new : CellColumn) → AreGiven texts a.cells → new.cells ≡ shifted cell.Na a.cells z → AreGiven texts new.cells
shifted_given z texts a _ given cells =
    rw cells
    (cells_given _ _ (settled_by cells_value cells_value (λ vs. shifted na_cell vs z) _ _ _ (λ ts. shifted_values ts _ z) (cells_settled _ _ given)))

pub shifted_rows : (z : ℤ) (a new : CellColumn) → new.cells ≡ shifted cell.Na a.cells z → length new.cells ≡ length a.cells
shifted_rows z a _ cells = ap length cells ∙ length-map-range_with_len _ 0 _

each_length : {A C : Type 0} (f : A → Option C) (row : ℕ) (xs : List A) (ys : List C) → try_each f row xs ≡ Ok ys → length ys ≡ length xs
each_length f _ [] ys is = grind arith
each_length f row (x ∷ xs) ys is = grind (arith, each_length f (suc row) xs)

pub cast_count : (kind : Kind) (old new : List Text) (a : CellColumn) (made : Result CellColumn ArrayFault) → Answers new made (cast_column kind (kernel.column_value old a)) → IfOk made (λ c. length c.cells ≡ length a.cells)
cast_count kind old new a made is = grind (arith, length-map, each_length)

-- a cumulation
running_length : (f : List CellValue → CellValue) (before cs : List CellValue) → length (running f before cs) ≡ length cs
running_length f _ [] = refl
running_length f _ (c ∷ cs) = ap suc (running_length f _ cs)

pub cumulated_count : (op : Cumulation) (texts : List Text) (a : CellColumn) (made : Result CellColumn ArrayFault) → Answers texts made (cumulate_column op (kernel.column_value texts a)) → IfOk made (λ c. length c.cells ≡ length a.cells)
cumulated_count op texts a made is = grind (arith, length-map, running_length)

-- a kernel's answer on the cells of a column is that of a table's
pub column_made : (texts : List Text) (made : Result CellColumn ArrayFault) (whole : Result ColumnValue ColumnFault) → Answers texts made whole → MakesColumn texts made (made_column whole)
column_made = grind arith
