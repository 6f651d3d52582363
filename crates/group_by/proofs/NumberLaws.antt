-- Columns of numbers, one row more at a time, and what is counted of groups.
use Rattle.{
  column_core.{proofs.{cells.Common.{replicate, ◌≡◌, ◌+◌, ◌<◌, ◌≤◌, ◌^◌, refl, sym, subst, arith, ℕ, Bool, true, false, cond, List, [], ◌∷◌, ◌++◌, map, take, length, slice_index_or, All, Option, None, Result, IfOk, length-append, map-append, length-take-le, get_or_default, All-replicate, All-push, fill_by_all, false≢true, range_with_len, Cell, Int64, CellValue, datum, holds, IsGiven, tabulate}, CellRows.{map-map}}, specs.{Columns.{CellColumn, column_value}, Moves.{IsPlaceOf}}},
  factorize.specs.{pick.Rows.{rows_where}, group.{Rows.{is_in, rows_of_group}, Reductions.{of_group, count_cell}}},
  group_by.{specs.Counted.{IsCounted, AreNumbers}, proofs.RowLaws.{is_in_some, rows_more, rows_same}},
}
use Rattle.cell_core.specs.declared.cell.Cell.TheVariants as cell

-- a cell that a column of numbers may hold has no text
pub number_given : (c : Cell) → ((texts : List (List ℕ)) → holds Int64 (datum texts c) ≡ true) → (texts : List (List ℕ)) → IsGiven texts c
number_given cell.Na _ _ = tt
number_given (cell.Int z) _ _ = tt
number_given (cell.Bool b) _ _ = tt
number_given (cell.Text id) held texts = search false≢true

pub no_numbers : (made : CellColumn) → made ≡ record { kind = Int64; cells = [] } → AreNumbers made (λ texts. [])
no_numbers = grind arith

-- one number more
pub numbers_more : (made made' : CellColumn) (so_far more : List (List ℕ) → List CellValue) (c : Cell) (v : List (List ℕ) → CellValue) → AreNumbers made so_far → ((texts : List (List ℕ)) → holds Int64 (datum texts c) ≡ true)
    → ((texts : List (List ℕ)) → datum texts c ≡ v texts) → made' ≡ record { kind = made.kind; cells = made.cells ++ c ∷ [] } → ((texts : List (List ℕ)) → more texts ≡ so_far texts ++ v texts ∷ []) → AreNumbers made' more
numbers_more made _ _ more c v were held is pushed grown = subst (λ (col : CellColumn). AreNumbers col more) (sym pushed) record {
  kind = were.kind;
  given = λ texts. All-push (IsGiven texts) made.cells c (were.given texts) (number_given c held texts);
  values = grind (arith, map-append);
}

pub same_numbers : (made : CellColumn) (f g : List (List ℕ) → List CellValue) → AreNumbers made f → ((texts : List (List ℕ)) → f texts ≡ g texts) → AreNumbers made g
same_numbers = grind arith

-- what a column of numbers holds
pub numbers_value : (made : CellColumn) (f : List (List ℕ) → List CellValue) → AreNumbers made f → (texts : List (List ℕ)) → column_value texts made ≡ record { kind = Int64; cells = f texts }
numbers_value = grind arith

-- of a row's group alone is asked
pub of_one_group : (code : Option ℕ) (count : ℕ) (f g : ℕ → CellValue) → IsPlaceOf count code → ((k : ℕ) → k < count → f k ≡ g k) → of_group code f ≡ of_group code g
of_one_group = grind arith

few_rows : {X : Type 0} (p : X → Bool) (at : ℕ) (xs : List X) → length (rows_where p at xs) ≤ length xs
few_rows p _ [] = omega arith
few_rows p at (x ∷ xs) = grind (arith, few_rows p (at + 1) xs)

-- a group has no more rows than there are
pub rows_few : (group row : ℕ) (codes : List (Option ℕ)) → row ≤ length codes → length (rows_of_group group (take row codes)) ≤ row
rows_few group row codes le = omega (arith, few_rows (is_in group) 0 (take row codes), length-take-le row codes le)

length_more : (codes : List (Option ℕ)) (row : ℕ) (inside : row < length codes) (g : ℕ) → length (rows_of_group g (take (row + 1) codes)) ≡ length (rows_of_group g (take row codes)) + cond (is_in g (slice_index_or codes row None)) 1 0
length_more codes row inside g = elim (is_in g (slice_index_or codes row None)) as (λ b. is_in g (slice_index_or codes row None) ≡ b → length (rows_of_group g (take (row + 1) codes)) ≡ length (rows_of_group g (take row codes)) + cond b 1 0) [
  | true ↦ search (rows_more, is_in_some, length-append)
  | false ↦ grind (arith, rows_same codes row inside g)
] refl

pub rows_counted : (codes : List (Option ℕ)) (row count : ℕ) (code : Option ℕ) (before after : List ℕ) → row < length codes → slice_index_or codes row None ≡ code → IsCounted code before after → length before ≡ count
    → ((g : ℕ) → g < count → slice_index_or before g 0 ≡ length (rows_of_group g (take row codes))) → (g : ℕ) → g < count → slice_index_or after g 0 ≡ length (rows_of_group g (take (row + 1) codes))
rows_counted = grind (arith, length_more)

-- there is room to count a row more
pub room : (codes : List (Option ℕ)) (row count : ℕ) (counts : List ℕ) → row < length codes → length codes < 2 ^ 64 → length counts ≡ count → ((g : ℕ) → g < count → slice_index_or counts g 0 ≡ length (rows_of_group g (take row codes)))
    → All (λ n. n + 1 < 2 ^ 64) counts
room codes row _ counts inside small size are k d lt =
    let here : slice_index_or counts k d ≡ length (rows_of_group k (take row codes)) = grind (arith, get_or_default) in
    omega (arith, here, rows_few k row codes (omega (arith, inside)), inside, small)

-- what is counted of each group, as cells
pub counts_cells : (counts : List ℕ) (count : ℕ) (f : ℕ → ℕ) → length counts ≡ count → ((g : ℕ) → g < count → slice_index_or counts g 0 ≡ f g) → map count_cell counts ≡ tabulate count (λ g. count_cell (f g))
counts_cells counts count f size are = cc (fill_by_all f counts count 0 size are, map-map f count_cell (range_with_len 0 count))

-- an answer that says more
pub if_ok_more : {A E : Type 0} {P Q : A → Type 0} → ((a : A) → P a → Q a) → (r : Result A E) → IfOk r P → IfOk r Q
if_ok_more = grind arith

-- a list of one item again and again
pub all_alike : {X : Type 0} (x : X) (n : ℕ) (xs : List X) → xs ≡ replicate n x → All (λ y. y ≡ x) xs
all_alike x n _ is = rw is (All-replicate (λ y. y ≡ x) n x refl)
