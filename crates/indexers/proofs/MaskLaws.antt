-- Masks, by position and by labels.
use Rattle.{
  column_core.proofs.cells.Common.{◌≡◌, ◌∙◌, ap, sym, refl, arith, ℕ, ◌+◌, ◌<◌, Bool, true, false, List, [], ◌∷◌, length, map, All, Some, Ok, Err, slice_index_or, ◌&&◌, same_from_decides, get_or-map, length-map, All-head, All-tail, get_or_from_slice_get, slice_get_within, slice_get-get_or, slice_get, option_and_then, Decides, pointwise, pointwise_decides, as_long, Cell, Label},
  index_core.{specs.{Labels.{same_number}, pick.{Faults.{no_mask_label}, Masks.{cell_of_label, cell_or_fault, kept_rows, kept_by_label, masked_rows}, Rows.{rows_where, only_row}}}, proofs.{NumberLaws.{label_decides}, pick.{InsideLaws.{rows_inside}, RowLaws.{when_so, when_not, rows_where-map}}}},
  multi_index.{specs.Axes.{HaveLevels, single_tuples}, proofs.TupleLaws.{only_label_is}},
  indexers.specs.Masks.{is_true},
}

-- a cell of a mask
pub cell_read : (cells : List Cell) (row : ℕ) (cell : Cell) → slice_get cells row ≡ Some cell → slice_index_or (map is_true cells) row false ≡ is_true cell
cell_read cells row cell at = get_or-map is_true cells row cell false (slice_get_within cells row cell at) ∙ ap is_true (get_or_from_slice_get _ row _ _ at)

-- the only row of a label
only_is : (rows : List ℕ) (row : ℕ) → only_row rows ≡ Some row → rows ≡ row ∷ []
only_is = grind arith

pub only_inside : (labels : List Label) (label : Label) (row : ℕ) → only_row (rows_where (same_number label) 0 labels) ≡ Some row → row < length labels
only_inside labels label row e = All-head (λ r. r < length labels) row [] (rw (only_is (rows_where (same_number label) 0 labels) row e) at (rows_inside (same_number label) labels))

-- axes with the same labels, and with others
same_tuples : (xs ys : List (List Label)) → Decides (pointwise (pointwise same_number) xs ys) (xs ≡ ys)
same_tuples = pointwise_decides (pointwise_decides label_decides)

pub masked_alike : (xs ys : List (List Label)) (mask : List Bool) (b : Bool) (rows : List ℕ) → Decides b (xs ≡ ys) → b ≡ true → rows ≡ kept_rows mask → masked_rows (pointwise same_number) xs ys mask ≡ Ok rows
masked_alike = grind (arith, when_so, same_tuples)

pub alike_inside : (xs ys : List (List Label)) (cells : List Cell) (b : Bool) (rows : List ℕ) → Decides b (xs ≡ ys) → b ≡ true → length cells ≡ length ys → rows ≡ kept_rows (map is_true cells) → All (λ row. row < length xs) rows
alike_inside = grind (arith, length-map, rows_inside)

pub masked_otherwise : (xs ys : List (List Label)) (mask : List Bool) (r : Bool) → Decides r (xs ≡ ys) → r ≡ false → masked_rows (pointwise same_number) xs ys mask ≡ kept_by_label (pointwise same_number) ys mask 0 xs
masked_otherwise = grind (arith, when_not, same_from_decides, same_tuples)

-- the rows of a label as a tuple of its own
pub rows_of_single : (labels : List Label) (label : Label) → rows_where (pointwise same_number (label ∷ [])) 0 (single_tuples labels) ≡ rows_where (same_number label) 0 labels
rows_of_single labels label = rows_where-map (λ l. Unit {0}) _ _ (λ l. l ∷ []) (λ l t. both_true _) 0 labels (λ k d lt. tt)
  where
    both_true : (b : Bool) → (b && true) ≡ b
    both_true true = refl
    both_true false = refl

-- a row's tuple on one level
pub single_here : (tuples : List (List Label)) (row : ℕ) (label : Label) → HaveLevels 1 tuples → row < length tuples → option_and_then (λ t. slice_get t 0) (slice_get tuples row) ≡ Some label → slice_index_or tuples row [] ≡ label ∷ []
single_here tuples row label alike lt at =
    let there : slice_get tuples row ≡ Some (slice_index_or tuples row []) = search slice_get-get_or in
    only_label_is _ label (alike row [] lt) (ap (option_and_then (λ t. slice_get t 0)) (sym there) ∙ at)

-- the mask's cell at a row's tuple on one level
pub cell_here : (labels : List Label) (tuples axis : List (List Label)) (mask : List Bool) (row : ℕ) (label : Label) → single_tuples labels ≡ tuples → HaveLevels 1 axis → row < length axis → option_and_then (λ t. slice_get t 0) (slice_get axis row) ≡ Some label
    → cell_of_label (pointwise same_number) tuples mask (slice_index_or axis row []) ≡ cell_of_label (pointwise same_number) (single_tuples labels) mask (label ∷ [])
cell_here labels tuples axis mask row label seen alike lt at = cc (seen, single_here axis row label alike lt at)

-- on different numbers of levels no tuple is in the mask
unlike : (x y : List Label) → (length x ≡ length y → ⊥) → pointwise same_number x y ≡ false
unlike x y apart = grind (arith, as_long)

not_among : (x : List Label) (m n row : ℕ) (ys : List (List Label)) → length x ≡ m → HaveLevels n ys → (m ≡ n → ⊥) → rows_where (pointwise same_number x) row ys ≡ []
not_among x m n _ [] _ _ _ = refl
not_among x m n row (y ∷ ys) size alike apart =
    when_not _ _ _
    (unlike x y (λ same. apart (sym size ∙ same ∙ All-head (λ t. length t ≡ n) y ys alike)))
    ∙ not_among x m n (row + 1) ys size (All-tail (λ t. length t ≡ n) y ys alike) apart

pub none_kept : (xs ys : List (List Label)) (mask : List Bool) (m n : ℕ) → HaveLevels m xs → HaveLevels n ys → (m ≡ n → ⊥) → kept_by_label (pointwise same_number) ys mask 0 xs ≡ kept_by_label (pointwise same_number) [] [] 0 xs
none_kept [] _ _ m n _ _ _ = refl
none_kept (x ∷ xs) ys _ m n alike alike' apart = cc (not_among x m n 0 ys (All-head (λ t. length t ≡ m) x xs alike) alike' apart)

-- a cell of the mask at the rows of a tuple
pub cell_at_rows : (tuple : List Label) (cells : List Cell) (rows : List ℕ) (row : ℕ) (cell : Cell) (b : Bool) → length rows ≡ 1 → slice_index_or rows 0 0 ≡ row → slice_get cells row ≡ Some cell → b ≡ is_true cell
    → cell_or_fault tuple (map is_true cells) (only_row rows) ≡ Ok b
cell_at_rows = grind (arith, cell_read)

-- a mask without rows
pub none_of_rows : (xs : List (List Label)) (x : List Label) → slice_get xs 0 ≡ Some x → kept_by_label (pointwise same_number) [] [] 0 xs ≡ Err (no_mask_label x)
none_of_rows [] x at = cc
none_of_rows (y ∷ ys) x at = search

pub no_rows : (xs : List (List Label)) → length xs ≡ 0 → kept_by_label (pointwise same_number) [] [] 0 xs ≡ Ok []
no_rows [] _ = refl
no_rows (x ∷ xs) none = search
