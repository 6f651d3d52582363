-- The window of a row: the last cells up to it.
use Rattle.{
  meaning_cells.proofs.Common.{◌≡◌, ℕ, zero, suc, ◌+◌, ◌-◌, ◌<◌, ◌≤◌, arith, Bool, true, false, List, [], ◌∷◌, ◌++◌, length, map, take, drop, filter, get_or, nat_lt, nat_eq, refl, sym, ap, ◌∙◌, range_with_len, same_lists, length-take, length-map-range_with_len, get_or-map-range_with_len, get_or-take, length-append, take_all, length-drop, if◌then◌else◌, CellValue, na_cell, Cumulation, ltb-true, ltb-false, eqb-true, eqb-false, get_or_default},
  std.proofs.lemmas.List.{drop-append-le, drop-drop},
  meaning_window.specs.Window.{window_cells, last, rolled, expanded},
}

-- of the rows from a on those below the end that a window of size n reaches
from_row : (n : ℕ) (cells : List CellValue) (row a m : ℕ) → a + m ≡ row + 1
    → map (λ j. get_or cells j na_cell) (filter (λ j. nat_lt row (j + n)) (range_with_len a m)) ≡ drop (m - n) (map (λ j. get_or cells j na_cell) (range_with_len a m))
from_row n cells row a zero e = grind arith
from_row n cells row a (suc m) e = by (nat_lt row (a + n)) refl _ _ (from_row n cells row (a + 1) m (omega arith))
  where
    by : (b : Bool) → nat_lt row (a + n) ≡ b → (rows : List ℕ) (left : List CellValue) → map (λ j. get_or cells j na_cell) rows ≡ drop (m - n) left → map (λ j. get_or cells j na_cell) (if b then a ∷ rows else rows) ≡ drop (suc m - n) (get_or cells a na_cell ∷ left)
    by true h rows left rest =
        let whole : suc m - n ≡ 0 = omega (arith, ltb-true row (a + n) h) in
        let too : m - n ≡ 0 = omega arith in
        rw whole (ap (λ l. get_or cells a na_cell ∷ l) (rw too at rest))
    by false h rows left rest =
        let part : suc m - n ≡ suc (m - n) = omega (arith, ltb-false row (a + n) h) in
        rw part rest

-- the cells up to a row
up_to : (cells : List CellValue) (row : ℕ) → row < length cells → map (λ j. get_or cells j na_cell) (range_with_len 0 (row + 1)) ≡ take (row + 1) cells
up_to cells row h = same_lists _ _ (grind (arith, length-map-range_with_len, length-take)) (λ k d b. let within : k < row + 1 = rw length-map-range_with_len at b in get_or-map-range_with_len _ 0 (row + 1) k k d within (omega arith) ∙ get_or_default cells k na_cell d (omega arith) ∙ sym (get_or-take (row + 1) cells k d within))

-- the window of a row
pub window_is_last : (n : ℕ) (cells : List CellValue) (row : ℕ) → row < length cells → window_cells n cells row ≡ last n (take (row + 1) cells)
window_is_last n cells row h = grind (arith, from_row n cells row 0 (row + 1) (omega arith), up_to cells row h, length-take (row + 1) cells)

-- that of the last row
pub window_of_last : (n : ℕ) (cells : List CellValue) (c : CellValue) → window_cells n (cells ++ c ∷ []) (length cells) ≡ last n (cells ++ c ∷ [])
window_of_last n cells c = grind (arith, window_is_last n (cells ++ c ∷ []) (length cells) (omega (arith, length-append cells (c ∷ []))), length-append cells (c ∷ []), take_all)

-- a cell more
pub last_push : {X : Type 0} (n : ℕ) (xs : List X) (x : X) → 0 < n → last n (xs ++ x ∷ []) ≡ (if nat_eq (length (last n xs)) n then drop 1 (last n xs) else last n xs) ++ x ∷ []
last_push n xs x h = by (nat_eq (length (last n xs)) n) refl
  where
    long : length (xs ++ x ∷ []) ≡ length xs + 1
    long = length-append xs (x ∷ [])

    left : length (last n xs) ≡ length xs - (length xs - n)
    left = length-drop (length xs - n) xs

    by : (b : Bool) → nat_eq (length (last n xs)) n ≡ b → last n (xs ++ x ∷ []) ≡ (if b then drop 1 (last n xs) else last n xs) ++ x ∷ []
    by true e =
        let full : length (last n xs) ≡ n = eqb-true _ _ e in
        let one : length (xs ++ x ∷ []) - n ≡ length xs - n + 1 = omega (arith, long, left) in
        let within : length xs - n + 1 ≤ length xs = omega (arith, left) in
        rw (one, drop-append-le _ xs (x ∷ []) within, drop-drop) refl
    by false e =
        let none : length (xs ++ x ∷ []) - n ≡ length xs - n = omega (arith, long, left, eqb-false _ _ e) in
        let within : length xs - n ≤ length xs = omega arith in
        rw none (drop-append-le _ xs (x ∷ []) within)

tabulate_same : {C : Type 0} (f g : ℕ → C) (a n : ℕ) → ((k : ℕ) → k < a + n → f k ≡ g k) → map f (range_with_len a n) ≡ map g (range_with_len a n)
tabulate_same f g a zero same = refl
tabulate_same f g a (suc n) same = grind (arith, same a (omega arith), tabulate_same f g (a + 1) n (λ k h. same k (omega arith)))

-- a window of as many rows as there are is what runs up to each row
pub rolled_all : (n min_periods : ℕ) (op : Cumulation) (cells : List CellValue) → length cells ≤ n → rolled n min_periods op cells ≡ expanded min_periods op cells
rolled_all n min_periods op cells h = tabulate_same _ _ 0 (length cells) (λ row b. let within : row < length cells = omega arith in grind (arith, window_is_last n cells row within, length-take (row + 1) cells))

-- so longer windows answer alike
pub rolled_longer : (n m min_periods : ℕ) (op : Cumulation) (cells : List CellValue) → length cells ≤ n → length cells ≤ m → rolled n min_periods op cells ≡ rolled m min_periods op cells
rolled_longer n m min_periods op cells h k = rolled_all n min_periods op cells h ∙ sym (rolled_all m min_periods op cells k)
