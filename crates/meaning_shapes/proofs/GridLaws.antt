-- Lists of as many elements each, one behind the other.
use Rattle.{
  meaning_join.{proofs.cells.Common.{◌≡◌, ◌∙◌, ◌+◌, ◌*◌, ◌/◌, ◌%◌, ◌<◌, ℕ, zero, suc, List, [], ◌∷◌, ◌++◌, refl, sym, ap, subst, arith, zero-add, length, map, flat_map, zip, map-append, length-append, length-map, slice_index_or, get_or-map, get_or_append_left, same_lists, div-add-mod', div_below, range_with_len, length-range_with_len, get_or-range_with_len, length-map-range_with_len, get_or-map-range_with_len, CellValue, ColumnValue, na_cell}},
  std.proofs.{lemmas.List.{get_or-append-add}, Math.Nat.{mod-lt, mul-le-mul_right}},
  meaning_shapes.specs.Reshape.{every_entry, cells_of_row, count_of_rows, cells_by_row},
}

module _ {X Y : Type 0} (f : X → List Y) (m : ℕ) (alike : (x : X) → length (f x) ≡ m) where
  pub length-even : (xs : List X) → length (flat_map f xs) ≡ length xs * m
  length-even [] = omega arith
  length-even (x ∷ xs) = grind (arith, length-append, alike x, length-even xs)

  -- element j of list i
  pub even_at : (xs : List X) (i j : ℕ) (d : X) (e : Y) → i < length xs → j < m → slice_index_or (flat_map f xs) (i * m + j) e ≡ slice_index_or (f (slice_index_or xs i d)) j e
  even_at [] i j d e lt inside = grind arith
  even_at (x ∷ xs) zero j d e lt inside = grind (arith, alike x, get_or_append_left)
  even_at (x ∷ xs) (suc i) j d e lt inside =
      let behind : suc i * m + j ≡ length (f x) + (i * m + j) = grind (arith, alike x) in
      grind (arith, get_or-append-add, even_at xs i j d e)

pub map-flat_map : {X Y Z : Type 0} (g : Y → Z) (f : X → List Y) (xs : List X) → map g (flat_map f xs) ≡ flat_map (λ x. map g (f x)) xs
map-flat_map g f [] = refl
map-flat_map g f (x ∷ xs) = grind (arith, map-append, map-flat_map g f xs)

-- two lists that are seen otherwise, side by side
pub zip_seen : {X Y A B : Type 0} (f : X → A) (g : Y → B) (xs : List X) (ys : List Y) → zip (map f xs) (map g ys) ≡ map (λ z. (f z.0, g z.1)) (zip xs ys)
zip_seen f g [] ys = refl
zip_seen f g (x ∷ xs) [] = refl
zip_seen f g (x ∷ xs) (y ∷ ys) = grind (arith, zip_seen f g xs ys)

-- and the other way round
pub zip_turned : {X Y A B : Type 0} (f : X → A) (g : Y → B) (xs : List X) (ys : List Y) → zip (map g ys) (map f xs) ≡ map (λ z. (g z.1, f z.0)) (zip xs ys)
zip_turned f g [] [] = refl
zip_turned f g [] (y ∷ ys) = refl
zip_turned f g (x ∷ xs) [] = refl
zip_turned f g (x ∷ xs) (y ∷ ys) = grind (arith, zip_turned f g xs ys)

positive : (a b s : ℕ) → s < a * b → 0 < b
positive a zero s lt = omega (arith, lt)
positive a (suc b) s lt = omega arith

-- two lists of so many rows, each of so many elements
pub same_grids : {X : Type 0} (rows width : ℕ) (xs ys : List X) → length xs ≡ rows * width → length ys ≡ rows * width
    → ((r c : ℕ) (d : X) → r < rows → c < width → slice_index_or xs (r * width + c) d ≡ slice_index_or ys (r * width + c) d) → xs ≡ ys
same_grids rows width xs ys size size' each = same_lists xs ys (size ∙ sym size') (λ s d lt.
    let below : s < rows * width = omega (arith, size, lt) in
    let some = positive rows width s below in
    subst (λ n. slice_index_or xs n d ≡ slice_index_or ys n d) (div-add-mod' s width) (each (s / width) (s % width) d (div_below s width rows some below) (mod-lt s some)))

-- every key with every label
module _ {A : Type 0} (rows columns : List (List A)) where
  alike_rows : (row : List A) → length (map (λ column. row ++ column) columns) ≡ length columns
  alike_rows row = length-map columns _

  pub every_counted : length (every_entry rows columns) ≡ length rows * length columns
  every_counted = length-even (λ row. map (λ column. row ++ column) columns) (length columns) alike_rows rows

  module _ (r c : ℕ) (lt : r < length rows) (inside : c < length columns) where
    pub every_within : r * length columns + c < length (every_entry rows columns)
    every_within = omega (arith, every_counted, mul-le-mul_right {m = suc r} {n = length rows} (length columns) lt, inside)

    pub every_at : (d : List A) → slice_index_or (every_entry rows columns) (r * length columns + c) d ≡ slice_index_or rows r [] ++ slice_index_or columns c []
    every_at d = even_at (λ row. map (λ column. row ++ column) columns) (length columns) alike_rows rows r c [] d lt inside ∙ get_or-map (λ column. slice_index_or rows r [] ++ column) columns c [] d inside

-- columns of one height, row by row
module _ (f : ℕ → ColumnValue) (height width : ℕ) (high : (c : ℕ) → length (f c).cells ≡ height) where
  abbrev columns : List ColumnValue
  columns = map f (range_with_len 0 width)

  count_is : (a w : ℕ) → 0 < w → count_of_rows (map f (range_with_len a w)) ≡ height
  count_is a zero some = absurd (omega (arith, some))
  count_is a (suc w) some = high a

  counted : (w : ℕ) → count_of_rows (map f (range_with_len 0 w)) * w ≡ height * w
  counted zero = omega arith
  counted (suc w) = ap (λ n. n * suc w) (count_is 0 (suc w) (omega arith))

  as_wide : (row : ℕ) → length (cells_of_row columns row) ≡ width
  as_wide row = length-map columns _ ∙ length-map-range_with_len f 0 width

  pub by_row_counted : length (cells_by_row columns) ≡ height * width
  by_row_counted = length-even (cells_of_row columns) width as_wide (range_with_len 0 (count_of_rows columns)) ∙ ap (λ n. n * width) (length-range_with_len 0 (count_of_rows columns)) ∙ counted width

  pub by_row_at : (r c : ℕ) (d : CellValue) → r < height → c < width → slice_index_or (cells_by_row columns) (r * width + c) d ≡ slice_index_or (f c).cells r na_cell
  by_row_at r c d lt inside =
      let there : r < count_of_rows columns = omega (arith, count_is 0 width (omega (arith, inside)), lt) in
      even_at (cells_of_row columns) width as_wide (range_with_len 0 (count_of_rows columns)) r c 0 d (omega (arith, length-range_with_len 0 (count_of_rows columns), there)) inside
      ∙ ap (λ n. slice_index_or (cells_of_row columns n) c d) (get_or-range_with_len 0 (count_of_rows columns) r 0 there ∙ zero-add r)
      ∙ get_or-map (λ column. slice_index_or column.cells r na_cell) columns c (f c) d (omega (arith, length-map-range_with_len f 0 width, inside))
      ∙ ap (λ column. slice_index_or column.cells r na_cell) (get_or-map-range_with_len f 0 width c c (f c) inside (omega arith))
