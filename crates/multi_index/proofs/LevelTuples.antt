-- The tuples of levels.
use Rattle.{index_core.{proofs.cells.Common.{◌≡◌, ◌∙◌, ap, sym, refl, arith, ℕ, zero, suc, ◌+◌, ◌<◌, ◌≤◌, Bool, true, false, List, [], ◌∷◌, ◌++◌, length, map, take, map_more, get_or_from_slice_get, slice_get, slice_index_or, Some, All, All-map, map-map, map-append, length-map, get_or-map, fill_by_all, range_with_len, get_or-map-range_with_len, length-map-range_with_len, map-range_with_len_more, slice_get-get_or, Label, Text}, specs.{Labels.{labels_at}}}, cell_core.specs.declared.cell.Label.TheVariants.{Na}, multi_index.specs.{Axes.{HaveLevels, with_one, single_tuples, tuples_at, tuples_with}, Levels.{LevelValue, labels_on, level_tuples, levels_at, new_level, new_levels, no_level, row_count, row_tuple, taken_level}}}

pub count_tuples : (levels : List LevelValue) → length (level_tuples levels) ≡ row_count levels
count_tuples levels = length-map-range_with_len (row_tuple levels) 0 (row_count levels)

pub tuple_at : (levels : List LevelValue) (row : ℕ) (d : List Label) → row < row_count levels → slice_index_or (level_tuples levels) row d ≡ row_tuple levels row
tuple_at levels row d lt = get_or-map-range_with_len (row_tuple levels) 0 (row_count levels) row row d lt (omega arith)

pub tuple_of_row : (levels : List LevelValue) (row : ℕ) → row < row_count levels → slice_get (level_tuples levels) row ≡ Some (row_tuple levels row)
tuple_of_row levels row lt = slice_get-get_or (level_tuples levels) row [] (omega (arith, count_tuples levels)) ∙ ap Some (tuple_at levels row [] lt)

-- each tuple has a label of each level
pub width : (levels : List LevelValue) (row : ℕ) → length (row_tuple levels row) ≡ length levels
width levels row = length-map levels _

pub tuples_alike : (levels : List LevelValue) → HaveLevels (length levels) (level_tuples levels)
tuples_alike levels = All-map (λ t. length t ≡ length levels) (row_tuple levels) (range_with_len 0 (row_count levels)) (λ k d lt. length-map levels _)

are_tuples : (levels : List LevelValue) (tuples : List (List Label)) → length tuples ≡ row_count levels
    → ((row : ℕ) → row < row_count levels → slice_index_or tuples row [] ≡ row_tuple levels row) → level_tuples levels ≡ tuples
are_tuples levels tuples size at = sym (fill_by_all (row_tuple levels) tuples (row_count levels) [] size at)

-- one level
pub tuples_of_one : (level : LevelValue) → level_tuples (level ∷ []) ≡ single_tuples level.rows
tuples_of_one level =
    are_tuples (level ∷ []) (single_tuples level.rows) (length-map level.rows _) (λ row lt. get_or-map (λ l. l ∷ []) level.rows row Na [] lt)

-- rows at places
module _ (places : List ℕ) where
  pub count_taken : (levels : List LevelValue) → 1 ≤ length levels → row_count (map (taken_level places) levels) ≡ length places
  count_taken [] some = absurd (omega arith)
  count_taken (level ∷ levels) some = length-map places _

  row_taken : (levels : List LevelValue) (row : ℕ) → row < length places → row_tuple (map (taken_level places) levels) row ≡ row_tuple levels (slice_index_or places row 0)
  row_taken levels row lt =
      map-map (λ (level : LevelValue). slice_index_or level.rows row Na) (taken_level places) levels
      ∙ (λ i. map (λ (level : LevelValue). get_or-map (λ place. slice_index_or level.rows place Na) places row 0 Na lt i) levels)

  pub tuples_taken : (levels : List LevelValue) → 1 ≤ length levels → All (λ place. place < row_count levels) places → level_tuples (map (taken_level places) levels) ≡ tuples_at (level_tuples levels) places
  tuples_taken levels some inside =
      let count = count_taken levels some in
      are_tuples _ _ (length-map places _ ∙ sym count)
      (λ row lt.
      let below : row < length places = omega (arith, count) in
      get_or-map (λ place. slice_index_or (level_tuples levels) place []) places row 0 [] below
      ∙ tuple_at levels (slice_index_or places row 0) [] (inside row 0 below)
      ∙ sym (row_taken levels row below))

-- some of the levels
read_row : (levels : List LevelValue) (row k : ℕ) → slice_index_or (row_tuple levels row) k Na ≡ slice_index_or (slice_index_or levels k no_level).rows row Na
read_row [] row k = refl
read_row (level ∷ levels) row zero = refl
read_row (level ∷ levels) row (suc k) = read_row levels row k

module _ (levels : List LevelValue) (alike : All (λ level. length level.rows ≡ row_count levels) levels) where
  pub count_at : (order : List ℕ) → 1 ≤ length order → All (λ k. k < length levels) order → row_count (levels_at levels order) ≡ row_count levels
  count_at [] some inside = absurd (omega arith)
  count_at (k ∷ order) some inside = alike k no_level (inside 0 0 (omega arith))

  row_at : (order : List ℕ) (row : ℕ) → row_tuple (levels_at levels order) row ≡ labels_at (row_tuple levels row) order
  row_at order row =
      map-map (λ (level : LevelValue). slice_index_or level.rows row Na) (λ k. slice_index_or levels k no_level) order
      ∙ (λ i. map (λ k. sym (read_row levels row k) i) order)

  pub tuples_on : (order : List ℕ) → 1 ≤ length order → All (λ k. k < length levels) order → level_tuples (levels_at levels order) ≡ map (λ tuple. labels_at tuple order) (level_tuples levels)
  tuples_on order some inside =
      let count = count_at order some inside in
      let size = count_tuples levels in
      are_tuples _ _ (length-map (level_tuples levels) _ ∙ size ∙ sym count)
      (λ row lt.
      let below : row < row_count levels = omega (arith, count) in
      get_or-map (λ tuple. labels_at tuple order) (level_tuples levels) row [] [] (omega (arith, size))
      ∙ ap (λ tuple. labels_at tuple order) (tuple_at levels row [] below)
      ∙ sym (row_at order row))

-- one level more
joined_count : (outer : Bool) (labels : List Label) (tuples : List (List Label)) → length labels ≡ length tuples → length (tuples_with outer labels tuples) ≡ length tuples
joined_count outer [] [] same = refl
joined_count outer [] (t ∷ tuples) same = search
joined_count outer (l ∷ labels) [] same = search
joined_count outer (l ∷ labels) (t ∷ tuples) same = omega (arith, joined_count outer labels tuples (omega arith))

joined_at : (outer : Bool) (labels : List Label) (tuples : List (List Label)) (row : ℕ) → row < length labels → length labels ≡ length tuples
    → slice_index_or (tuples_with outer labels tuples) row [] ≡ with_one outer (slice_index_or labels row Na) (slice_index_or tuples row [])
joined_at outer [] tuples row lt same = absurd (omega arith)
joined_at outer (l ∷ labels) [] row lt same = search
joined_at outer (l ∷ labels) (t ∷ tuples) zero lt same = refl
joined_at outer (l ∷ labels) (t ∷ tuples) (suc row) lt same = joined_at outer labels tuples row (omega arith) (omega arith)

module _ (new : LevelValue) (levels : List LevelValue) (some : 1 ≤ length levels) (fits : length new.rows ≡ row_count levels) where
  pub count_joined : (outer : Bool) → row_count (with_one outer new levels) ≡ row_count levels
  count_joined true = fits
  count_joined false = first levels some
    where
      first : (levels : List LevelValue) → 1 ≤ length levels → row_count (levels ++ new ∷ []) ≡ row_count levels
      first [] some = absurd (omega arith)
      first (level ∷ levels) some = refl

  row_joined : (outer : Bool) (row : ℕ) → row_tuple (with_one outer new levels) row ≡ with_one outer (slice_index_or new.rows row Na) (row_tuple levels row)
  row_joined true row = refl
  row_joined false row = map-append (λ (level : LevelValue). slice_index_or level.rows row Na) levels (new ∷ [])

  pub tuples_joined : (outer : Bool) → level_tuples (with_one outer new levels) ≡ tuples_with outer new.rows (level_tuples levels)
  tuples_joined outer =
      let size = count_tuples levels in
      let count = count_joined outer in
      are_tuples _ _ (joined_count outer new.rows (level_tuples levels) (fits ∙ sym size) ∙ size ∙ sym count)
      (λ row lt.
      let below : row < row_count levels = omega (arith, count) in
      joined_at outer new.rows (level_tuples levels) row (omega (arith, fits)) (fits ∙ sym size)
      ∙ ap (with_one outer (slice_index_or new.rows row Na)) (tuple_at levels row [] below)
      ∙ sym (row_joined outer row))

-- levels of tuples
module _ (texts : List Text) (tuples : List (List Label)) where
  pub count_new : (count : ℕ) → 1 ≤ count → row_count (new_levels texts tuples count) ≡ length tuples
  count_new zero some = absurd (omega arith)
  count_new (suc count) some = length-map tuples _

  pub tuples_kept : (count : ℕ) → 1 ≤ count → HaveLevels count tuples → level_tuples (new_levels texts tuples count) ≡ tuples
  tuples_kept count some alike =
      let size = count_new count some in
      are_tuples _ _ (sym size)
      (λ row lt.
      let below : row < length tuples = omega (arith, size) in
      fill_by_all (λ k. slice_index_or (slice_index_or tuples row []) k Na) (slice_index_or tuples row []) count Na (alike row [] below) (λ k inside. refl)
      ∙ (λ i. map (λ k. sym (get_or-map (λ tuple. slice_index_or tuple k Na) tuples row [] Na below) i) (range_with_len 0 count))
      ∙ sym (map-map (λ (level : LevelValue). slice_index_or level.rows row Na) (λ k. new_level texts (labels_on k tuples)) (range_with_len 0 count)))

  pub new_count : (count : ℕ) → length (new_levels texts tuples count) ≡ count
  new_count count = length-map-range_with_len (λ k. new_level texts (labels_on k tuples)) 0 count

  pub new_more : (k : ℕ) (made made' : List LevelValue) (level : LevelValue) → made ≡ new_levels texts tuples k → level ≡ new_level texts (labels_on k tuples) → made' ≡ made ++ level ∷ [] → made' ≡ new_levels texts tuples (k + 1)
  new_more k made made' level before is pushed = cc (map-range_with_len_more (λ k. new_level texts (labels_on k tuples)) 0 k k (omega arith))

-- the labels of one tuple more on a level
pub labels_more : (level : ℕ) (tuples : List (List Label)) (k : ℕ) (made made' : List Label) (l : Label) → k < length tuples → slice_get (slice_index_or tuples k []) level ≡ Some l
    → made ≡ labels_on level (take k tuples) → made' ≡ made ++ l ∷ [] → made' ≡ labels_on level (take (k + 1) tuples)
labels_more level tuples k made made' l lt at was pushed =
    rw (map_more (λ tuple. slice_index_or tuple level Na) tuples k [] lt, get_or_from_slice_get (slice_index_or tuples k []) level l Na at) (pushed ∙ ap (λ xs. xs ++ l ∷ []) was)
