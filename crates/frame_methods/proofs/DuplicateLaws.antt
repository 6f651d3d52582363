-- Numbers that tell rows apart, and marks of the rows that an earlier row equals.
use Rattle.{
  frame_parts.proofs.Common.{◌≡◌, ◌∙◌, append_assoc, refl, ap, sym, arith, rules, ℕ, zero, suc, ◌+◌, ◌<◌, ◌≤◌, Bool, true, ◌&&◌, ◌||◌, nat_eq, List, [], ◌∷◌, ◌++◌, map, length, drop, set, slice_index_or, slice_get, All, Some, None, Ok, get_or-map, nat_tests, length-map, length-set, drop_more, get_or-set_same, get_or-set_other, All-map, list_any-append, map-map, slice_get_within, get_or_from_slice_get, slice_index, not, Decides, pointwise, AllByRecursion as ByRecursion, list_any, range_with_len, IsDistinct, AreDistinct, Cell, Boolean, Series, CellColumn, na_cell, datum, IsGiven, same_cell, Text, AxisValue, ColumnOf, NumberedTable, column_at, no_column, table_value, within_limits, table_with, axis_of, table_column, Makes, IsKnownTable, columns_part, columns_given, level_names_part, labels_part, columns_settled, table_settled},
  column_core.proofs.cells.Common.{cases_eq, same_from_decides, recursion_from_All, apart_from_distinct},
  indexmap.specs.IndexSet.{insert_key},
  frame_labels.{specs.{method.Rows.{cells_by_row, repeats}, Rows.{row_cells}}, proofs.{RowLaws.{cells_in, by_rows}, TableLaws.{limited_within}}},
  column_operators.specs.Marks.{same_number},
  frame_select.{specs.Across.{cell_across}, proofs.{AnswerLaws.{column_seen}, PickedLaws.{listed_is, places_inside}}},
  frame_methods.{specs.Rows.{AreNumbers, duplicated_among}, proofs.ListedLaws.{cell_by_number}},
}
use Rattle.cell_core.specs.declared.cell.Cell.TheVariants as cell

-- a number and a cell as a key
abbrev pub Key : Type 0
Key = ℕ × Cell

abbrev pub same_key : Key → Key → Bool
same_key a b = nat_eq a.0 b.0 && same_number a.1 b.1

key_decides : (a b : Key) → Decides (same_key a b) (a ≡ b)
key_decides = search rules

-- the keys so far have numbers, at which they stand among the different ones; those that are left have the old numbers
pub record AreNumbered (old : List ℕ) (cells : List Cell) (row : ℕ) (numbers : List ℕ) (keys : List Key) : Type 0 where
  pub count : length numbers ≡ length old
  pub later : (k : ℕ) → row ≤ k → slice_index numbers k ≡ slice_index old k
  pub told : (k : ℕ) → k < row → slice_get keys (slice_index numbers k) ≡ Some (slice_index old k, slice_index_or cells k cell.Na)
  pub unique : IsDistinct same_key keys

-- a key stays where it stands
kept_place : (xs ys : List Key) (i : ℕ) (x : Key) → slice_get xs i ≡ Some x → slice_get (xs ++ ys) i ≡ Some x
kept_place [] _ i x at = cc
kept_place (k ∷ ks) _ zero x at = at
kept_place (k ∷ ks) ys (suc i) x at = kept_place ks ys i x at

pub numbered_more : (old : List ℕ) (cells : List Cell) (row number : ℕ) (c : Cell) (numbers : List ℕ) (keys keys' : List Key) (stored : Key) → AreNumbered old cells row numbers keys → row < length old
    → c ≡ slice_index_or cells row cell.Na → keys' ≡ insert_key same_key keys (slice_index numbers row, c) → slice_get keys' number ≡ Some stored → same_key (slice_index numbers row, c) stored ≡ true
    → IsDistinct same_key keys' → AreNumbered old cells (row + 1) (set numbers row number) keys'
numbered_more old cells row number c numbers keys keys' stored so_far lt here keyed at same unique =
    let this : stored ≡ (slice_index old row, slice_index_or cells row cell.Na) = sym ((key_decides _ stored).0 same) ∙ (λ j. (so_far.later row (omega arith) j, here j)) in
    record {
      count = grind (arith, length-set);
      later = grind (arith, get_or-set_other);
      told = λ k below. grind (arith, cases_eq k row, so_far.count, get_or-set_same, get_or-set_other, kept_place, this);
      unique = unique;
    }

-- different keys stand at different places
not_before : (keys : List Key) (a b : ℕ) (x : Key) → IsDistinct same_key keys → slice_get keys a ≡ Some x → slice_get keys b ≡ Some x → a < b → ⊥
not_before keys a b x unique at_a at_b lt = grind (arith, apart_from_distinct _ _ a b x unique lt (slice_get_within keys b x at_b), get_or_from_slice_get _ a x x at_a, get_or_from_slice_get _ b x x at_b, key_decides)

one_place : (keys : List Key) (a b : ℕ) (x : Key) → IsDistinct same_key keys → slice_get keys a ≡ Some x → slice_get keys b ≡ Some x → a ≡ b
one_place = grind (arith, not_before)

places_apart : (keys : List Key) (a b : ℕ) (x y : Key) → IsDistinct same_key keys → slice_get keys a ≡ Some x → slice_get keys b ≡ Some y → nat_eq a b ≡ same_key x y
places_apart = search (rules, same_from_decides, nat_eq, slice_get, one_place, key_decides)

-- lists that are equal but for their last elements
pointwise_more : {C : Type 0} (same : C → C → Bool) (f g : ℕ → C) (places : List ℕ) (place : ℕ)
    → pointwise same (map f (places ++ place ∷ [])) (map g (places ++ place ∷ [])) ≡ (pointwise same (map f places) (map g places) && same (f place) (g place))
pointwise_more _ f g [] _ = grind arith
pointwise_more same f g (p ∷ ps) place = grind (arith, pointwise_more same f g ps place)

-- one column more
pub numbers_more : (t : NumberedTable) (place row : ℕ) (column : ColumnOf Cell) (old numbers : List ℕ) (keys : List Key) → column_at t.columns place ≡ column → length t.labels ≤ row → AreNumbered old column.cells row numbers keys
    → (places : List ℕ) → AreNumbers t places old → AreNumbers t (places ++ place ∷ []) numbers
numbers_more t place row column old numbers keys is end done places before = record {
  count = search;
  equal = λ i j hi hj. grind (arith, places_apart _ _ _ _ _ done.unique (done.told i (omega (arith, hi, end))) (done.told j (omega (arith, hj, end))), before.equal i j hi hj, pointwise_more same_number (cell_across t i) (cell_across t j) places place);
}

-- whether each number stands earlier, from one on
repeats_seen : {X : Type 0} (same : X → X → Bool) (a b xs : List X) → ((x : X) → list_any (same x) a ≡ list_any (same x) b) → repeats same a xs ≡ repeats same b xs
repeats_seen _ a b [] _ = refl
repeats_seen same a b (x ∷ xs) alike = grind (arith, alike, repeats_seen same (x ∷ a) (x ∷ b) xs)

key_seen : (seen : List ℕ) (x y : ℕ) → (nat_eq y x || list_any (nat_eq y) seen) ≡ list_any (nat_eq y) (insert_key nat_eq seen x)
key_seen = grind (arith, nat_eq, nat_tests, list_any-append)

pub marks_more : (numbers seen seen' : List ℕ) (cells cells' : List Cell) (i x : ℕ) (is_new : Bool) (whole : List Cell) → i < length numbers → x ≡ slice_index numbers i → is_new ≡ not (list_any (nat_eq x) seen)
    → seen' ≡ insert_key nat_eq seen x → cells' ≡ cells ++ cell.Bool (not is_new) ∷ [] → cells ++ map cell.Bool (repeats nat_eq seen (drop i numbers)) ≡ whole
    → cells' ++ map cell.Bool (repeats nat_eq seen' (drop (i + 1) numbers)) ≡ whole
marks_more = grind (arith, nat_eq, append_assoc, repeats_seen, key_seen, drop_more)

-- rows that are told apart alike repeat alike
module _ {X Y : Type 0} (n : ℕ) (same : X → X → Bool) (same' : Y → Y → Bool) (f : ℕ → X) (g : ℕ → Y) (alike : (i j : ℕ) → i < n → j < n → same (f i) (f j) ≡ same' (g i) (g j)) where
  any_alike : (r : ℕ) (bs : List ℕ) → r < n → ByRecursion (λ row. row < n) bs → list_any (same (f r)) (map f bs) ≡ list_any (same' (g r)) (map g bs)
  any_alike _ [] _ _ = refl
  any_alike r (b ∷ bs) here inside = grind (arith, alike r b, any_alike r bs)

  repeats_alike : (before rows : List ℕ) → ByRecursion (λ row. row < n) before → ByRecursion (λ row. row < n) rows → repeats same (map f before) (map f rows) ≡ repeats same' (map g before) (map g rows)
  repeats_alike _ [] _ _ = refl
  repeats_alike before (r ∷ rs) below all = grind (arith, any_alike r before, repeats_alike (r ∷ before) rs)

-- the cells of two rows are the same by number where they are so with texts
row_by_number : (texts : List Text) (t : NumberedTable) (i j : ℕ) (places : List ℕ) → AreDistinct texts → IsKnownTable texts t → ByRecursion (λ place. place < length t.columns) places → i < length t.labels → j < length t.labels
    → pointwise same_number (row_cells t places i) (row_cells t places j) ≡ pointwise same_cell (cells_in (table_value texts t) places i) (cells_in (table_value texts t) places j)
row_by_number _ t i j [] distinct known inside hi hj = refl
row_by_number texts t i j (p ∷ ps) distinct known inside hi hj =
    grind (arith, cell_by_number texts _ _ distinct (given i hi) (given j hj), seen i, seen j, row_by_number texts t i j ps distinct known inside.1 hi hj)
  where
    given : (row : ℕ) → row < length t.labels → IsGiven texts (cell_across t row p)
    given _ lt = grind (arith, columns_given _ _ (columns_part texts t known.given) p no_column inside.0)

    seen : (row : ℕ) → datum texts (cell_across t row p) ≡ slice_index_or (column_at (table_value texts t).columns p).cells row na_cell
    seen row = cc (get_or-map (datum texts) (column_at t.columns p).cells row cell.Na, column_seen texts t.columns p)

-- as many marks as rows
pub repeats_count : {X : Type 0} (same : X → X → Bool) (before xs : List X) → length (repeats same before xs) ≡ length xs
repeats_count _ _ [] = refl
repeats_count same _ (x ∷ xs) = ap suc (repeats_count same _ xs)

-- marks by numbers are marks of rows
marks_alike : (texts : List Text) (t : NumberedTable) (places numbers : List ℕ) → AreDistinct texts → IsKnownTable texts t → All (λ place. place < length t.columns) places → AreNumbers t places numbers
    → repeats nat_eq [] numbers ≡ repeats (pointwise same_cell) [] (cells_by_row (table_value texts t) places)
marks_alike texts t places numbers distinct known inside told =
    let n = length t.labels in
    let listed : numbers ≡ map (slice_index numbers) (range_with_len 0 n) = grind (arith, listed_is numbers 0, told.count) in
    ap (repeats nat_eq []) listed
    ∙ repeats_alike n _ _ _ (cells_in (table_value texts t) places) (λ i j hi hj. told.equal i j hi hj ∙ row_by_number _ t i j _ distinct known (recursion_from_All (λ place. place < length t.columns) places inside) hi hj)
    [] _ tt (recursion_from_All (λ row. row < n) _ (places_inside (range_with_len 0 n) n n refl refl))
    ∙ ap (repeats (pointwise same_cell) []) (grind (arith, cells_in, length-map, by_rows))

abbrev marks_table : AxisValue → CellColumn → NumberedTable
marks_table axis marks = table_with Series axis record { columns_name = None; labels = None ∷ [] } (table_column marks ∷ [])

pub duplicated_made : (texts : List Text) (t made : NumberedTable) (axis : AxisValue) (marks : CellColumn) (places numbers : List ℕ) → AreDistinct texts → IsKnownTable texts t → All (λ place. place < length t.columns) places
    → AreNumbers t places numbers → marks.kind ≡ Boolean → marks.cells ≡ map cell.Bool (repeats nat_eq [] numbers) → within_limits (length t.labels) 1 ≡ true → axis ≡ axis_of t → made ≡ marks_table axis marks
    → Makes texts (Ok made) (duplicated_among (table_value texts t) places)
duplicated_made texts t _ axis marks places numbers distinct known inside told kind cells within same is = (
  grind (arith, limited_within, length-map, marks_alike texts t places numbers distinct known inside told, map-map (datum texts) cell.Bool (repeats nat_eq [] numbers)),
  rw (is, same)
      (table_settled _ (marks_table (axis_of t) marks) (λ more. refl) (level_names_part _ t known.given) (labels_part _ t known.given) (λ more. refl)
      (columns_settled _ (table_column marks ∷ []) (grind (arith, All-map (IsGiven texts) cell.Bool (repeats nat_eq [] numbers) (λ k d lt. tt))))),
)
