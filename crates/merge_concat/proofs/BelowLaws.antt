-- Values behind values, as cells.
use Rattle.{
  column_core.{proofs.{cells.Common.{◌≡◌, ◌+◌, ◌-◌, ℕ, zero, suc, Bool, false, List, [], ◌∷◌, ◌++◌, length, take, replicate, map, refl, arith, Option, None, append_assoc, ◌<◌, ◌≤◌, true, cond, drop, slice_index_or, Some, Ok, Err, nat_lt, take_all, map-append, length-map, take_rest, map-range_with_len_more, length-flat_map, list_all-map, and_parts, All-map, same_from_decides, range_with_len, list_all, flat_map, Bor, Decides, pointwise, Cell, Na, Kind, Label, tabulate, ColumnValue, CellValue, datum}, ColumnLaws.{length-tabulate}, CellRows.{pushed_column}}, specs.{Lanes.{IsPushed}, Columns.{CellColumn, column_value}}},
  std.{proofs.{Common.{lt-ltb, le-ltb}, lemmas.Option.{cond_some}}, specs.List.{All}},
  merge_concat.specs.{Growing.{cells_of_values}, declared.parts.Part.{Part}, Parts.{part_kind, common_kind, cells_below, count_below, whole_of}, Axes.{tuples_of_each}},
  meaning_join.specs.{align.Joins.{most_rows}, Concat.{mixed_kinds, too_large, same_kind, column_below, rows_concatenated, are_equal}},
  multi_index.specs.Axes.{AxisValue},
  row_keys.specs.Keys.{same_tuple},
  factorize.proofs.label_align.SameLaws.{tuples_decide},
}

next_numbers : {C : Type 0} (f g : ℕ → C) → ((k : ℕ) → f (suc k) ≡ g k) → (a n : ℕ) → map f (range_with_len (a + 1) n) ≡ map g (range_with_len a n)
next_numbers f g _ a zero = refl
next_numbers f g same a (suc n) = grind (arith, next_numbers f g same (a + 1) n)

-- a list that is made longer by one item again and again
pub resized : {X : Type 0} (xs : List X) (x : X) (n m count : ℕ) → m ≡ length xs → n ≡ m + count → take n xs ++ replicate (n - m) x ≡ xs ++ replicate count x
resized = grind (arith, take_all)

module _ {T : Type 0} (cell : Option T → Cell) where
  -- the cells of values behind values stand behind theirs
  pub cells_append : (v w : List T) (p q : List Bool) → length p ≡ length v → cells_of_values cell (v ++ w) (p ++ q) ≡ cells_of_values cell v p ++ cells_of_values cell w q
  cells_append [] w [] q e = refl
  cells_append [] w (b ∷ p) q e = search
  cells_append (x ∷ v) w [] q e = search
  cells_append (x ∷ v) w (b ∷ p) q e = grind (arith, next_numbers, cells_append v w p q (omega (arith, e)))

  -- missing ones
  pub cells_missing : cell None ≡ Na → (n : ℕ) (blank : T) → cells_of_values cell (replicate n blank) (replicate n false) ≡ replicate n Na
  cells_missing _ zero _ = refl
  cells_missing missing (suc n) blank = grind (arith, next_numbers, cells_missing missing n blank)

  -- how many rows there are
  pub rows_counted : (values : List T) (present : List Bool) → length (cells_of_values cell values present) ≡ length values
  rows_counted = search length-tabulate

  -- one row more
  pub one_row_more : (kind : Kind) (old : List Cell) (values values' : List T) (present present' : List Bool) (row : ℕ → Option T) (k : ℕ) → IsPushed values present (row k) values' present'
      → cells_of_values cell values present ≡ old ++ tabulate k (λ j. cell (row j)) → cells_of_values cell values' present' ≡ old ++ tabulate (k + 1) (λ j. cell (row j))
  one_row_more kind old values values' present present' row k pushed before = grind (arith, pushed_column kind cell values present (row k) values' present' (cell (row k)) pushed refl, append_assoc old (tabulate k (λ j. cell (row j))) (cell (row k) ∷ []), map-range_with_len_more (λ j. cell (row j)) 0 k k (omega arith))

-- Columns one below the other.

-- the kind of all columns, where the first one is told
pub kind_told : (columns : List CellColumn) (first : CellColumn) (kind : Kind) (told : Bool) → 1 ≤ length columns → first ≡ slice_index_or columns 0 first → kind ≡ first.kind
    → list_all (λ other. same_kind kind other.kind) (take (length columns - 1) (drop 1 columns)) ≡ told → common_kind columns ≡ cond told (Some kind) None
kind_told [] _ _ _ some = absurd (omega arith)
kind_told (column ∷ columns) _ _ _ some = grind (arith, take_rest (column ∷ columns) 1)

all_at_kind : (kind : Kind) (columns : List CellColumn) → list_all (λ other. same_kind kind other.kind) columns ≡ true → All (λ column. column.kind ≡ kind) columns
all_at_kind _ [] all = grind arith
all_at_kind kind (column ∷ columns) all = grind (arith, all_at_kind kind columns, and_parts)

-- each column is of the kind
pub kinds_alike : (columns : List CellColumn) (kind : Kind) → common_kind columns ≡ Some kind → All (λ column. column.kind ≡ kind) columns
kinds_alike [] _ is = grind arith
kinds_alike (column ∷ columns) _ is =
    let told = cond_some (list_all (λ other. same_kind column.kind other.kind) columns) _ _ is in
    grind (arith, all_at_kind)

pub wholes_alike : (columns : List CellColumn) (parts : List Part) (kind : Kind) → parts ≡ map whole_of columns → common_kind columns ≡ Some kind → All (λ part. part_kind kind part ≡ kind) parts
wholes_alike columns _ kind are is = rw are (All-map (λ part. part_kind kind part ≡ kind) whole_of columns (kinds_alike columns kind is))

module _ (texts : List (List ℕ)) where
  abbrev pub value_of : CellColumn → ColumnValue
  value_of = column_value texts

  pub kinds_seen : (kind : Kind) (columns : List CellColumn) → list_all (λ other. same_kind kind other.kind) (map value_of columns) ≡ list_all (λ other. same_kind kind other.kind) columns
  kinds_seen _ [] = refl
  kinds_seen kind (column ∷ columns) = cc (kinds_seen kind columns)

  cells_seen : (columns : List CellColumn) → flat_map (λ (c : ColumnValue). c.cells) (map value_of columns) ≡ map (datum texts) (cells_below (map whole_of columns))
  cells_seen [] = refl
  cells_seen (column ∷ columns) = search (map-append, cells_seen columns)

  abbrev pub column_if : Option Kind → List CellValue → Option ColumnValue
  column_if None cells = None
  column_if (Some kind) cells = Some record { kind = kind; cells = cells }

  below_is : (columns : List CellColumn) → column_below (map value_of columns) ≡ column_if (common_kind columns) (map (datum texts) (cells_below (map whole_of columns)))
  below_is [] = refl
  below_is (column ∷ columns) = grind (arith, kinds_seen column.kind columns, cells_seen (column ∷ columns))

  size : (parts : List Part) → length (map (datum texts) (cells_below parts)) ≡ count_below parts
  size = search (length-map, length-flat_map)

  -- what is answered
  pub is_mixed : (columns : List CellColumn) → common_kind columns ≡ None → rows_concatenated {K = List Label} (map value_of columns) ≡ Err mixed_kinds
  is_mixed columns none = cc (below_is columns)

  module _ (columns : List CellColumn) (parts : List Part) (are : parts ≡ map whole_of columns) (kind : Kind) (found : common_kind columns ≡ Some kind) where
    abbrev made : ColumnValue
    made = record { kind = kind; cells = map (datum texts) (cells_below parts) }

    within : (b : Bool) → nat_lt most_rows (count_below parts) ≡ b → rows_concatenated {K = List Label} (map value_of columns) ≡ cond b (Err too_large) (Ok made)
    within = grind (arith, below_is, size)

    pub is_too_large : most_rows < count_below parts → rows_concatenated {K = List Label} (map value_of columns) ≡ Err too_large
    is_too_large lt = search (within, lt-ltb)

    pub is_made : (column : CellColumn) → count_below parts ≤ most_rows → column ≡ record { kind = kind; cells = cells_below parts } → rows_concatenated {K = List Label} (map value_of columns) ≡ Ok (column_value texts column)
    is_made _ few is = cc (within false (le-ltb most_rows (count_below parts) few))

-- Axes that all have the labels of the first.

-- whether an axis has the labels of another
abbrev pub has_labels_of : Bor AxisValue → Bor AxisValue → Bool
has_labels_of first other = pointwise same_tuple first.now.tuples other.now.tuples

pub labels_told : (a b : List (List Label)) (told : Bool) → Decides told (a ≡ b) → pointwise same_tuple a b ≡ told
labels_told = search (same_from_decides, tuples_decide)

pub equal_told : (axes : List (Bor AxisValue)) (first : Bor AxisValue) (told : Bool) → 1 ≤ length axes → first ≡ slice_index_or axes 0 first → list_all (has_labels_of first) (take (length axes - 1) (drop 1 axes)) ≡ told
    → are_equal same_tuple (tuples_of_each axes) ≡ told
equal_told [] = search
equal_told (axis ∷ axes) = grind (arith, list_all-map (pointwise same_tuple axis.now.tuples) (λ a. a.now.tuples) axes, take_rest (axis ∷ axes) 1)
