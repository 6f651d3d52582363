-- Series that are aligned to labels: by their numbers as by their texts.
use Rattle.{
  frame_parts.proofs.Common.{map-map, map_more, length-map, fill_by_all, All-map, nat_tests, get_or_from_slice_get, ◌≡◌, refl, sym, arith, ℕ, ◌+◌, ◌<◌, true, false, List, [], ◌∷◌, ◌++◌, map, length, take, nat_eq, All, Option, Some, None, Ok, get_or-map, Decides, ◌≢◌, ◌||◌, slice_get, range_with_len, label_datum, na_cell, LabelValue, datum, IsGiven, AreGiven, Text, taken, Cell, Na, Label, IsPlaceOf, AxisValue, HaveLevels, Table, tuple_value, column_at, same_tuple, same_tuples, labels_value, cells_value, value_decides},
  column_core.proofs.cells.Common.{gap_cell},
  std.proofs.lemmas.Slice.Eq.{slice_eq-Decides},
  frame_select.specs.select.Set.{aligned_rows, aligned_column},
}

-- labels on other numbers of levels are others, unless there are none

tuple_decides : (a b : List LabelValue) → Decides (same_tuple a b) (a ≡ b)
tuple_decides a b = slice_eq-Decides value_decides a b _ refl

pub tuples_decide : (a b : List (List LabelValue)) → Decides (same_tuples a b) (a ≡ b)
tuples_decide a b = slice_eq-Decides tuple_decides a b _ refl

other_rows : (texts : List Text) (a b : List (List Label)) (m n : ℕ) → HaveLevels m a → HaveLevels n b → m ≢ n → length a ≢ 0 → same_tuples (labels_value texts a) (labels_value texts b) ≡ false
other_rows texts (a ∷ as') (b ∷ bs) m n f g = grind (arith, tuple_decides (tuple_value texts a) (tuple_value texts b), f 0 [] (omega arith), g 0 [] (omega arith), length-map a (label_datum texts), length-map b (label_datum texts))
other_rows _ a b m n f g = grind arith

pub rows_apart : (texts : List Text) (a b : AxisValue) (m n count : ℕ) → HaveLevels m a.tuples → HaveLevels n b.tuples → m ≡ length a.names → n ≡ length b.names → count ≡ length a.tuples → m ≢ n → count ≢ 0
    → nat_eq count 0 ≡ (same_tuples (labels_value texts a.tuples) (labels_value texts b.tuples) || nat_eq (length a.names) (length b.names))
rows_apart texts a b m n _ f g as_a as_b is other = grind (arith, nat_tests, other_rows texts a.tuples b.tuples m n f g other)

-- labels that are a Series' own take all its rows

own_rows : (level_count : ℕ) (labels : List (List LabelValue)) (s : Table) → same_tuples labels s.labels ≡ true → aligned_rows level_count labels s ≡ Ok (map Some (range_with_len 0 (length s.labels)))
own_rows = grind (arith, tuples_decide)

module _ {C : Type 0} (na : C) (cells : List C) where
  whole_taken : (count : ℕ) → length cells ≡ count → taken na cells (map Some (range_with_len 0 count)) ≡ cells
  whole_taken _ many = rw map-map (sym (fill_by_all _ cells _ na many (λ row lt. refl)))

pub own_column : (level_count : ℕ) (labels : List (List LabelValue)) (s : Table) → same_tuples labels s.labels ≡ true → length (column_at s.columns 0).cells ≡ length s.labels → aligned_column level_count labels s ≡ Ok (column_at s.columns 0)
own_column = search (own_rows, whole_taken)

-- cells that are taken, with their texts
gap_seen : (texts : List Text) (cells : List Cell) (row : Option ℕ) → datum texts (gap_cell Na cells row) ≡ gap_cell na_cell (cells_value texts cells) row
gap_seen _ _ None = refl
gap_seen texts cells (Some row) = sym (get_or-map (datum texts) cells row Na)

pub taken_seen : (texts : List Text) (cells : List Cell) (rows : List (Option ℕ)) → cells_value texts (taken Na cells rows) ≡ taken na_cell (cells_value texts cells) rows
taken_seen = search (map-map, gap_seen)

gap_given : (texts : List Text) (cells : List Cell) (row : Option ℕ) → AreGiven texts cells → IsPlaceOf (length cells) row → IsGiven texts (gap_cell Na cells row)
gap_given = grind arith

pub taken_given : (texts : List Text) (cells : List Cell) (rows : List (Option ℕ)) → AreGiven texts cells → All (IsPlaceOf (length cells)) rows → AreGiven texts (taken Na cells rows)
taken_given texts cells rows given below =
    All-map (IsGiven texts) (gap_cell Na cells) rows (search gap_given)

-- one row more
pub gap_more : (cells : List Cell) (rows : List (Option ℕ)) (k : ℕ) (row : Option ℕ) (c : Cell) (before after : List Cell) → k < length rows → slice_get rows k ≡ Some row → c ≡ gap_cell Na cells row → before ≡ taken Na cells (take k rows) → after ≡ before ++ c ∷ []
    → after ≡ taken Na cells (take (k + 1) rows)
gap_more cells rows k _ c _ _ lt = grind (arith, map_more (gap_cell Na cells) rows k None lt, get_or_from_slice_get)
