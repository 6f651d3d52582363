-- Columns that an argument names, and a frame without them.
use Rattle.{
  frame_parts.proofs.Common.{◌≡◌, append-nil, refl, arith, ℕ, ◌+◌, ◌<◌, Bool, true, false, nat_eq, List, [], ◌∷◌, length, take, set, slice_get, All, Some, Result, nat_tests, length-map, length-set, take_more, get_or-set_same, get_or-set_other, All-filter, filter-append, list_any-append, get_or_from_slice_get, not, filter, list_any, range_with_len, Text, FaultValue, NumberedTable, Table, table_value, OpFault},
  meaning_method.specs.Rows.{all_places, places_besides},
  frame_select.proofs.PickedLaws.{one_more_place, places_inside},
  frame_labels.specs.Named.{FindsPlaces, AreMarks},
}

-- another name of the table, and another wording of what is meant
pub found_at : (texts : List Text) (source t : NumberedTable) (r : Result (List ℕ) OpFault) (meant : Table → Result (List ℕ) FaultValue) (meant' : Result (List ℕ) FaultValue) → source ≡ t → meant (table_value texts t) ≡ meant'
    → FindsPlaces texts source r (meant (table_value texts source)) → FindsPlaces texts t r meant'
found_at = grind arith

-- marks of places
pub marks_more : (marks marks' : List Bool) (limit k place : ℕ) (places : List ℕ) → AreMarks marks limit (take k places) → k < length places → slice_get places k ≡ Some place → place < limit → marks' ≡ set marks place true
    → AreMarks marks' limit (take (k + 1) places)
marks_more marks marks' limit k place places before lt at inside written =
    rw (take_more places k 0 lt, get_or_from_slice_get places k place 0 at, written) (record {
      count = grind (arith, length-set, before.count);
      each = λ other below. grind (arith, nat_tests, list_any-append (nat_eq other) (take k places) (place ∷ []), get_or-set_same marks place true false, get_or-set_other marks place other true false, before.count, before.each other below);
    })

-- the places that aren't marked
abbrev pub is_other : List ℕ → ℕ → Bool
is_other places place = not (list_any (nat_eq place) places)

pub other_same : (places : List ℕ) (place : ℕ) (mark : Bool) (others : List ℕ) → mark ≡ list_any (nat_eq place) places → mark ≡ true → others ≡ filter (is_other places) (range_with_len 0 place)
    → others ≡ filter (is_other places) (range_with_len 0 (place + 1))
other_same = grind (arith, append-nil, one_more_place, filter-append)

pub others_inside : (places others : List ℕ) (count limit : ℕ) → others ≡ filter (is_other places) (range_with_len 0 count) → count ≡ limit → All (λ place. place < limit) others
others_inside _ _ _ limit is same = rw is (All-filter _ (λ place. place < limit) _ (places_inside _ _ _ refl same))

pub others_meant : (texts : List Text) (t : NumberedTable) (places others : List ℕ) (count : ℕ) → others ≡ filter (is_other places) (range_with_len 0 count) → count ≡ length t.columns → others ≡ places_besides (table_value texts t) places
others_meant = grind (arith, length-map)

pub all_are : (texts : List Text) (t : NumberedTable) (places : List ℕ) (count : ℕ) → places ≡ range_with_len 0 count → count ≡ length t.columns → places ≡ all_places (table_value texts t)
all_are = grind (arith, length-map)
