-- How many different columns are reached.
use Rattle.{frame_parts.proofs.Common.{◌≡◌, arith, ℕ, suc, ◌+◌, ◌<◌, Bool, true, false, nat_eq, List, ◌∷◌, length, drop, set, slice_get, slice_index_or, Some, list_any, nat_tests, length-set, drop_more, get_or-set_same, get_or-set_other, get_or_from_slice_get}, frame_select.specs.charge.Charge.{different_count}}

-- which numbers below a limit are among these
pub record AreMarks (marks : List Bool) (limit : ℕ) (places : List ℕ) : Type 0 where
  pub count : length marks ≡ limit
  pub each : (place : ℕ) → place < limit → slice_index_or marks place false ≡ list_any (nat_eq place) places

-- the places from one on, where it stands in front
places_from : (places : List ℕ) (k place : ℕ) → k < length places → slice_get places k ≡ Some place → drop k places ≡ place ∷ drop (k + 1) places
places_from places k place lt at = rw (get_or_from_slice_get places k place 0 at) at (drop_more places k 0 lt)

module _ (marks : List Bool) (limit k place : ℕ) (places : List ℕ) (before : AreMarks marks limit (drop (k + 1) places)) (lt : k < length places) (at : slice_get places k ≡ Some place) (inside : place < limit) where
  pub marks_later : (marks' : List Bool) → marks' ≡ set marks place true → AreMarks marks' limit (drop k places)
  marks_later marks' written =
      rw (places_from places k place lt at, written) (record {
        count = grind (arith, length-set, before.count);
        each = λ other below. grind (arith, nat_tests, get_or-set_same marks place true false, get_or-set_other marks place other true false, before.count, before.each other below);
      })

  -- one that stands again later
  pub marks_again : slice_index_or marks place false ≡ true → AreMarks marks limit (drop k places)
  marks_again again =
      rw (places_from places k place lt at) (record {
        count = before.count;
        each = λ other below. grind (arith, nat_tests, before.each other below, before.each place inside);
      })

  pub count_later : slice_index_or marks place false ≡ false → different_count (drop k places) ≡ suc (different_count (drop (k + 1) places))
  count_later new = grind (arith, places_from places k place lt at, before.each place inside)

  pub count_again : slice_index_or marks place false ≡ true → different_count (drop k places) ≡ different_count (drop (k + 1) places)
  count_again again = grind (arith, places_from places k place lt at, before.each place inside)
