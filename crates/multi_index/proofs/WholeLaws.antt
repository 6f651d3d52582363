-- Levels of as many rows, one to four.
use Rattle.{index_core.proofs.cells.Common.{◌≡◌, ◌∙◌, sym, refl, arith, ℕ, ◌+◌, ◌<◌, ◌≤◌, Bool, true, false, List, [], ◌∷◌, length, map, slice_index_or, All, All-map, All-cons, All-nil, All-push, length-map, length_push, length-map-range_with_len, range_with_len, Label, Text}, multi_index.{specs.{Axes.{with_one}, Levels.{AreLevels, LevelValue, labels_on, levels_at, new_level, new_levels, no_level, row_count, taken_level}}, proofs.LevelTuples.{count_taken, count_at, count_joined, count_new}}}

pub whole_one : (level : LevelValue) → AreLevels (level ∷ [])
whole_one level = record {
  some = omega arith;
  few = omega arith;
  alike = All-cons (λ (l : LevelValue). length l.rows ≡ length level.rows) level [] refl (All-nil _);
}

pub whole_new : (texts : List Text) (tuples : List (List Label)) (count : ℕ) → 1 ≤ count → count ≤ 4 → AreLevels (new_levels texts tuples count)
whole_new texts tuples count some few =
    let size : length (new_levels texts tuples count) ≡ count = length-map-range_with_len _ 0 count in
    record {
      some = omega (arith, size);
      few = omega (arith, size);
      alike = All-map (λ (l : LevelValue). length l.rows ≡ row_count (new_levels texts tuples count)) (λ k. new_level texts (labels_on k tuples)) (range_with_len 0 count)
          (λ k d lt. length-map tuples _ ∙ sym (count_new texts tuples count some));
    }

pub whole_taken : (places : List ℕ) (levels : List LevelValue) → AreLevels levels → AreLevels (map (taken_level places) levels)
whole_taken places levels whole =
    let size : length (map (taken_level places) levels) ≡ length levels = length-map levels _ in
    record {
      some = omega (arith, size, whole.some);
      few = omega (arith, size, whole.few);
      alike = All-map (λ (l : LevelValue). length l.rows ≡ row_count (map (taken_level places) levels)) (taken_level places) levels
          (λ k d lt. length-map places _ ∙ sym (count_taken places levels whole.some));
    }

pub whole_at : (levels : List LevelValue) (order : List ℕ) → AreLevels levels → 1 ≤ length order → length order ≤ 4 → All (λ k. k < length levels) order → AreLevels (levels_at levels order)
whole_at levels order whole some few inside =
    let size : length (levels_at levels order) ≡ length order = length-map order _ in
    record {
      some = omega (arith, size);
      few = omega (arith, size);
      alike = All-map (λ (l : LevelValue). length l.rows ≡ row_count (levels_at levels order)) (λ k. slice_index_or levels k no_level) order
          (λ k d lt. whole.alike _ no_level (inside k d lt) ∙ sym (count_at levels whole.alike order some inside));
    }

pub whole_with : (outer : Bool) (new : LevelValue) (levels : List LevelValue) → AreLevels levels → length levels < 4 → length new.rows ≡ row_count levels → AreLevels (with_one outer new levels)
whole_with outer new levels whole few fits =
    let count = count_joined new levels whole.some fits outer in
    let P : LevelValue → Type 0 = λ l. length l.rows ≡ row_count (with_one outer new levels) in
    let old : All P levels = λ k d lt. whole.alike k d lt ∙ sym count in
    record {
      some = omega (arith, size outer);
      few = omega (arith, size outer);
      alike = all outer P (fits ∙ sym count) old;
    }
  where
    size : (outer : Bool) → length (with_one outer new levels) ≡ length levels + 1
    size true = omega arith
    size false = omega (arith, length_push levels new)

    all : (outer : Bool) (P : LevelValue → Type 0) → P new → All P levels → All P (with_one outer new levels)
    all true P one rest = All-cons P new levels one rest
    all false P one rest = All-push P levels new rest one

pub two_with : (outer : Bool) (new : LevelValue) (levels : List LevelValue) → 1 ≤ length levels → 2 ≤ length (with_one outer new levels)
two_with true new levels some = omega (arith, some)
two_with false new levels some = omega (arith, some, length_push levels new)
