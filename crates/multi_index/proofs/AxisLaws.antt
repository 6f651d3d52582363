-- What becomes of an axis, by what becomes of its levels.
use Rattle.{index_core.{proofs.cells.Common.{◌≡◌, ◌∙◌, ap, sym, arith, ℕ, ◌+◌, ◌<◌, ◌≤◌, Bool, true, false, List, ◌∷◌, [], length, map, take, slice_get, slice_index_or, Option, Some, None, All, length-map, length_push, option_and_then, Label, Text}, specs.Labels.{labels_at}}, multi_index.{specs.{Axes.{AxisValue, at_levels, nameless_axis, single_tuples, taken_axis, tuples_with, with_level, with_one}, Levels.{AreLevels, LevelValue, level_tuples, levels_at, new_levels, row_count, row_tuple, taken_level}}, proofs.{NameLaws.{count_of_names}, LevelTuples.{count_tuples, tuple_of_row, tuples_of_one, tuples_taken, tuples_on, tuples_joined, tuples_kept, new_count}}}}

-- the label of a row at a level
pub label_on : (levels : List LevelValue) (row level : ℕ) (l : Label) → row < row_count levels → slice_get (row_tuple levels row) level ≡ Some l
    → option_and_then (λ tuple. slice_get tuple level) (slice_get (level_tuples levels) row) ≡ Some l
label_on levels row level l lt at = rw (tuple_of_row levels row lt) at

-- an axis without names
pub axis_of_one : (level : LevelValue) → nameless_axis (level_tuples (level ∷ [])) 1 ≡ nameless_axis (single_tuples level.rows) 1
axis_of_one level = ap (λ tuples. nameless_axis tuples 1) (tuples_of_one level)

module _ (levels : List LevelValue) (names : List (Option Label)) (axis : AxisValue) (seen : record { tuples = level_tuples levels; names = take (length levels) names } ≡ axis) where
  pub rows_of_axis : length axis.tuples ≡ row_count levels
  rows_of_axis = rw (sym seen) (count_tuples levels)

  module _ (room : length names ≡ 4) (whole : AreLevels levels) where
    pub levels_of_axis : length levels ≡ length axis.names
    levels_of_axis = count_of_names names axis.names (length levels) (ap (λ (a : AxisValue). a.names) seen) room whole.few

    pub axis_taken : (levels' : List LevelValue) (places : List ℕ) → All (λ place. place < length axis.tuples) places → levels' ≡ map (taken_level places) levels
        → record { tuples = level_tuples levels'; names = take (length levels') names } ≡ taken_axis axis places
    axis_taken levels' places inside is =
        let below : All (λ place. place < row_count levels) places = λ k d lt. omega (arith, inside k d lt, rows_of_axis) in
        rw (is, sym seen) (λ i. record { tuples = tuples_taken places levels whole.some below i; names = take (length-map levels (taken_level places) i) names })

    pub axis_at : (levels' : List LevelValue) (names' : List (Option Label)) (order : List ℕ) → 1 ≤ length order → All (λ k. k < length axis.names) order → levels' ≡ levels_at levels order
        → take (length order) names' ≡ map (λ k. slice_index_or axis.names k None) order
        → record { tuples = level_tuples levels'; names = take (length levels') names' } ≡ at_levels axis order
    axis_at levels' names' order some inside is named =
        let below : All (λ k. k < length levels) order = λ k d lt. omega (arith, inside k d lt, levels_of_axis) in
        let tuples : level_tuples levels' ≡ map (λ tuple. labels_at tuple order) axis.tuples
        = ap level_tuples is ∙ tuples_on levels whole.alike order some below ∙ ap (λ (a : AxisValue). map (λ tuple. labels_at tuple order) a.tuples) seen in
        let count : length levels' ≡ length order = ap length is ∙ length-map order _ in
        λ i. record { tuples = tuples i; names = (ap (λ n. take n names') count ∙ named) i }

    pub axis_with : (levels' : List LevelValue) (names' : List (Option Label)) (new : LevelValue) (outer : Bool) → length new.rows ≡ length axis.tuples → levels' ≡ with_one outer new levels
        → take (length axis.names + 1) names' ≡ with_one outer None axis.names
        → record { tuples = level_tuples levels'; names = take (length levels') names' } ≡ with_level axis new.rows outer
    axis_with levels' names' new outer fits is named =
        let tuples = ap level_tuples is ∙ tuples_joined new levels whole.some (fits ∙ rows_of_axis) outer ∙ ap (λ (a : AxisValue). tuples_with outer new.rows a.tuples) seen in
        let count : length levels' ≡ length axis.names + 1 = ap length is ∙ omega (arith, size outer, levels_of_axis) in
        λ i. record { tuples = tuples i; names = (ap (λ n. take n names') count ∙ named) i }
      where
        size : (outer : Bool) → length (with_one outer new levels) ≡ length levels + 1
        size true = omega arith
        size false = omega (arith, length_push levels new)

pub axis_of_tuples : (texts : List Text) (tuples : List (List Label)) (levels : List LevelValue) (count : ℕ) → 1 ≤ count → All (λ tuple. length tuple ≡ count) tuples → levels ≡ new_levels texts tuples count
    → nameless_axis (level_tuples levels) (length levels) ≡ nameless_axis tuples count
axis_of_tuples texts tuples levels count some alike is = rw is (λ i. nameless_axis (tuples_kept texts tuples count some alike i) (new_count texts tuples count i))
