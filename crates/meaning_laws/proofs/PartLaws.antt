-- A slice picks no more rows than there are, and none as a single one.
use Rattle.{
  meaning_script.{proofs.{cells.Common.{◌≡◌, refl, subst, ℕ, zero, suc, ◌+◌, ◌-◌, ◌*◌, ◌<◌, ◌≤◌, ℤ, pos, negsuc, List, [], ◌∷◌, length, arith, length-range_with_len, length-map-range_with_len, Bool, true, false, Option, Some, None, Result, Ok, IfOk, Shape, Series, Frame, div_ceil, Ordering, Rows, place_from, label_cmp, Accessor, FaultValue}, pick.{InsideLaws.{ok_same, went_on, end_inside}, PositionLaws.{taken_before, before_within, through_within}}}, specs.{cells.Symbol.{loc, iloc, at, iat}, tables.{Table.{Table}, Value.{Given, GivenSub, key_given, span_given, nothing, one, many, cell}}, charge.Charge.{is_free_item, is_free_access, is_free_selection}, form.Given.{same_label}, pick.{Faults.{PickFault}, Leading.{leading_cmp}, Rows.{rows_where, rows_of}, Slices.{label_slice, slice_on}, Positions.{rows_before, rows_through, bound_or, slice_with_step, step_or_one, position_slice}, Keys.{LabelKey, between, PlaceKey, place_slice, Pick, sliced_pick, picked_by_label, picked_by_place}}, select.{Keys.{Reach, label_bound, span_between, label_span, label_pick, found_pick, found_labels, place_bound, place_pick, rows_by, loc_columns, columns_by, rows_by_two, all_rows_of, all_columns, only_column, may_stand_alone, reach_of, reach_by}, Select.{column_reach, item_reach, is_truth_list, Way, plain, through, way_reach}}}},
  std.proofs.Math.Nat.{mul-le-mul_left},
  meaning_laws.proofs.{Words.{Tuple}, ListLaws.{then_keeps, any_then, if_keeps, where_keeps}, ReachLaws.{found_is}},
}

-- a pick of no more rows than there are, and of no single one
pub record IsPart (count : ℕ) (p : Pick) : Type 0 where
  pub several : p.single ≡ false
  pub few : length p.rows ≤ count

-- rows that pass a test
fewer : {X : Type 0} (p : X → Bool) (row : ℕ) (xs : List X) → length (rows_where p row xs) ≤ length xs
fewer p row [] = omega arith
fewer p row (x ∷ xs) = grind (arith, fewer p (row + 1) xs)

-- a slice by labels
label_few : {X : Type 0} (cmp : X → X → Ordering) (lower upper : Option X) (xs : List X) (rows : List ℕ) → label_slice cmp lower upper xs ≡ Ok rows → length rows ≤ length xs
label_few = grind (arith, ok_same, fewer, went_on, length-range_with_len, end_inside)

slice_few : {X : Type 0} (levels : ℕ) (cmp : X → X → Ordering) (lower upper : Option X) (xs : List X) (rows : List ℕ) → slice_on levels cmp lower upper xs ≡ Ok rows → length rows ≤ length xs
slice_few = grind (arith, label_few, ok_same, fewer, length-range_with_len)

module _ (levels : ℕ) (tuples : List Tuple) where
  abbrev FindsPart : LabelKey Tuple → Type 0
  FindsPart key = IfOk (found_labels levels tuples key) (IsPart (length tuples))

  between_part : (lower upper : Option Tuple) → FindsPart (between lower upper)
  between_part lower upper =
      found_is (IsPart (length tuples)) (picked_by_label same_label label_cmp levels tuples (between lower upper))
      (λ p e. went_on (slice_on levels (leading_cmp label_cmp) lower upper tuples) (λ rows. Ok (sliced_pick rows)) p (IsPart (length tuples) p)
      (λ rows is made. subst (IsPart (length tuples)) (ok_same _ _ made) record { several = refl; few = slice_few levels (leading_cmp label_cmp) lower upper tuples rows is }) e)

  span_part : (lower upper : Option Tuple) → FindsPart (span_between lower upper)
  span_part None None = record { several = refl; few = omega (arith, length-range_with_len 0 (length tuples)) }
  span_part (Some a) upper = between_part (Some a) upper
  span_part None (Some b) = between_part None (Some b)

  labels_part : (from to by : Given) → IfOk (label_pick levels tuples (span_given from to by)) (IsPart (length tuples))
  labels_part from to nothing =
      then_keeps FindsPart (IsPart (length tuples)) (label_span levels from to) (found_labels levels tuples)
      (any_then FindsPart (label_bound levels from) _ (λ lower. any_then FindsPart (label_bound levels to) _ (λ upper. span_part lower upper)))
      (λ key h. h)
  labels_part from to by = tt

-- a slice by positions
steps_few : (count distance : ℕ) → 0 < distance → div_ceil count distance ≤ count
steps_few count distance some = by (div_ceil count distance) refl
  where
    by : (steps : ℕ) → div_ceil count distance ≡ steps → steps ≤ count
    by zero e = omega arith
    by (suc k) e =
        let last : k * distance < count = taken_before count distance k some (omega arith) in
        let wide : k * 1 ≤ k * distance = mul-le-mul_left k some in
        omega arith

spaced_few : (low high n count : ℕ) → high ≤ count → div_ceil (high - low) (suc n) ≤ count
spaced_few low high n count le =
    let few : div_ceil (high - low) (suc n) ≤ high - low = steps_few (high - low) (suc n) (omega arith) in
    omega arith

positions_few : {K : Type 0} (count : ℕ) (from to : Option ℤ) (step : ℤ) (rows : Rows) → ◌≡◌ {A = Result Rows (PickFault K)} (slice_with_step count from to step) (Ok rows) → rows.count ≤ count
positions_few _ _ _ (pos zero) _ e = cc
positions_few {K} count from to (pos (suc n)) _ e =
    subst (λ (r : Rows). r.count ≤ count) (ok_same _ _ e) (spaced_few (bound_or (rows_before count) 0 from) (bound_or (rows_before count) count to) n count (before_within count to count (omega arith)))
positions_few {K} count from to (negsuc n) _ e =
    subst (λ (r : Rows). r.count ≤ count) (ok_same _ _ e) (spaced_few (bound_or (rows_through count) 0 to) (bound_or (rows_through count) count from) n count (through_within count from count (omega arith)))

pub places_part : (count : ℕ) (from to step : Option ℤ) (p : Pick) → picked_by_place {K = Tuple} count (place_slice from to step) ≡ Ok p → IsPart count p
places_part count from to step p e =
    went_on (position_slice count from to step) (λ rows. Ok (sliced_pick (rows_of rows))) p (IsPart count p)
    (λ rows is made.
    let few = positions_few count from to (step_or_one step) rows is in
    subst (IsPart count) (ok_same _ _ made) record { several = refl; few = omega (arith, length-map-range_with_len (place_from rows.start rows.step) 0 rows.count) })
    e

place_part : (count : ℕ) (from to by : Given) → IfOk (place_pick count (span_given from to by)) (IsPart count)
place_part count from to by =
    let finds = λ (key : PlaceKey). IfOk (found_pick (picked_by_place {K = Tuple} count key)) (IsPart count) in
    then_keeps finds (IsPart count) _ (λ key. found_pick (picked_by_place count key))
    (any_then finds (place_bound from) _ (λ first. any_then finds (place_bound to) _ (λ end. any_then finds (place_bound by) _ (λ step. found_is (IsPart count) _ (places_part count first end step)))))
    (λ key h. h)

-- what a selection that costs nothing reaches
abbrev pub IsPartOf : Table → Reach → Type 0
IsPartOf t reach = IsPart (length t.labels) reach.rows

rows_part : (by : Accessor) (t : Table) (k : GivenSub) → is_free_access by k ≡ true → IfOk (rows_by by t k) (IsPart (length t.labels))
rows_part loc t (span_given from to step) e = labels_part (length t.level_names) t.labels from to step
rows_part iloc t (span_given from to step) e = place_part (length t.labels) from to step
rows_part loc t (key_given g) e = cc
rows_part iloc t (key_given g) e = cc
rows_part at t k e = cc
rows_part iat t k e = cc

-- two keys of a Series are scalars
two_part : (by : Accessor) (t : Table) (k other : GivenSub) → is_free_access by k ≡ true → IfOk (rows_by_two by t k other) (IsPart (length t.labels))
two_part by t (span_given from to step) other e = grind arith
two_part loc t (key_given g) other e = cc
two_part iloc t (key_given g) other e = cc
two_part at t (key_given g) other e = cc
two_part iat t (key_given g) other e = cc

with_columns : (t : Table) (rows columns : Result Pick FaultValue) → IfOk rows (IsPart (length t.labels)) → IfOk (reach_of rows columns) (IsPartOf t)
with_columns t rows columns h = then_keeps (IsPart (length t.labels)) (IsPartOf t) rows _ h (λ r part. any_then (IsPartOf t) columns _ (λ c. part))

access_part : (s : Shape) (by : Accessor) (t : Table) (first : GivenSub) (second : Option GivenSub) → is_free_access by first ≡ true → IfOk (reach_by s by t first second) (IsPartOf t)
access_part Series by t first None e = with_columns t (rows_by by t first) (Ok only_column) (rows_part by t first e)
access_part Series by t first (Some other) e = with_columns t (rows_by_two by t first other) (Ok only_column) (two_part by t first other e)
access_part Frame by t first None e = where_keeps (IsPartOf t) (may_stand_alone by first) _ _ (λ alone. with_columns t (rows_by by t first) (Ok (all_columns t)) (rows_part by t first e))
access_part Frame by t first (Some other) e = with_columns t (rows_by by t first) (columns_by by t other) (rows_part by t first e)

all_part : (t : Table) → IsPart (length t.labels) (all_rows_of t)
all_part t = record { several = refl; few = omega (arith, length-range_with_len 0 (length t.labels)) }

column_part : (t : Table) (k : GivenSub) → IfOk (column_reach t k) (IsPartOf t)
column_part t k = with_columns t (Ok (all_rows_of t)) (loc_columns t k) (all_part t)

item_part : (s : Shape) (t : Table) (first : GivenSub) (second : Option GivenSub) → is_free_item s first ≡ true → IfOk (item_reach s t first second) (IsPartOf t)
item_part Series t first second e = access_part Series loc t first second e
item_part Frame t (key_given (one (cell c))) None e = column_part t (key_given (one (cell c)))
item_part Frame t (key_given (many parts)) None e = column_part t (key_given (many parts))
item_part Frame t first (Some second) e = tt
item_part Frame t first None e = cc

pub free_part : (t : Table) (way : Way) (first : GivenSub) (second : Option GivenSub) → is_free_selection t.shape way first ≡ true → IfOk (way_reach way t first second) (IsPartOf t)
free_part t plain first second e = if_keeps (IsPartOf t) (is_truth_list first) _ _ (λ truths. tt) (λ other. item_part t.shape t first second e)
free_part t (through by) first second e = access_part t.shape by t first second e
