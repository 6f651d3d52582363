-- A slice by positions has the rows of Python's rule, in its order.
use Rattle.{
  column_core.proofs.cells.Common.{◌≡◌, ◌∙◌, ap, sym, refl, subst, arith, ℕ, zero, suc, ◌+◌, ◌-◌, ◌*◌, ◌<◌, ◌≤◌, ◌↔◌, ◌-ℤ◌, AllPairs, min, ℤ, pos, negsuc, List, [], ◌∷◌, map, length, Option, Some, None, Result, Ok, IfSome, slice_index_or, cases_lt, nat_tests, length-map-range_with_len, get_or-map-range_with_len, div_ceil, range_with_len, Label},
  cell_core.specs.{declared.grid.Rows.{Rows}, Grids.{place_from}},
  std.{specs.Prelude.{◌<ℤ◌, Contains}, proofs.{Math.Nat.{mul-le-mul_left, mul-le-mul_right}, lemmas.Int.{ints}}},
  index_core.{specs.pick.{Faults.{PickFault}, Rows.{rows_of}, Positions.{rows_before, rows_through, bound_or, forward, backward, slice_with_step, step_or_one}}, proofs.pick.{PositionLaws.{taken_before, before_within, through_within}, InsideLaws.{ok_same}}},
  indexers.specs.{declared.keys.PosKey.{PosKey}, PythonSlice.{from_end, first_place, reached, IsBefore, IsSliced, IsSlice, PicksSlice}},
}
use Rattle.indexers.specs.declared.keys.PosKey.TheVariants as position

-- the steps that are taken are those that stand before the end
taken_below : (rows distance steps : ℕ) → 0 < distance → steps * distance < rows → steps < div_ceil rows distance
taken_below = grind (arith, cases_lt, mul-le-mul_left)

further : (distance a b : ℕ) → a < b → a * suc distance < b * suc distance
further = grind (arith, mul-le-mul_right)

-- what stands among places
module _ (f : ℕ → ℕ) (count : ℕ) where
  abbrev places : List ℕ
  places = map f (range_with_len 0 count)

  record IsPlaced (row : ℕ) : Type 0 where
    step : ℕ
    taken : step < count
    is : row ≡ f step

  placed : (row : ℕ) → Contains places row → IsPlaced row
  placed row there =
      let lt : there.0 < count = omega (arith, there.1, length-map-range_with_len f 0 count) in
      record { step = there.0; taken = lt; is = sym there.2 ∙ get_or-map-range_with_len f 0 count there.0 there.0 row lt (omega arith) }

  contained : (row : ℕ) → IsPlaced row → Contains places row
  contained row there = (
    there.step,
    omega (arith, there.taken, length-map-range_with_len f 0 count),
    get_or-map-range_with_len f 0 count there.step there.step row there.taken (omega arith) ∙ sym there.is,
  )

  in_order : (R : ℕ → ℕ → Type 0) → ((a b : ℕ) → a < b → b < count → R (f a) (f b)) → AllPairs R places
  in_order R rises i j d lt inside =
      let below : j < count = omega (arith, inside, length-map-range_with_len f 0 count) in
      let first = get_or-map-range_with_len f 0 count i i d (omega arith) (omega arith) in
      let second = get_or-map-range_with_len f 0 count j j d below (omega arith) in
      subst (λ (a : ℕ). R a (slice_index_or places j d)) (sym first) (subst (λ (b : ℕ). R (f i) b) (sym second) (rises i j lt below))

-- the first place and the end of a slice that goes up
up_first : (count step : ℕ) (from : Option ℤ) → (first : ℕ) × (first_place count (pos step) from ≡ pos first) × (bound_or (rows_before count) 0 from ≡ min first count)
up_first count step None = (0, refl, omega arith)
up_first count step (Some (pos m)) = (m, grind (arith, ints, nat_tests), refl)
up_first count step (Some (negsuc m)) = (count - suc m, grind (arith, ints, nat_tests), omega arith)

up_before : (count step row : ℕ) (to : Option ℤ) → row < bound_or (rows_before count) count to → IfSome to (λ z. IsBefore (pos step) (pos row) (from_end count z))
up_before count step row None lt = tt
up_before count step row (Some (pos m)) lt = omega (arith, ints)
up_before count step row (Some (negsuc m)) lt = omega (arith, ints)

up_until : (count step row : ℕ) (to : Option ℤ) → row < count → IfSome to (λ z. IsBefore (pos step) (pos row) (from_end count z)) → row < bound_or (rows_before count) count to
up_until count step row None inside before = inside
up_until count step row (Some (pos m)) inside before = omega (arith, ints)
up_until count step row (Some (negsuc m)) inside before = omega (arith, ints)

-- and of one that goes down
down_first : (count step : ℕ) (from : Option ℤ) → 0 < bound_or (rows_through count) count from → first_place count (negsuc step) from ≡ pos (bound_or (rows_through count) count from - 1)
down_first count step None some = omega (arith, ints)
down_first count step (Some (pos m)) some = grind (arith, ints, nat_tests)
down_first count step (Some (negsuc m)) some = grind (arith, ints, nat_tests)

down_some : (count step row far : ℕ) (from : Option ℤ) → pos row ≡ first_place count (negsuc step) from -ℤ pos far → 0 < bound_or (rows_through count) count from
down_some count step row far None is = omega (arith, ints)
down_some count step row far (Some (pos m)) is = grind (arith, ints, nat_tests)
down_some count step row far (Some (negsuc m)) is = grind (arith, ints, nat_tests)

down_before : (count step row : ℕ) (to : Option ℤ) → row < count → bound_or (rows_through count) 0 to ≤ row → IfSome to (λ z. IsBefore (negsuc step) (pos row) (from_end count z))
down_before count step row None inside le = tt
down_before count step row (Some (pos m)) inside le = omega (arith, ints)
down_before count step row (Some (negsuc m)) inside le = omega (arith, ints)

down_until : (count step row : ℕ) (to : Option ℤ) → row < count → IfSome to (λ z. IsBefore (negsuc step) (pos row) (from_end count z)) → bound_or (rows_through count) 0 to ≤ row
down_until count step row None inside before = omega arith
down_until count step row (Some (pos m)) inside before = omega (arith, ints)
down_until count step row (Some (negsuc m)) inside before = omega (arith, ints)

module _ (count n : ℕ) (from to : Option ℤ) where
  module _ (low high : ℕ) (low_is : low ≡ bound_or (rows_before count) 0 from) (high_is : high ≡ bound_or (rows_before count) count to) where
    abbrev up_place : ℕ → ℕ
    up_place = place_from low (pos (suc n))

    abbrev up_count : ℕ
    up_count = div_ceil (high - low) (suc n)

    up_inside : (row : ℕ) → IsPlaced up_place up_count row → IsSliced count from to (pos (suc n)) row
    up_inside row there =
        let far : there.step * suc n < high - low = taken_before (high - low) (suc n) there.step (omega arith) there.taken in
        let within : high ≤ count = omega (arith, high_is, before_within count to count (omega arith)) in
        let first = up_first count (suc n) from in
        let is : row ≡ first.0 + there.step * suc n = omega (arith, first.2, low_is, there.is) in
        record {
          inside = omega (arith, there.is);
          steps = there.step;
          reaches = rw first.1 (omega (arith, ints));
          before = up_before count (suc n) row to (omega (arith, there.is, high_is));
        }

    up_there : (row : ℕ) → IsSliced count from to (pos (suc n)) row → IsPlaced up_place up_count row
    up_there row is =
        let first = up_first count (suc n) from in
        let start : pos row ≡ reached (pos first.0) (pos (suc n)) is.steps = rw first.1 at is.reaches in
        let end : row < high = omega (arith, high_is, up_until count (suc n) row to is.inside is.before) in
        let from_first : row ≡ first.0 + is.steps * suc n = omega (arith, ints, start) in
        let at : row ≡ low + is.steps * suc n = omega (arith, first.2, low_is, is.inside) in
        record { step = is.steps; taken = taken_below (high - low) (suc n) is.steps (omega arith) (omega arith); is = at }

    up_order : (a b : ℕ) → a < b → b < up_count → pos (up_place a) <ℤ pos (up_place b)
    up_order a b lt below = omega (arith, ints, further n a b lt)

    goes_up : IsSlice count from to (pos (suc n)) (rows_of (forward low high (pos (suc n)) (suc n)))
    goes_up = record {
      members = λ row. (λ there. up_inside row (placed up_place up_count row there), λ is. contained up_place up_count row (up_there row is));
      order = in_order up_place up_count (λ a b. pos a <ℤ pos b) up_order;
    }

  module _ (low high : ℕ) (low_is : low ≡ bound_or (rows_through count) 0 to) (high_is : high ≡ bound_or (rows_through count) count from) where
    abbrev down_place : ℕ → ℕ
    down_place = place_from (high - 1) (negsuc n)

    abbrev down_count : ℕ
    down_count = div_ceil (high - low) (suc n)

    down_inside : (row : ℕ) → IsPlaced down_place down_count row → IsSliced count from to (negsuc n) row
    down_inside row there =
        let far : there.step * suc n < high - low = taken_before (high - low) (suc n) there.step (omega arith) there.taken in
        let within : high ≤ count = omega (arith, high_is, through_within count from count (omega arith)) in
        let some : 0 < bound_or (rows_through count) count from = omega (arith, high_is, far) in
        let first : first_place count (negsuc n) from ≡ pos (high - 1) = rw high_is (down_first count n from some) in
        let inside : row < count = omega (arith, there.is) in
        record {
          inside = inside;
          steps = there.step;
          reaches = rw first (omega (arith, ints, there.is));
          before = down_before count n row to inside (omega (arith, there.is, low_is));
        }

    down_there : (row : ℕ) → IsSliced count from to (negsuc n) row → IsPlaced down_place down_count row
    down_there row is =
        let some = down_some count n row (is.steps * suc n) from is.reaches in
        let first : first_place count (negsuc n) from ≡ pos (high - 1) = rw high_is (down_first count n from some) in
        let start : pos row ≡ reached (pos (high - 1)) (negsuc n) is.steps = rw first at is.reaches in
        let end : low ≤ row = omega (arith, low_is, down_until count n row to is.inside is.before) in
        let positive : 0 < high = omega (arith, high_is, some) in
        let far : row + is.steps * suc n ≡ high - 1 = omega (arith, ints, start) in
        record { step = is.steps; taken = taken_below (high - low) (suc n) is.steps (omega arith) (omega arith); is = omega arith }

    down_order : (a b : ℕ) → a < b → b < down_count → pos (down_place b) <ℤ pos (down_place a)
    down_order a b lt below = omega (arith, ints, further n a b lt, taken_before (high - low) (suc n) b (omega arith) below)

    goes_down : IsSlice count from to (negsuc n) (rows_of (backward low high (negsuc n) (suc n)))
    goes_down = record {
      members = λ row. (λ there. down_inside row (placed down_place down_count row there), λ is. contained down_place down_count row (down_there row is));
      order = in_order down_place down_count (λ a b. pos b <ℤ pos a) down_order;
    }

pub is_python_slice : {K : Type 0} (count : ℕ) (from to : Option ℤ) (step : ℤ) (rows : Rows) → ◌≡◌ {A = Result Rows (PickFault K)} (slice_with_step count from to step) (Ok rows) → IsSlice count from to step (rows_of rows)
is_python_slice _ _ _ (pos zero) _ e = cc
is_python_slice {K} count from to (pos (suc n)) rows e = subst (λ (r : Rows). IsSlice count from to (pos (suc n)) (rows_of r)) (ok_same {E = PickFault K} _ _ e) (goes_up count n from to _ _ refl refl)
is_python_slice {K} count from to (negsuc n) rows e = subst (λ (r : Rows). IsSlice count from to (negsuc n) (rows_of r)) (ok_same {E = PickFault K} _ _ e) (goes_down count n from to _ _ refl refl)

pub span_picked : {K : Type 0} (count : ℕ) (key : PosKey) (from to step : Option ℤ) (one : ℤ) (rows : Rows) → key ≡ position.Span from to step → one ≡ step_or_one step
    → ◌≡◌ {A = Result Rows (PickFault K)} (slice_with_step count from to one) (Ok rows) → PicksSlice count key (rows_of rows)
span_picked count key from to step one rows is by made = rw (is, ← by) (is_python_slice count from to one rows made)
