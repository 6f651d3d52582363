-- Positions and slices by positions, as Python has them.
use Rattle.std.specs.Prelude.{ℕ, zero, suc, ◌-◌, ℤ, pos, negsuc, min, List, [], ◌∷◌, Option, Some, None, Result, Ok, Err}
use Rattle.std.specs.Int.{div_ceil}
use Rattle.meaning_cells.specs.cell_core.declared.grid.Rows.{Rows}
use Rattle.meaning_cells.specs.Place.{place_of}
use Rattle.meaning_pick.specs.Faults.{PickFault, out_of_range, step_zero, then_pick}

-- the row at a position, counted from the end where it is negative
abbrev pub row_or_fault : {K : Type 0} → ℕ → ℤ → Option ℕ → Result ℕ (PickFault K)
row_or_fault count z None = Err (out_of_range z count)
row_or_fault count z (Some row) = Ok row

abbrev pub row_at : {K : Type 0} → ℕ → ℤ → Result ℕ (PickFault K)
row_at count z = row_or_fault count z (place_of z count)

abbrev pub rows_at : {K : Type 0} → ℕ → List ℤ → Result (List ℕ) (PickFault K)
rows_at count [] = Ok []
rows_at count (z ∷ zs) = then_pick (row_at count z) (λ row. then_pick (rows_at count zs) (λ rows. Ok (row ∷ rows)))

-- how many of the rows stand before a bound, and how many up to it: counted from the end where it is negative, and clipped
abbrev pub rows_before : ℕ → ℤ → ℕ
rows_before count (pos n) = min n count
rows_before count (negsuc n) = count - suc n

abbrev pub rows_through : ℕ → ℤ → ℕ
rows_through count (pos n) = min (suc n) count
rows_through count (negsuc n) = count - n

-- a bound that isn't given is an end
abbrev pub bound_or : (ℤ → ℕ) → ℕ → Option ℤ → ℕ
bound_or at end None = end
bound_or at end (Some z) = at z

-- each so many of the rows from low on that stand before high: from the first on, or from the last back
abbrev pub forward : ℕ → ℕ → ℤ → ℕ → Rows
forward low high step distance = record { start = low; step = step; count = div_ceil (high - low) distance }

abbrev pub backward : ℕ → ℕ → ℤ → ℕ → Rows
backward low high step distance = record { start = high - 1; step = step; count = div_ceil (high - low) distance }

-- a slice by positions with a step: a step below 0 goes back from the first bound
abbrev pub slice_with_step : {K : Type 0} → ℕ → Option ℤ → Option ℤ → ℤ → Result Rows (PickFault K)
slice_with_step count from to (pos zero) = Err step_zero
slice_with_step count from to (pos (suc n)) = Ok (forward (bound_or (rows_before count) 0 from) (bound_or (rows_before count) count to) (pos (suc n)) (suc n))
slice_with_step count from to (negsuc n) = Ok (backward (bound_or (rows_through count) 0 to) (bound_or (rows_through count) count from) (negsuc n) (suc n))

-- the step is 1 where none is given
abbrev pub step_or_one : Option ℤ → ℤ
step_or_one None = pos 1
step_or_one (Some z) = z

abbrev pub position_slice : {K : Type 0} → ℕ → Option ℤ → Option ℤ → Option ℤ → Result Rows (PickFault K)
position_slice count from to step = slice_with_step count from to (step_or_one step)
