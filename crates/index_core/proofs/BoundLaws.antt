-- The place of a bound that must stand once.
use Rattle.{
  meaning_pick.{proofs.{cells.Common.{arith, ◌≡◌, ℕ, ◌+◌, ◌<◌, ◌≤◌, Bool, true, false, List, [], ◌∷◌, length, take, drop, slice_index_or, Option, Some, None, Err, take-append-drop, take_all}, RowLaws.{rows_where-append, rows_more_yes}}, specs.{Faults.{bound_not_unique}, Rows.{rows_where}, Slices.{one_row}}},
  std.specs.Option.{option_to_list, is_some},
}

module _ {X : Type 0} (p : X → Bool) (xs : List X) where
  -- so far: no row or one
  abbrev pub IsSoFar : Option ℕ → ℕ → Type 0
  IsSoFar found k = option_to_list found ≡ rows_where p 0 (take k xs)

  pub first_time : (k : ℕ) (d : X) (found : Option ℕ) → k < length xs → IsSoFar found k → is_some found ≡ false → p (slice_index_or xs k d) ≡ true → IsSoFar (Some k) (k + 1)
  first_time = grind (arith, rows_more_yes)

  -- a second row
  pub second_time : (k : ℕ) (d bound : X) (found : Option ℕ) → k < length xs → IsSoFar found k → is_some found ≡ true → p (slice_index_or xs k d) ≡ true
      → one_row bound (rows_where p 0 xs) ≡ Err (bound_not_unique bound)
  second_time k d _ None lt before some passes = cc
  second_time k d _ (Some row) lt before some passes =
      let two : row ∷ (k ∷ []) ≡ rows_where p 0 (take (k + 1) xs) = search rows_more_yes in
      cc (take-append-drop (k + 1) xs, rows_where-append p 0 (take (k + 1) xs) (drop (k + 1) xs))

  -- at the end
  whole : (k : ℕ) (found : Option ℕ) → length xs ≤ k → IsSoFar found k → option_to_list found ≡ rows_where p 0 xs
  whole k _ all before = cc (take_all k xs all)
