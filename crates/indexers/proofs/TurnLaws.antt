-- Keys that are answered one after the other.
use Rattle.{
  column_core.proofs.cells.Common.{arith, ◌≡◌, ℕ, ◌+◌, ◌<◌, ℤ, Bool, List, [], ◌∷◌, ◌++◌, length, drop, slice_index_or, Result, Ok, Err, if◌then◌else◌, drop_more},
  std.proofs.lemmas.List.{append_assoc},
  index_core.specs.pick.{Faults.{PickFault, then_pick}, Labels.{rows_of_key, rows_of_keys}, Masks.{cell_of_label, kept_by_label}, Positions.{row_at, rows_at}},
}

-- the rows so far, before those that are still to come
abbrev pub added : {K : Type 0} → List ℕ → Result (List ℕ) (PickFault K) → Result (List ℕ) (PickFault K)
added rows rest = then_pick rest (λ more. Ok (rows ++ more))

module _ {K : Type 0} where
  added_more : (rows more : List ℕ) (rest : Result (List ℕ) (PickFault K)) → added rows (added more rest) ≡ added (rows ++ more) rest
  added_more = grind (arith, append_assoc)

-- no rows so far
pub added_to_none : {K : Type 0} (rows : List ℕ) (rest : Result (List ℕ) (PickFault K)) → rows ≡ [] → added rows rest ≡ rest
added_to_none = grind arith

-- labels of a list
module _ {K X : Type 0} (meets : K → X → Bool) (xs : List X) (keys : List K) where
  abbrev picked : List ℕ → ℕ → Result (List ℕ) (PickFault K)
  picked rows k = added rows (rows_of_keys meets xs (drop k keys))

  pub label_more : (rows rows' more : List ℕ) (k : ℕ) (d : K) (whole : Result (List ℕ) (PickFault K)) → k < length keys → rows_of_key meets xs (slice_index_or keys k d) ≡ Ok more → rows' ≡ rows ++ more
      → picked rows k ≡ whole → picked rows' (k + 1) ≡ whole
  label_more = grind (arith, added_more, drop_more)

  pub label_refused : (rows : List ℕ) (k : ℕ) (d : K) (fault : PickFault K) (whole : Result (List ℕ) (PickFault K)) → k < length keys → rows_of_key meets xs (slice_index_or keys k d) ≡ Err fault
      → picked rows k ≡ whole → whole ≡ Err fault
  label_refused = grind (arith, drop_more)

-- positions of a list
module _ {K : Type 0} (count : ℕ) (zs : List ℤ) where
  abbrev placed : List ℕ → ℕ → Result (List ℕ) (PickFault K)
  placed rows k = added rows (rows_at count (drop k zs))

  pub place_more : (rows rows' : List ℕ) (row k : ℕ) (d : ℤ) (whole : Result (List ℕ) (PickFault K)) → k < length zs → row_at {K = K} count (slice_index_or zs k d) ≡ Ok row → rows' ≡ rows ++ row ∷ []
      → placed rows k ≡ whole → placed rows' (k + 1) ≡ whole
  place_more rows _ row k d _ lt here pushed before =
      cc (added_more rows (row ∷ []) (rows_at {K = K} count (drop (k + 1) zs)), drop_more zs k d lt)

  pub place_refused : (rows : List ℕ) (k : ℕ) (d : ℤ) (fault : PickFault K) (whole : Result (List ℕ) (PickFault K)) → k < length zs → row_at count (slice_index_or zs k d) ≡ Err fault
      → placed rows k ≡ whole → whole ≡ Err fault
  place_refused = grind (arith, drop_more)

-- rows that a mask keeps by their labels
module _ {X : Type 0} (same : X → X → Bool) (labels : List X) (mask : List Bool) (xs : List X) where
  abbrev kept_from : List ℕ → ℕ → Result (List ℕ) (PickFault X)
  kept_from rows k = added rows (kept_by_label same labels mask k (drop k xs))

  pub mask_more : (rows rows' : List ℕ) (k : ℕ) (d : X) (kept : Bool) (whole : Result (List ℕ) (PickFault X)) → k < length xs → cell_of_label same labels mask (slice_index_or xs k d) ≡ Ok kept
      → rows' ≡ (if kept then rows ++ k ∷ [] else rows) → kept_from rows k ≡ whole → kept_from rows' (k + 1) ≡ whole
  mask_more = grind (arith, append_assoc, drop_more)

  pub mask_refused : (rows : List ℕ) (k : ℕ) (d : X) (fault : PickFault X) (whole : Result (List ℕ) (PickFault X)) → k < length xs → cell_of_label same labels mask (slice_index_or xs k d) ≡ Err fault
      → kept_from rows k ≡ whole → whole ≡ Err fault
  mask_refused = grind (arith, drop_more)
