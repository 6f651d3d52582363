-- There is a joined row for each row of either side, so tables are beyond the limits where the rows of either are.
use Rattle.{
  frame_parts.{proofs.Common.{◌≡◌, ◌≤◌, ◌+◌, ◌++◌, ◌∙◌, ℕ, Bool, true, false, not, List, [], ◌∷◌, length, refl, ap, sym, arith, Decides, All, All-head, All-tail, list_any, list_all, flat_map, distinct, list_any-append, list_any_at, length-append, length-map, nat_tests, Err, limit, LabelValue, Binary, Table, value_decides, same_tuple, same_tuples, then_value, compares, meets, beside, within_limits}, specs.{align.{Faults.{met_rows}, Joins.{Entry as MetEntry, Lists, lists_of, entries_of, keys_in_order, outer_entries, most_rows, within}}, form.Infix.{tuple_before, same_count, joined_infix, infix_table, unequal_infix, rows_infix}}},
  column_core.proofs.cells.Common.{pointwise_decides},
  std.proofs.{Common.{max, ◌*◌}, lemmas.{Nat.{mul-le}, Map.Views.{any-filter_same}, List.Sorted.{list_any-IsPermutation}}},
  label_align.{specs.pick.Rows.{rows_where}, proofs.{OuterJoinLaws.{length-entries_of}, align.sorting.SortLaws.{in_order_permutes}}},
  frame_ops.proofs.JoinLaws.{kinds_on, length-beside},
}

-- how many rows stand is the same wherever the first one does
length-rows_where : {K : Type 0} (p : K → Bool) (m n : ℕ) (xs : List K) → length (rows_where p m xs) ≡ length (rows_where p n xs)
length-rows_where p _ _ [] = refl
length-rows_where p m n (x ∷ xs) = grind (arith, length-rows_where p (m + 1) (n + 1) xs)

module _ {K : Type 0} (same less : K → K → Bool) where
  -- the rows of keys
  abbrev rows_under : List K → List K → ℕ
  rows_under [] xs = 0
  rows_under (key ∷ keys) xs = length (rows_where (same key) 0 xs) + rows_under keys xs

  abbrev is_key : List K → K → Bool
  is_key keys x = list_any (λ key. same key x) keys

  one_row : (keys : List K) (x : K) (xs : List K) → rows_under keys xs ≤ rows_under keys (x ∷ xs)
  one_row [] x xs = omega arith
  one_row (key ∷ keys) x xs = grind (arith, length-rows_where (same key) 1 0 xs, one_row keys x xs)

  one_key : (keys : List K) (x : K) (xs : List K) → is_key keys x ≡ true → rows_under keys xs + 1 ≤ rows_under keys (x ∷ xs)
  one_key [] x xs found = grind arith
  one_key (key ∷ keys) x xs found = grind (arith, length-rows_where (same key) 1 0 xs, one_row keys x xs, one_key keys x xs)

  each_row : (keys xs : List K) → All (λ x. is_key keys x ≡ true) xs → length xs ≤ rows_under keys xs
  each_row keys [] _ = omega arith
  each_row keys (x ∷ xs) all =
      omega (arith, one_key keys x xs (All-head (λ x. is_key keys x ≡ true) x xs all), each_row keys xs (All-tail (λ x. is_key keys x ≡ true) x xs all))

  -- each row of a key of a side has an entry
  module _ (left right : List K) where
    abbrev of_key : K → List (MetEntry K)
    of_key key = entries_of key (rows_where (same key) 0 left) (rows_where (same key) 0 right)

    key_entries : (m n : ℕ) → (m ≤ max m 1 * max n 1) × (n ≤ max m 1 * max n 1)
    key_entries m n = (
      omega (arith, mul-le m 1 (max m 1) (max n 1) (omega arith) (omega arith)),
      omega (arith, mul-le 1 n (max m 1) (max n 1) (omega arith) (omega arith)),
    )

    left_entries : (keys : List K) → rows_under keys left ≤ length (flat_map of_key keys)
    left_entries [] = omega arith
    left_entries (key ∷ keys) =
        let m = length (rows_where (same key) 0 left) in
        let n = length (rows_where (same key) 0 right) in
        grind (arith, length-append, length-entries_of, (key_entries m n).0, left_entries keys)

    right_entries : (keys : List K) → rows_under keys right ≤ length (flat_map of_key keys)
    right_entries [] = omega arith
    right_entries (key ∷ keys) =
        let m = length (rows_where (same key) 0 left) in
        let n = length (rows_where (same key) 0 right) in
        grind (arith, length-append, length-entries_of, (key_entries m n).1, right_entries keys)

  -- each row has a key
  module _ (decides : (a b : K) → Decides (same a b) (a ≡ b)) where
    found_distinct : (x : K) (xs : List K) → is_key (distinct same xs) x ≡ is_key xs x
    found_distinct _ [] = refl
    found_distinct x (c ∷ cs) =
        let others = any-filter_same (λ key. same key x) (λ d. not (same d c)) (not (same x c)) (λ k h. ap (λ d. not (same d c)) ((decides k x).0 h)) (distinct same cs) in
        grind (arith, others, found_distinct x cs, decides c x, decides x c)

    found_in_order : (x : K) (xs : List K) → is_key (keys_in_order same less xs) x ≡ is_key xs x
    found_in_order x xs =
        let keys = distinct same xs in
        sym (list_any-IsPermutation (λ key. same key x) keys _ (in_order_permutes less keys)) ∙ found_distinct x xs

    itself : (xs : List K) → All (λ x. is_key xs x ≡ true) xs
    itself xs = λ k d lt. list_any_at (λ key. same key _) xs k d lt ((decides _ _).1 refl)

    module _ (left right : List K) where
      abbrev keys : List K
      keys = keys_in_order same less (left ++ right)

      pub left_counted : length left ≤ length (outer_entries same less left right)
      left_counted =
          let each = each_row keys left (λ k d lt. found_in_order _ _ ∙ grind (arith, list_any-append, itself left k d lt)) in
          omega (arith, each, left_entries left right keys)

      pub right_counted : length right ≤ length (outer_entries same less left right)
      right_counted =
          let each = each_row keys right (λ k d lt. found_in_order _ _ ∙ grind (arith, list_any-append, itself right k d lt)) in
          omega (arith, each, right_entries left right keys)

pub tuple_decides : (s t : List LabelValue) → Decides (same_tuple s t) (s ≡ t)
tuple_decides s t = pointwise_decides value_decides s t

tuples_decide : (as' bs : List (List LabelValue)) → Decides (same_tuples as' bs) (as' ≡ bs)
tuples_decide as' bs = pointwise_decides tuple_decides as' bs

-- what is beyond the limits is so with more rows
beyond_more : (m k n : ℕ) → m ≤ k → within_limits m n ≡ false → within_limits k n ≡ false
beyond_more m k n more beyond = grind (arith, nat_tests, mul-le m n k n more (omega arith))

-- two tables whose columns meet in order, where the rows of either would be beyond the limits
module _ (op : Binary) (a b t : Table) (same : length b.columns ≡ length a.columns) (kinds : list_all (meets op) (beside a.columns b.columns) ≡ true) (apart : compares op ≡ false) (rows : length t.labels ≡ length a.labels)
    (beyond : within_limits (max (length a.labels) (length b.labels)) (length a.columns) ≡ false) where
  beyond_with : (k : ℕ) → length a.labels ≤ k → length b.labels ≤ k → within_limits k (length a.columns) ≡ false
  beyond_with k left right = beyond_more (max (length a.labels) (length b.labels)) k (length a.columns) (omega (arith, left, right)) beyond

  joined_beyond : (joined : Lists (List LabelValue)) → length a.labels ≤ length joined.keys → length b.labels ≤ length joined.keys → joined_infix op a b t joined ≡ Err limit
  joined_beyond joined left right =
      grind (arith, kinds_on op joined.left joined.right a.columns b.columns, length-beside, length-map, beyond_with (length joined.keys) left right)

  entries_beyond : (entries : List (MetEntry (List LabelValue))) → length a.labels ≤ length entries → length b.labels ≤ length entries → then_value (met_rows (within most_rows entries)) (joined_infix op a b t) ≡ Err limit
  entries_beyond entries left right = grind (arith, nat_tests, joined_beyond (lists_of entries), length-map)

  unequal_beyond : unequal_infix op a b t ≡ Err limit
  unequal_beyond =
      let left = left_counted same_tuple tuple_before tuple_decides a.labels b.labels in
      let right = right_counted same_tuple tuple_before tuple_decides a.labels b.labels in
      cc (entries_beyond (outer_entries same_tuple tuple_before a.labels b.labels) left right)

  equal_beyond : same_tuples a.labels b.labels ≡ true → infix_table op t (beside a.columns b.columns) ≡ Err limit
  equal_beyond is =
      let equal : a.labels ≡ b.labels = (tuples_decide a.labels b.labels).0 is in
      let many : within_limits (length t.labels) (length a.columns) ≡ false = beyond_with (length t.labels) (omega (arith, rows)) (omega (arith, rows, ap length equal)) in
      grind (arith, length-beside, many)

  pub rows_beyond : same_count a.level_names b.level_names ≡ true → rows_infix op a b t ≡ Err limit
  rows_beyond levels = grind (arith, equal_beyond, unequal_beyond)
