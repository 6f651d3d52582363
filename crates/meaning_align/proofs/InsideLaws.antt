-- The rows of an outer join lie within their sides, and its keys are those of either side.
use Rattle.{
  meaning_pick.{proofs.{cells.Common.{arith, ◌≡◌, ◌<◌, ◌≤◌, ℕ, Bool, cond, List, [], ◌∷◌, ◌++◌, map, length, All, Option, Some, Result, Ok, Err, ltb-false, length-map, All-cons, All-head, All-tail, All-map, IfSome, All-append as all_append}, InsideLaws.{rows_inside, ok_same}}, specs.Rows.{rows_where}},
  meaning_align.{proofs.OrderLaws.{all_flat, all_distinct, all_in_order}, specs.{Faults.{AlignRefusal, too_large}, Joins.{Entry, Lists, or_gap, entry, entries_of, keys_in_order, outer_entries, most_rows, lists_of, outer}}},
}

-- a row of so many, or none
abbrev pub IsRowOf : ℕ → Option ℕ → Type 0
IsRowOf count gap = IfSome gap (λ row. row < count)

-- an entry of rows of its sides, with a key of which this is true
record IsInside {K : Type 0} (P : K → Type 0) (lefts rights : ℕ) (e : Entry K) : Type 0 where
  keyed : P e.key
  left : IsRowOf lefts e.left
  right : IsRowOf rights e.right

-- as many rows on either side as keys, at most as many as a table may have
pub record AreInside {K : Type 0} (P : K → Type 0) (lefts rights : ℕ) (rows : Lists K) : Type 0 where
  pub few : length rows.keys ≤ most_rows
  pub left_count : length rows.left ≡ length rows.keys
  pub right_count : length rows.right ≡ length rows.keys
  pub keyed : All P rows.keys
  pub left : All (IsRowOf lefts) rows.left
  pub right : All (IsRowOf rights) rows.right

gaps_inside : (count : ℕ) (rows : List ℕ) → All (λ row. row < count) rows → All (IsRowOf count) (or_gap rows)
gaps_inside _ [] all = grind arith
gaps_inside count (row ∷ rows) all =
    All-cons (IsRowOf count) (Some row) (map Some rows) (All-head (λ row. row < count) row rows all) (All-map (IsRowOf count) Some rows (All-tail (λ row. row < count) row rows all))

module _ {K : Type 0} (P : K → Type 0) (same less : K → K → Bool) (left right : List K) where
  abbrev Inside : Entry K → Type 0
  Inside = IsInside P (length left) (length right)

  abbrev of_key : K → List (Entry K)
  of_key key = entries_of key (rows_where (same key) 0 left) (rows_where (same key) 0 right)

  key_inside : (key : K) → P key → All Inside (of_key key)
  key_inside key here =
      all_flat Inside _ _
      (λ gap at. All-map Inside (entry key gap) (or_gap (rows_where (same key) 0 right)) (λ k d lt. record { keyed = here; left = at; right = search (gaps_inside, rows_inside) }))
      (or_gap (rows_where (same key) 0 left)) (search (gaps_inside, rows_inside))

  module _ (lefts : All P left) (rights : All P right) where
    abbrev entries : List (Entry K)
    entries = outer_entries same less left right

    abbrev limited : Bool → Result (Lists K) (AlignRefusal K)
    limited beyond = cond beyond (Err too_large) (Ok (lists_of entries))

    entries_inside : All Inside entries
    entries_inside =
        all_flat Inside P _ key_inside (keys_in_order same less (left ++ right))
        (search (all_in_order, all_distinct, all_append))

    lists_inside : length entries ≤ most_rows → AreInside P (length left) (length right) (lists_of entries)
    lists_inside few = record {
      few = search length-map;
      left_count = search length-map;
      right_count = search length-map;
      keyed = All-map P (λ e. e.key) entries (λ k d lt. (entries_inside k d lt).keyed);
      left = All-map (IsRowOf (length left)) (λ e. e.left) entries (λ k d lt. (entries_inside k d lt).left);
      right = All-map (IsRowOf (length right)) (λ e. e.right) entries (λ k d lt. (entries_inside k d lt).right);
    }

    -- so it is of what is joined
    pub joined_inside : (rows : Lists K) → outer same less left right ≡ Ok rows → AreInside P (length left) (length right) rows
    joined_inside = grind (arith, ok_same, lists_inside, ltb-false)
