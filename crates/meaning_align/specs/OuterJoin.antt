-- What an outer join is: a law of the rows that are joined.
use Rattle.std.specs.Prelude.{◌≡◌, ◌<◌, ◌*◌, ℕ, Bool, true, false, List, All, ◌++◌, filter, length, max, slice_index_or}
use Rattle.std.specs.List.{list_any}
use Rattle.meaning_pick.specs.Rows.{rows_where}
use Rattle.meaning_align.specs.Joins.{Entry, Lists, entries_of, lists_of}

-- the rows that carry a key
abbrev pub rows_of_key : {K : Type 0} → (K → K → Bool) → List K → K → List ℕ
rows_of_key same keys key = rows_where (same key) 0 keys

-- how often a key stands in the answer, where it stands so often on either side: where it is missing counts as once
abbrev pub product : List ℕ → List ℕ → ℕ
product lefts rights = max (length lefts) 1 * max (length rights) 1

-- no key stands before a lesser one; each key of either side stands as often as the product says, and no other key; and
-- its rows keep the order of the left side, and for one left row that of the right side
pub record IsOuterJoin {K : Type 0} (same less : K → K → Bool) (left right : List K) (joined : Lists K) : Type 0 where
  pub entries : List (Entry K)
  pub lists : joined ≡ lists_of entries
  pub in_order : (i j : ℕ) (d : Entry K) → i < j → j < length entries → less (slice_index_or entries j d).key (slice_index_or entries i d).key ≡ false
  pub as_often : (key : K) → list_any (same key) (left ++ right) ≡ true
      → length (filter (λ e. same key e.key) entries) ≡ product (rows_of_key same left key) (rows_of_key same right key)
  pub no_others : All (λ e. list_any (same e.key) (left ++ right) ≡ true) entries
  pub rows_in_order : (key : K) → list_any (same key) (left ++ right) ≡ true
      → filter (λ e. same key e.key) entries ≡ entries_of key (rows_of_key same left key) (rows_of_key same right key)
