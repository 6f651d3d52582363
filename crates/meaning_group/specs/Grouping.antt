-- What groups are: a law of the rows that are grouped.
use Rattle.std.specs.Prelude.{◌≡◌, ◌<◌, ℕ, Bool, true, false, List, length, slice_index_or, Option, Some, None}
use Rattle.std.specs.List.{list_any, position_or_len}
use Rattle.meaning_align.specs.pick.Rows.{rows_where}
use Rattle.meaning_group.specs.Keys.{KeyRules, is_kept}
use Rattle.meaning_group.specs.Rows.{rows_of_group}

-- a row's group has the row's key
pub record HasGroup {K : Type 0} (rules : KeyRules K) (rows keys : List K) (codes : List (Option ℕ)) (row : ℕ) (k : K) : Type 0 where
  pub group : ℕ
  pub there : group < length keys
  pub coded : slice_index_or codes row None ≡ Some group
  pub same : rules.same (slice_index_or keys group k) (slice_index_or rows row k) ≡ true

-- a row is in one group, that of its key, and in none where its key holds an NA that is dropped; the rows of a group are
-- those that have its key, in order, and each group has a row; no group has a key that stands before an earlier one's, or
-- that the rows show earlier
pub record AreGroups {K : Type 0} (rules : KeyRules K) (sorted dropna : Bool) (rows keys : List K) (codes : List (Option ℕ)) : Type 0 where
  pub each_row : length codes ≡ length rows
  pub in_group : (row : ℕ) (k : K) → row < length rows → is_kept dropna rules.holds_na (slice_index_or rows row k) ≡ true → HasGroup rules rows keys codes row k
  pub in_none : (row : ℕ) (k : K) → row < length rows → is_kept dropna rules.holds_na (slice_index_or rows row k) ≡ false → slice_index_or codes row None ≡ None
  pub rows_of : (group : ℕ) (k : K) → group < length keys → rows_of_group group codes ≡ rows_where (rules.same (slice_index_or keys group k)) 0 rows
  pub has_row : (group : ℕ) (k : K) → group < length keys → list_any (rules.same (slice_index_or keys group k)) rows ≡ true
  pub in_order : sorted ≡ true → (i j : ℕ) (k : K) → i < j → j < length keys → rules.less (slice_index_or keys j k) (slice_index_or keys i k) ≡ false
  pub by_sight : sorted ≡ false → (i j : ℕ) (k : K) → i < j → j < length keys → position_or_len (rules.same (slice_index_or keys i k)) rows < position_or_len (rules.same (slice_index_or keys j k)) rows
