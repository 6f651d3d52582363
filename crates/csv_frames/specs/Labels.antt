-- Labels that were given, and the numbers that were tried for them.
use Rattle.std.specs.Prelude.{◌≡◌, ℕ, ◌<◌, ◌≤◌, false, List, [], length, slice_index_or}
use Rattle.column_core.specs.cells.Text.{Text}
use Rattle.meaning_csv.specs.CsvRead.{is_free}

-- no number from 1 to before this one is free
abbrev pub IsSkipped : List Text → Text → ℕ → Type 0
IsSkipped taken label next = (n : ℕ) → 1 ≤ n → n < next → is_free taken label n ≡ false

-- for each of the labels a number before which none is free
pub record AreSkipped (labels taken : List Text) (next : List ℕ) : Type 0 where
  pub count : length next ≡ length labels
  pub some : (k : ℕ) → k < length labels → 1 ≤ slice_index_or next k 0
  pub skipped : (k : ℕ) → k < length labels → IsSkipped taken (slice_index_or labels k []) (slice_index_or next k 0)
