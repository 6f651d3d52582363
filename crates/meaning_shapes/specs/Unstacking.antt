-- What unstacking and stacking are: laws of what is reshaped.
use Rattle.std.specs.Prelude.{◌≡◌, ◌<◌, ◌+◌, ◌*◌, ◌↔◌, ℕ, Bool, true, false, List, ◌++◌, All, length, slice_index_or, Option, Some, None, IfSome}
use Rattle.std.specs.List.{list_any}
use Rattle.meaning_shapes.specs.Reshape.{SpreadOf}

-- each key of the rows stands among the keys, once; no other key does; and none stands before a lesser one
pub record AreKeysInOrder {K : Type 0} (same less : K → K → Bool) (rows keys : List K) : Type 0 where
  pub all : All (λ k. list_any (same k) keys ≡ true) rows
  pub once : (i j : ℕ) (k : K) → i < j → j < length keys → same (slice_index_or keys j k) (slice_index_or keys i k) ≡ false
  pub no_others : All (λ k. list_any (same k) rows ≡ true) keys
  pub in_order : (i j : ℕ) (k : K) → i < j → j < length keys → less (slice_index_or keys j k) (slice_index_or keys i k) ≡ false

-- what stands in a row and a column, where each row has so many columns
abbrev pub place_at : List (Option ℕ) → ℕ → ℕ → ℕ → Option ℕ
place_at places columns row column = slice_index_or places (row * columns + column) None

-- the keys are those of rows and the labels those of columns, in order; where they meet stands the row that has both, and
-- nothing where no row has
pub record IsUnstacking {A : Type 0} (same less : List A → List A → Bool) (rest spread : List (List A)) (made : SpreadOf A) : Type 0 where
  pub keys : AreKeysInOrder same less rest made.rows
  pub labels : AreKeysInOrder same less spread made.columns
  pub count : length made.places ≡ length made.rows * length made.columns
  pub meets : (r c i : ℕ) (k : List A) → r < length made.rows → c < length made.columns → i < length rest
      → (place_at made.places (length made.columns) r c ≡ Some i) ↔ (same (slice_index_or made.rows r k ++ slice_index_or made.columns c k) (slice_index_or rest i k ++ slice_index_or spread i k) ≡ true)
  pub rows_of : All (λ place. IfSome place (λ row. row < length rest)) made.places
