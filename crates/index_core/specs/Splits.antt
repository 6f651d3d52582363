-- A list that is split by a test.
use Rattle.std.specs.Prelude.{◌≡◌, ℕ, ◌<◌, ◌≤◌, Bool, true, false, not, List, length, slice_index_or, Option}
use Rattle.cell_core.specs.declared.cell.Label.{Label}
use Rattle.meaning_pick.specs.cells.Text.{Text}
use Rattle.meaning_pick.specs.Slices.{reaches, stays_within}
use Rattle.index_core.specs.Labels.{order_in}

-- from a place on all pass the test, and before it none does
pub record IsSplitAt {X : Type 0} (p : X → Bool) (xs : List X) (place : ℕ) : Type 0 where
  pub within : place ≤ length xs
  pub before : (k : ℕ) (d : X) → k < place → p (slice_index_or xs k d) ≡ false
  pub behind : (k : ℕ) (d : X) → place ≤ k → k < length xs → p (slice_index_or xs k d) ≡ true

-- from a place on no label is below a lower bound, and before it all are
abbrev pub BeginsAt : List Text → Option Label → List Label → ℕ → Type 0
BeginsAt texts bound labels place = IsSplitAt (reaches (order_in texts) bound) labels place

-- from a place on all labels are above an upper bound, and before it none is
abbrev pub EndsAt : List Text → Option Label → List Label → ℕ → Type 0
EndsAt texts bound labels place = IsSplitAt (λ label. not (stays_within (order_in texts) bound label)) labels place
