-- Each label's rows, from the first one to the next.
use Rattle.std.specs.Prelude.{◌≡◌, ℕ, ◌+◌, ◌<◌, ◌≤◌, List, length, drop, slice_index_or, Option, None}
use Rattle.std.specs.List.{position_from}
use Rattle.std.specs.Map.{lookup}
use Rattle.cell_core.specs.declared.cell.Label.{Label}
use Rattle.index_core.specs.Labels.{same_number}

-- from a row on: each label's first row
abbrev pub HaveFirstRows : List (Label × ℕ) → List Label → ℕ → Type 0
HaveFirstRows entries labels row = (label : Label) → lookup (same_number label) entries ≡ position_from (same_number label) row (drop row labels)

-- the next row with the label of a row, if there is one
abbrev pub next_row : List Label → ℕ → Label → Option ℕ
next_row labels row d = position_from (same_number (slice_index_or labels row d)) (row + 1) (drop (row + 1) labels)

-- each row from one on has the next one with its label
pub record HaveNextRows (next : List (Option ℕ)) (labels : List Label) (from : ℕ) : Type 0 where
  pub count : length next ≡ length labels
  pub at : (row : ℕ) (d : Label) → from ≤ row → row < length labels → slice_index_or next row None ≡ next_row labels row d

-- each label has its first row, and each row the next one
pub record AreLinked (entries : List (Label × ℕ)) (links : List (Option ℕ)) (labels : List Label) : Type 0 where
  pub first : HaveFirstRows entries labels 0
  pub next : HaveNextRows links labels 0
