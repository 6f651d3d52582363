-- The columns of two frames by which their rows meet.
use Rattle.std.specs.Prelude.{◌≡◌, ℕ, ◌≤◌, List, [], ◌∷◌, length, slice_index_or, Result, Ok}
use Rattle.cell_core.specs.declared.cell.Kind.TheVariants.{Int64}
use Rattle.column_core.specs.cells.Text.{Text}
use Rattle.column_core.specs.cells.Cell.{LabelValue}
use Rattle.column_core.specs.cells.Fault.{FaultValue, then_value}
use Rattle.frame_store.specs.tables.Table.{NumberedTable, Table, column_at}
use Rattle.frame_labels.specs.method.Merge as meant
use Rattle.frame_merge.specs.declared.keys.MergeKeys.{MergeKeys}
use Rattle.frame_merge.specs.Keys.{AreAlike}
use Rattle.meaning_nearest.specs.AsofMerge.{each_named, together}

-- one column of either side, as keys
abbrev pub places_seen : List Text → ℕ × ℕ → meant.MergeKeys
places_seen texts places = record { left = places.0 ∷ []; right = places.1 ∷ [] }

-- the columns of labels, each label tested by itself
abbrev pub together_named : Table → Table → List LabelValue → Result meant.MergeKeys FaultValue
together_named l r labels = then_value (each_named l r labels) (λ each. Ok (together each))

-- the first column of whole numbers, and four others at most
pub record AreAsofKeys (l r : NumberedTable) (keys : MergeKeys) : Type 0 where
  pub alike : AreAlike l r keys
  pub whole : (column_at l.columns (slice_index_or keys.left 0 0)).kind ≡ Int64
  pub few : length keys.left ≤ 5
