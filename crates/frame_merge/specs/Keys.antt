-- The columns of two frames whose cells are the keys.
use Rattle.std.specs.Prelude.{◌≡◌, ℕ, ◌≤◌, true, List, map, filter, length, Option, Some, None, Result}
use Rattle.std.specs.List.{list_any}
use Rattle.cell_core.specs.declared.cell.Cell.{Cell}
use Rattle.cell_core.specs.declared.cell.Label.{Label}
use Rattle.cell_core.specs.declared.cell.Kind.{Kind}
use Rattle.column_core.specs.cells.Text.{Text}
use Rattle.column_core.specs.cells.Cell.{LabelValue}
use Rattle.column_core.specs.cells.Operator.{cell_label}
use Rattle.column_core.specs.cells.Fault.{FaultValue, then_value}
use Rattle.column_core.specs.cells.Reduce.{distinct}
use Rattle.frame_store.specs.tables.Table.{NumberedTable, Table, column_at}
use Rattle.frame_store.specs.tables.Value.{Given, nothing}
use Rattle.frame_labels.specs.method.Rows.{labels_in}
use Rattle.frame_labels.specs.method.Merge as meant
use Rattle.frame_labels.specs.method.Merge.{are_same_kinds, checked_keys, common_labels, keys_named, keys_under}
use Rattle.frame_store.specs.Parts.{AreColumnsOf}
use Rattle.frame_store.specs.Shown.{cells_value}
use Rattle.frame_select.specs.Headings.{same_heading}
use Rattle.frame_merge.specs.declared.keys.MergeKeys.{MergeKeys}

-- the places of the keys, which don't depend on texts
abbrev pub keys_value : MergeKeys → meant.MergeKeys
keys_value keys = record { left = keys.left; right = keys.right }

abbrev pub keys_seen : List Text → MergeKeys → meant.MergeKeys
keys_seen texts keys = keys_value keys

-- the labels that cells are
abbrev pub cell_labels : List Text → List Cell → List LabelValue
cell_labels texts cells = map cell_label (cells_value texts cells)

-- the headings of columns that both have, each once, in the order of the left
abbrev pub common_headings : NumberedTable → NumberedTable → List (Option Label)
common_headings l r = distinct same_heading (filter (λ h. list_any (same_heading h) r.headings) l.headings)

-- the labels that `on` names, if it is given
abbrev pub labels_on : Given → Option (List LabelValue)
labels_on nothing = None
labels_on g = Some (labels_in g)

-- the columns that are told; if none are, those of common labels
abbrev pub keys_told : Table → Table → Option (List LabelValue) → Result meant.MergeKeys FaultValue
keys_told l r None = keys_under l r (common_labels l r)
keys_told l r (Some labels) = keys_named l r labels

abbrev pub keys_checked : Table → Table → Option (List LabelValue) → Result meant.MergeKeys FaultValue
keys_checked l r told = then_value (keys_told l r told) (checked_keys l r)

-- the kinds of columns
abbrev pub kinds_of : NumberedTable → List ℕ → List Kind
kinds_of t places = map (λ place. (column_at t.columns place).kind) places

-- a column of the right side for each of the left, one at least
pub record ArePaired (l r : NumberedTable) (keys : MergeKeys) : Type 0 where
  pub left : AreColumnsOf l keys.left
  pub right : AreColumnsOf r keys.right
  pub same : length keys.right ≡ length keys.left
  pub some : 1 ≤ length keys.left

-- and of its kind
pub record AreAlike (l r : NumberedTable) (keys : MergeKeys) : Type 0 where
  pub paired : ArePaired l r keys
  pub kinds : are_same_kinds (kinds_of l keys.left) (kinds_of r keys.right) ≡ true

-- four at most
pub record AreMergeKeys (l r : NumberedTable) (keys : MergeKeys) : Type 0 where
  pub alike : AreAlike l r keys
  pub few : length keys.left ≤ 4
