-- The labels of the columns of two frames beside one another.
use Rattle.std.specs.Prelude.{◌≡◌, ℕ, Bool, List, ◌++◌, map, Option, if◌then◌else◌}
use Rattle.std.specs.List.{list_any}
use Rattle.cell_core.specs.declared.cell.Label.{Label}
use Rattle.column_core.specs.cells.Text.{Text}
use Rattle.column_core.specs.cells.Cell.{LabelValue}
use Rattle.frame_store.specs.tables.Table.{NumberedTable, Table}
use Rattle.frame_parts.specs.form.Select.{heading_at}
use Rattle.frame_labels.specs.method.Rows.{all_places}
use Rattle.frame_labels.specs.method.Merge.{MergeKeys, with_suffix, is_key, left_heading, right_heading, right_places}
use Rattle.frame_select.specs.Headings.{same_heading}
use Rattle.frame_select.specs.Selected.{heading_of}

-- a set of headings has just those of a list
abbrev pub AreAmong : List (Option Label) → List (Option Label) → Type 0
AreAmong keys headings = (h : Option Label) → list_any (same_heading h) keys ≡ list_any (same_heading h) headings

abbrev pub suffixed_if : Bool → Text → Option LabelValue → Option LabelValue
suffixed_if b suffix h = if b then with_suffix suffix h else h

-- the label of a column: with a suffix where it is no key and one of the others is equal
abbrev pub label_beside : Table → NumberedTable → List ℕ → Text → List (Option Label) → ℕ → Option LabelValue
label_beside T t keys suffix others place = if is_key keys place then heading_at T place else suffixed_if (list_any (same_heading (heading_of t place)) others) suffix (heading_at T place)

-- the labels of the answer
abbrev pub merged_headings : Table → Table → MergeKeys → List (Option LabelValue)
merged_headings l r keys = map (left_heading l r keys) (all_places l) ++ map (right_heading l r keys) (right_places r keys)
