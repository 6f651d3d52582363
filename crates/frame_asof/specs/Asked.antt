-- How the rows of two frames are to meet.
use Rattle.std.specs.Prelude.{List, ◌∷◌}
use Rattle.cell_core.specs.declared.cell.Cell.{Cell}
use Rattle.column_core.specs.cells.Text.{Text}
use Rattle.column_core.specs.cells.Cell.{datum}
use Rattle.column_core.specs.cells.Operator.{cell_label}
use Rattle.frame_merge.specs.Keys.{cell_labels}
use Rattle.meaning_nearest.specs.AsofMerge.{AsofMerge}
use Rattle.frame_asof.specs.declared.asked.Asof.{Asof}

-- the labels with their texts
abbrev pub asof_value : List Text → Asof → AsofMerge
asof_value texts asof = record { on = cell_label (datum texts asof.on); by = cell_labels texts asof.by; tolerance = asof.tolerance; direction = asof.direction }

-- the label of `on`, and then those of `by`
abbrev pub labels_of : Asof → List Cell
labels_of asof = asof.on ∷ asof.by
