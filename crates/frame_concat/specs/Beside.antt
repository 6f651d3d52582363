-- Tables side by side.
use Rattle.std.specs.Prelude.{◌≡◌, ◌⊎◌, ℕ, List, map, length, All, Result, Ok}
use Rattle.cell_core.specs.Texts.{AreGiven}
use Rattle.column_core.specs.Blocks.{CellBlock}
use Rattle.column_core.specs.cells.Text.{Text}
use Rattle.column_core.specs.cells.Fault.{FaultValue}
use Rattle.frame_parts.specs.align.Faults.{met_rows}
use Rattle.frame_parts.specs.align.Targets.{reindexed}
use Rattle.meaning_method.specs.join.Concat.{united, repeated_on_any}
use Rattle.multi_index.specs.Axes.{AxisValue}
use Rattle.frame_store.specs.tables.Settled.{IsSettled}
use Rattle.frame_store.specs.tables.Table.{NumberedTable, Table}
use Rattle.frame_store.specs.tables.Value.{Entry}
use Rattle.frame_parts.specs.form.Finish.{limited}
use Rattle.frame_parts.specs.form.Infix.{same_tuple}
use Rattle.meaning_method.specs.Concat.{Concatenation, rows_met, labels_of_tables, table_beside, unless_label_twice}
use Rattle.frame_store.specs.Shown.{labels_value}
use Rattle.frame_store.specs.Parts.{block_column, IsSingle, HaveRows}

-- the labels of an axis are found in a part, each on one row at most
pub record IsAxisFor (texts : List Text) (axis : AxisValue) (t : NumberedTable) : Type 0 where
  pub levels : (axis.tuples ≡ t.labels) ⊎ (length axis.names ≡ length t.level_names)
  pub given : IsSettled labels_value texts axis.tuples
  pub meet : met_rows (reindexed same_tuple (labels_value texts t.labels) (labels_value texts axis.tuples)) ≡ Ok (rows_met (labels_value texts t.labels) (labels_value texts axis.tuples))

-- blocks of one column each and of so many rows, whose texts were given
pub record AreBlocks (texts : List Text) (rows : ℕ) (blocks : List CellBlock) : Type 0 where
  pub single : All IsSingle blocks
  pub filled : HaveRows rows (map block_column blocks)
  pub given : All (λ c. AreGiven texts c.cells) (map block_column blocks)

-- rows that meet by labels, each of which stands once in each part
abbrev pub met_beside : List Table → Concatenation → Result Entry FaultValue
met_beside ts c =
    unless_label_twice (repeated_on_any same_tuple (labels_of_tables ts))
    (limited (table_beside ts c.renumbered (united same_tuple c.inner (labels_of_tables ts))))
