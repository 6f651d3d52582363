-- A table under other headings.
use Rattle.cell_core.specs.declared.grid.Shape.{Shape}
use Rattle.frame_store.specs.tables.Table.{NumberedTable}
use Rattle.frame_store.specs.Parts.{HeadingList, table_with, axis_of}

-- the same rows and columns, under other headings
abbrev pub headed_by : Shape → HeadingList → NumberedTable → NumberedTable
headed_by shape headings t = table_with shape (axis_of t) headings t.columns
