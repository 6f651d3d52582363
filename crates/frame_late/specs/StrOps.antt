-- Methods of texts on objects, as their definitions see them.
use Rattle.std.specs.Prelude.{◌≡◌, true, List, [], ◌∷◌}
use Rattle.cell_core.specs.declared.cell.Cell.{Cell}
use Rattle.cell_core.specs.declared.cell.Cell.TheVariants.{Text as TextCell}
use Rattle.column_core.specs.cells.Text.{Text}
use Rattle.column_core.specs.cells.Cell.{CellValue, text_cell}
use Rattle.frame_labels.specs.method.StrCalls as meant
use Rattle.frame_labels.specs.method.text.TextMethod as method
use Rattle.frame_labels.specs.method.text.TextMethod.{TextMethod}
use Rattle.frame_store.specs.Arguments.{object_value}
use Rattle.frame_store.specs.World.{World}
use Rattle.frame_store.specs.declared.object.ObjId.{ObjId}
use Rattle.frame_store.specs.tables.Value.{table}
use Rattle.text_methods.specs.declared.ops.TextOp.{TextOp}
use Rattle.text_methods.specs.declared.ops.TextOp.TheVariants.{Len, Strip, Starts, Ends, Contains, Slice, Fill}

-- the cells that an operation holds: its pattern
abbrev pub held_cells : TextOp → List Cell
held_cells (Starts id) = TextCell id ∷ []
held_cells (Ends id) = TextCell id ∷ []
held_cells (Contains id) = TextCell id ∷ []
held_cells op = []

-- the text of a pattern
abbrev pub pattern_in : List CellValue → Text
pattern_in (text_cell t ∷ cells) = t
pattern_in cells = []

-- the method, where these are the cells that it holds
abbrev pub method_with : TextOp → List CellValue → TextMethod
method_with Len cells = method.len
method_with Strip cells = method.strip
method_with (Starts id) cells = method.starts (pattern_in cells)
method_with (Ends id) cells = method.ends (pattern_in cells)
method_with (Contains id) cells = method.contains (pattern_in cells)
method_with (Slice from to step) cells = method.slice from to step
method_with (Fill width) cells = method.fill width

-- the object is a Series of texts
abbrev pub HasTexts : World → ObjId → Type 0
HasTexts w on = meant.has_texts (table (object_value w.tables w.texts on)) ≡ true
