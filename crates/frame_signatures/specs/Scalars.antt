-- The scalars of a list that is given.
use Rattle.std.specs.Prelude.{List, ◌∷◌, Option, Some, None}
use Rattle.frame_store.specs.cells.Text.{Text}
use Rattle.frame_store.specs.cells.Cell.{CellValue}
use Rattle.meaning_call.specs.form.Select.{cells_of}
use Rattle.frame_store.specs.Arguments.{items_of}
use Rattle.frame_store.specs.declared.arguments.Item.{Item}

-- the scalars among the parts of a list; an object is none, so its table doesn't matter
abbrev pub scalars : List Text → List Item → List CellValue
scalars texts items = cells_of (items_of (λ id. None) texts items)

-- with one more in front, where there is one
abbrev pub with_cell : Option CellValue → List CellValue → List CellValue
with_cell None cells = cells
with_cell (Some c) cells = c ∷ cells
