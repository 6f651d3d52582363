-- Labels of a list as headings, and lists that are lent.
use Rattle.std.specs.Prelude.{List, [], ◌∷◌, Option, Some, None}
use Rattle.std.specs.Borrow.{Bor}
use Rattle.std.specs.Option.{option_map}
use Rattle.cell_core.specs.declared.cell.Label.{Label}
use Rattle.column_core.specs.cells.Text.{Text}
use Rattle.frame_store.specs.tables.Value.{GivenList}
use Rattle.frame_store.specs.Objects.{Tables}
use Rattle.frame_store.specs.Arguments.{items_of}
use Rattle.frame_store.specs.declared.arguments.Item.{Item}

-- the one label of a tuple
abbrev pub heading_of : List Label → Option Label
heading_of (l ∷ []) = Some l
heading_of tuple = None

-- the parts of a list that is lent, if one is
abbrev pub list_lent : Tables → List Text → Option (Bor (List Item)) → Option GivenList
list_lent live texts items = option_map (λ (l : Bor (List Item)). items_of live texts l.now) items
