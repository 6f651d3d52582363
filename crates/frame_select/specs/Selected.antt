-- What stands before a subscript, and what is read of subscripts and lists.
use Rattle.std.specs.Prelude.{ℕ, Bool, false, List, map, slice_index_or, Option, Some, None, IfSome, option_map, if◌then◌else◌}
use Rattle.std.specs.Borrow.{Bor}
use Rattle.cell_core.specs.declared.cell.Label.{Label}
use Rattle.column_core.specs.cells.Text.{Text}
use Rattle.column_core.specs.cells.Cell.{CellValue}
use Rattle.column_core.specs.cells.Symbol.{loc, iloc, at, iat}
use Rattle.frame_store.specs.tables.Table.{NumberedTable}
use Rattle.frame_store.specs.tables.Value.{Given, GivenList, GivenSub, cell, one}
use Rattle.frame_parts.specs.form.Given.{each, is_scalar, is_truth}
use Rattle.frame_parts.specs.form.Select.{cells_of}
use Rattle.meaning_charge.specs.select.Select.{Way, plain, through}
use Rattle.frame_store.specs.World.{World, subscript_in, IsKnownSubscript}
use Rattle.frame_store.specs.declared.arguments.Subscript.{Subscript}
use Rattle.frame_store.specs.declared.arguments.Selector.{Selector}
use Rattle.frame_store.specs.declared.arguments.Selector.TheVariants as selector
use Rattle.frame_select.specs.declared.labels.Named.{Named}

abbrev pub way_of : Selector → Way
way_of selector.Plain = plain
way_of selector.Loc = through loc
way_of selector.Iloc = through iloc
way_of selector.At = through at
way_of selector.Iat = through iat

-- the second subscript, if there is one, and that it is known
abbrev pub second_in : World → Option (Bor Subscript) → Option GivenSub
second_in w second = option_map (λ key. subscript_in w key.now) second

abbrev pub IsKnownSecond : World → Option (Bor Subscript) → Type 0
IsKnownSecond w second = IfSome second (λ key. IsKnownSubscript w key.now)

-- the scalars of a list of scalars alone
abbrev pub scalars_in : GivenList → Option (List CellValue)
scalars_in parts = if each is_scalar parts then Some (cells_of parts) else None

-- each part of a list is a truth value
abbrev pub is_truth_part : Given → Bool
is_truth_part (one (cell c)) = is_truth c
is_truth_part g = false

abbrev pub each_truth : GivenList → Bool
each_truth parts = each is_truth_part parts

-- what doesn't depend on texts
abbrev pub as_it_is : {X : Type 0} → List Text → X → X
as_it_is texts x = x

-- the first columns that labels name
abbrev pub places_named : List Text → Named → List ℕ
places_named texts named = named.places

-- the headings of the columns at these places
abbrev pub heading_of : NumberedTable → ℕ → Option Label
heading_of t place = slice_index_or t.headings place None

abbrev pub headings_at : NumberedTable → List ℕ → List (Option Label)
headings_at t places = map (heading_of t) places
