-- The definitions at examples.
use Rattle.{meaning_asof.proofs.pick.cells.Common.{◌≡◌, refl, ℕ, pos, List, [], ◌∷◌, map, Option, Some, None, Result, Ok, Err}, std.specs.Prelude.{codes}, meaning_method.specs.{call.cell_core.declared.{cell.Kind.TheVariants.{Int64, Text as string}, grid.Shape.TheVariants.{Frame}}, cells.{Text.{Text}, Cell.{CellValue, LabelValue, int_cell, text_cell, na_cell, text}, Fault.{FaultValue, bad_value, repeated, key_kinds, unsorted, no_key, left, right}}, tables.{Table.{ColumnOf, Table}, Value.{Entry, table}}, form.Finish.{default_labels}}, meaning_nearest.specs.AsofMerge.{AsofMerge, asof_tables}, meaning_asof.specs.declared.Direction.TheVariants.{Backward, Forward}}

abbrev t : LabelValue
t = text (codes "t")

abbrev g : LabelValue
g = text (codes "g")

abbrev p : LabelValue
p = text (codes "p")

abbrev numbers : List ℕ → ColumnOf CellValue
numbers ns = record { kind = Int64; cells = map (λ n. int_cell (pos n)) ns }

abbrev texts : List Text → ColumnOf CellValue
texts ts = record { kind = string; cells = map text_cell ts }

abbrev frame : ℕ → List LabelValue → List (ColumnOf CellValue) → Table
frame rows labels columns = record { shape = Frame; columns_name = None; level_names = None ∷ []; labels = default_labels rows; headings = map Some labels; columns = columns }

abbrev lefts : Table
lefts = frame 3 (t ∷ g ∷ []) (numbers (1 ∷ 5 ∷ 10 ∷ []) ∷ texts (codes "a" ∷ codes "b" ∷ codes "a" ∷ []) ∷ [])

abbrev rights : Table
rights = frame 4 (t ∷ g ∷ p ∷ []) (numbers (1 ∷ 5 ∷ 5 ∷ 9 ∷ []) ∷ texts (codes "a" ∷ codes "b" ∷ codes "b" ∷ codes "a" ∷ []) ∷ numbers (10 ∷ 20 ∷ 30 ∷ 40 ∷ []) ∷ [])

-- the last row of a group
last_of_a_group : asof_tables lefts rights record { on = t; by = g ∷ []; tolerance = None; direction = Backward }
    ≡ Ok (table (frame 3 (t ∷ g ∷ p ∷ []) (numbers (1 ∷ 5 ∷ 10 ∷ []) ∷ texts (codes "a" ∷ codes "b" ∷ codes "a" ∷ []) ∷ numbers (10 ∷ 30 ∷ 40 ∷ []) ∷ [])))
last_of_a_group = refl

-- the first of all rows, and none where it is too far
first_within : asof_tables lefts rights record { on = t; by = []; tolerance = Some 3; direction = Forward }
    ≡ Ok (table (frame 3 (t ∷ text (codes "g_x") ∷ text (codes "g_y") ∷ p ∷ [])
    (numbers (1 ∷ 5 ∷ 10 ∷ []) ∷ texts (codes "a" ∷ codes "b" ∷ codes "a" ∷ []) ∷ record { kind = string; cells = text_cell (codes "a") ∷ text_cell (codes "b") ∷ na_cell ∷ [] }
    ∷ record { kind = Int64; cells = int_cell (pos 10) ∷ int_cell (pos 20) ∷ na_cell ∷ [] } ∷ [])))
first_within = refl

-- refusals
unsorted_side : asof_tables (frame 2 (t ∷ []) (numbers (5 ∷ 1 ∷ []) ∷ [])) lefts record { on = t; by = []; tolerance = None; direction = Backward } ≡ Err (bad_value (unsorted left 1))
unsorted_side = refl

-- each label by itself: the first repeats, before the second is sought
label_by_itself : asof_tables (frame 1 (g ∷ g ∷ []) (numbers (1 ∷ []) ∷ numbers (1 ∷ []) ∷ [])) (frame 1 (g ∷ []) (numbers (1 ∷ []) ∷ [])) record { on = g; by = p ∷ []; tolerance = None; direction = Backward } ≡ Err (bad_value (repeated (g ∷ [])))
label_by_itself = refl

absent_label : asof_tables lefts rights record { on = t; by = p ∷ []; tolerance = None; direction = Backward } ≡ Err (no_key (p ∷ []))
absent_label = refl

key_of_texts : asof_tables lefts rights record { on = g; by = []; tolerance = None; direction = Backward } ≡ Err (bad_value key_kinds)
key_of_texts = refl
