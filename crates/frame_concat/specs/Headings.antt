-- The headings of what is put together.
use Rattle.std.specs.Prelude.{ℕ, ◌+◌, pos, Bool, true, List, [], ◌∷◌, filter, Option, Some, None, if◌then◌else◌}
use Rattle.std.specs.List.{list_all, list_any}
use Rattle.cell_core.specs.declared.cell.Label.{Label}
use Rattle.cell_core.specs.declared.cell.Label.TheVariants as label
use Rattle.frame_store.specs.tables.Table.{NumberedTable}
use Rattle.frame_concat.specs.Parts.{same_heading}

-- all parts have a heading
abbrev pub held_by_all : List NumberedTable → Option Label → Bool
held_by_all parts h = list_all (λ t. list_any (same_heading h) t.headings) parts

abbrev pub common_headings : List (Option Label) → List NumberedTable → List (Option Label)
common_headings first others = filter (held_by_all others) first

-- numbers from n on in the place of all headings, or of those that are missing
abbrev pub gets_number : Bool → Option Label → Bool
gets_number all None = true
gets_number all (Some l) = all

abbrev pub numbered : Bool → ℕ → List (Option Label) → List (Option Label)
numbered all n [] = []
numbered all n (h ∷ hs) = if gets_number all h then Some (label.Int (pos n)) ∷ numbered all (n + 1) hs else h ∷ numbered all n hs
