-- Columns by their places: where one is put, and frames that share columns of others.
use Rattle.std.specs.Prelude.{ℕ, ◌<◌, ◌≤◌, List, [], ◌∷◌, map, fold, length, slice_set, Some, All}
use Rattle.std.specs.List.{range_with_len}
use Rattle.cell_core.specs.declared.cell.Cell.{Cell}
use Rattle.cell_core.specs.declared.cell.Label.{Label}
use Rattle.column_core.specs.cells.Text.{Text}
use Rattle.frame_store.specs.tables.Table.{ColumnOf, NumberedTable, column_at}
use Rattle.frame_select.specs.Selected.{headings_at}
use Rattle.frame_set.specs.declared.putting.Spot.{Spot}
use Rattle.frame_set.specs.declared.putting.Spot.TheVariants.{One, Several}

-- the places in which a column is put; a single one may be that after the last column
abbrev pub places_of : Spot → List ℕ
places_of (One place) = place ∷ []
places_of (Several places) = places

abbrev pub places_at : List Text → Spot → List ℕ
places_at texts spot = places_of spot

abbrev pub IsSpotIn : NumberedTable → Spot → Type 0
IsSpotIn t (One place) = place ≤ length t.columns
IsSpotIn t (Several places) = All (λ place. place < length t.columns) places

-- the frame of the columns at these places
abbrev pub columns_taken : NumberedTable → List ℕ → NumberedTable
columns_taken t places = record t { headings = headings_at t places; columns = map (column_at t.columns) places }

-- the frame with one more column, first
abbrev pub column_first : NumberedTable → Label → ColumnOf Cell → NumberedTable
column_first t label column = record t { headings = Some label ∷ t.headings; columns = column ∷ t.columns }

-- Behind one more column, each of so many columns stands one place further. At these places the one more is taken.
abbrev pub picks_of : ℕ → List ℕ → List ℕ
picks_of count places = fold (λ picks place. slice_set picks place 0) (range_with_len 1 count) places
