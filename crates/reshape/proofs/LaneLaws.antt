-- The values of columns of one kind, row after row.
use Rattle.{column_core.{proofs.{cells.Common.{◌≡◌, ◌∙◌, ◌<◌, ◌+◌, ℕ, Bool, List, [], ◌∷◌, ◌++◌, refl, sym, ap, arith, length, map, map-append, take, All, Option, slice_index_or, map_more, map-map, length-map, length-map-range_with_len, get_or-map, get_or-map-range_with_len, append_assoc, Cell, Na, Kind, Int64}, CellRows.{pushed_column}}, specs.{Lanes.{lane_row, IsPushed}, Columns.{CellColumn}, declared.lanes.Lane.{Lane}}}, merge_concat.specs.Growing.{cells_of_values, cells_of_lane}, reshape.specs.Blocks.{row_of_cells}}

module _ {T : Type 0} (cell : Option T → Cell) where
  -- one lane more
  pub lane_more : (columns : List CellColumn) (i : ℕ) (column : CellColumn) (lanes lanes' : List (Lane T)) (lane : Lane T) → i < length columns → column ≡ slice_index_or columns i column → cells_of_lane cell lane ≡ column.cells
      → map (cells_of_lane cell) lanes ≡ map (λ (c : CellColumn). c.cells) (take i columns) → lanes' ≡ lanes ++ lane ∷ [] → map (cells_of_lane cell) lanes' ≡ map (λ (c : CellColumn). c.cells) (take (i + 1) columns)
  lane_more columns i column lanes lanes' lane lt is at before pushed = grind (arith, map_more (λ (c : CellColumn). c.cells) columns i column lt, map-append)

  -- one value more
  pub value_more : (kind : Kind) (old : List Cell) (values values' : List T) (present present' : List Bool) (lanes : List (Lane T)) (i row : ℕ) (lane : Lane T) → i < length lanes → lane ≡ slice_index_or lanes i lane → row < lane.count
      → IsPushed values present (lane_row lane.values.now lane.present.now lane.start lane.stride lane.back row) values' present'
      → cells_of_values cell values present ≡ old ++ map (λ lane. slice_index_or (cells_of_lane cell lane) row Na) (take i lanes)
      → cells_of_values cell values' present' ≡ old ++ map (λ lane. slice_index_or (cells_of_lane cell lane) row Na) (take (i + 1) lanes)
  value_more kind old values values' present present' lanes i row lane lt is below pushed before =
      let at = λ (k : ℕ). lane_row lane.values.now lane.present.now lane.start lane.stride lane.back k in
      let here : slice_index_or (cells_of_lane cell lane) row Na ≡ cell (at row) = get_or-map-range_with_len (λ k. cell (at k)) 0 lane.count row row Na below (omega arith) in
      grind (arith, pushed_column kind cell values present (at row) values' present' (cell (at row)) pushed refl, map_more (λ (lane : Lane T). slice_index_or (cells_of_lane cell lane) row Na) lanes i lane lt, append_assoc)

  -- lanes as long as their columns
  pub lanes_counted : (columns : List CellColumn) (lanes : List (Lane T)) (rows : ℕ) → map (cells_of_lane cell) lanes ≡ map (λ (c : CellColumn). c.cells) columns → All (λ column. length column.cells ≡ rows) columns → All (λ lane. lane.count ≡ rows) lanes
  lanes_counted columns lanes rows is all k d lt =
      let none : CellColumn = record { kind = Int64; cells = [] } in
      let inside : k < length columns = omega (arith, ap length is, length-map lanes (cells_of_lane cell), length-map columns (λ (c : CellColumn). c.cells), lt) in
      sym (length-map-range_with_len _ 0 (slice_index_or lanes k d).count)
      ∙ ap length (sym (get_or-map (cells_of_lane cell) lanes k d [] lt) ∙ ap (λ xs. slice_index_or xs k []) is ∙ get_or-map (λ (c : CellColumn). c.cells) columns k none [] inside)
      ∙ all k none inside

  pub row_is : (columns : List CellColumn) (lanes : List (Lane T)) (row : ℕ) → map (cells_of_lane cell) lanes ≡ map (λ (c : CellColumn). c.cells) columns → map (λ lane. slice_index_or (cells_of_lane cell lane) row Na) lanes ≡ row_of_cells columns row
  row_is columns lanes row is = sym (map-map (λ cells. slice_index_or cells row Na) (cells_of_lane cell) lanes) ∙ ap (map (λ cells. slice_index_or cells row Na)) is ∙ map-map (λ cells. slice_index_or cells row Na) (λ (c : CellColumn). c.cells) columns
