-- Columns whose cells become one column.
use Rattle.{column_core.{proofs.cells.Common.{◌≡◌, ◌∙◌, ◌+◌, ◌*◌, ◌-◌, ◌^◌, ℕ, Bool, true, false, cond, List, [], ◌∷◌, ◌++◌, refl, sym, ap, arith, length, map, nat_le, nat_tests, Some, None, Ok, Err, slice_index_or, append-nil, length-map, get_or-map, get_or-range_with_len, length-range_with_len, range_with_len, flat_map, flat_map-append, Cell, Na, Kind, ColumnValue, datum, Label}, specs.Columns.{CellColumn, column_value}}, std.proofs.Math.ListN.{get_or-map as seen_at}, meaning_shapes.{specs.{join.Concat.{mixed_kinds, too_large}, Reshape.{cells_of_row, count_of_rows, cells_by_row, column_by_row, stacked}}, proofs.GridLaws.{length-even, even_at, map-flat_map}}, merge_concat.{proofs.{JoinLaws.{range_more}, BelowLaws.{kinds_seen, column_if}}, specs.Parts.{common_kind}}, reshape.specs.Blocks.{height_of, row_of_cells, cells_across, AreByRow}}

-- one row more
pub row_more : (rows : ℕ) (columns : List CellColumn) → cells_across (rows + 1) columns ≡ cells_across rows columns ++ row_of_cells columns rows
row_more = search (range_more, flat_map-append, append-nil)

module _ (columns : List CellColumn) where
  pub across_counted : (rows : ℕ) → length (cells_across rows columns) ≡ rows * length columns
  across_counted rows = length-even (row_of_cells columns) (length columns) (λ row. length-map columns _) (range_with_len 0 rows) ∙ ap (λ n. n * length columns) (length-range_with_len 0 rows)

  pub across_is : (cells : List Cell) → cells ≡ cells_across (height_of columns) columns → AreByRow columns cells
  across_is cells is = record {
    count = ap length is ∙ across_counted (height_of columns);
    each = λ r c d lt inside.
        ap (λ xs. slice_index_or xs (r * length columns + c) Na) is
        ∙ even_at (row_of_cells columns) (length columns) (λ row. length-map columns _) (range_with_len 0 (height_of columns)) r c 0 Na (omega (arith, length-range_with_len 0 (height_of columns), lt)) inside
        ∙ grind (arith, get_or-range_with_len 0 (height_of columns) r 0 lt, get_or-map (λ (column : CellColumn). slice_index_or column.cells r Na) columns c d Na inside);
  }

module _ (texts : List (List ℕ)) where
  abbrev value_of : CellColumn → ColumnValue
  value_of = column_value texts

  row_seen : (columns : List CellColumn) (row : ℕ) → cells_of_row (map value_of columns) row ≡ map (datum texts) (row_of_cells columns row)
  row_seen [] row = refl
  row_seen (column ∷ columns) row = cc (row_seen columns row, seen_at (datum texts) column.cells row Na)

  height_seen : (columns : List CellColumn) → count_of_rows (map value_of columns) ≡ height_of columns
  height_seen [] = refl
  height_seen (column ∷ columns) = length-map column.cells _

  cells_seen : (columns : List CellColumn) → cells_by_row (map value_of columns) ≡ map (datum texts) (cells_across (height_of columns) columns)
  cells_seen columns = (λ i. flat_map (λ row. row_seen columns row i) (range_with_len 0 (height_seen columns i))) ∙ sym (map-flat_map (datum texts) (row_of_cells columns) (range_with_len 0 (height_of columns)))

  by_row_is : (columns : List CellColumn) → column_by_row (map value_of columns) ≡ column_if texts (common_kind columns) (map (datum texts) (cells_across (height_of columns) columns))
  by_row_is [] = refl
  by_row_is (column ∷ columns) = grind (arith, kinds_seen texts column.kind columns, cells_seen (column ∷ columns))

  module _ (columns : List CellColumn) where
    -- what is answered
    pub is_mixed : common_kind columns ≡ None → stacked {K = List Label} (map value_of columns) ≡ Err mixed_kinds
    is_mixed none = cc (by_row_is columns)

    module _ (kind : Kind) (found : common_kind columns ≡ Some kind) where
      within : (b : Bool) → nat_le (height_of columns * length columns) (2 ^ 26) ≡ b
          → stacked {K = List Label} (map value_of columns) ≡ cond b (Ok record { kind = kind; cells = map (datum texts) (cells_across (height_of columns) columns) }) (Err too_large)
      within b is = grind (arith, by_row_is columns, length-map (cells_across (height_of columns) columns) (datum texts), across_counted columns (height_of columns), nat_tests)

      pub is_too_large : nat_le (height_of columns * length columns) (2 ^ 26) ≡ false → stacked {K = List Label} (map value_of columns) ≡ Err too_large
      is_too_large = within false

      pub is_made : (column : CellColumn) → nat_le (height_of columns * length columns) (2 ^ 26) ≡ true → column ≡ record { kind = kind; cells = cells_across (height_of columns) columns } → stacked {K = List Label} (map value_of columns) ≡ Ok (column_value texts column)
      is_made column few is = within true few ∙ ap (λ c. Ok (column_value texts c)) (sym is)
