-- Series over the labels of columns.
use Rattle.{
  frame_parts.{proofs.Common.{arith, ◌≡◌, refl, ap, sym, true, List, [], ◌∷◌, map, length, None, Ok, length-map, Kind, Series, Frame, Text, datum, AreGiven, CellColumn, AxisValue, NumberedTable, table_value, heading_value, table, IsSettled, within_limits, try_all, table_with, table_column, labels_value, headings_value, columns_value, settled_by, columns_name_part, headings_part, columns_settled, table_settled}, specs.form.Finish.{across_columns}},
  frame_labels.{specs.{method.Methods.{Summary, kind_for, summary_as, summary_of}, Labels.{column_tuple}}, proofs.{TableLaws.{limited_within}, ColumnLabelLaws.{tuples_seen}}},
}

abbrev summaries_axis : NumberedTable → AxisValue
summaries_axis t = record { tuples = map column_tuple t.headings; names = t.columns_name ∷ [] }

abbrev summaries_table : NumberedTable → AxisValue → CellColumn → NumberedTable
summaries_table t axis cells = table_with Series axis record { columns_name = None; labels = None ∷ [] } (table_column cells ∷ [])

series_seen : (texts : List Text) (t : NumberedTable) (kind : Kind) (cells : CellColumn) → cells.kind ≡ kind
    → across_columns (table_value texts t) None kind (map (datum texts) cells.cells) ≡ table_value texts (summaries_table t (summaries_axis t) cells)
series_seen texts t kind cells same = λ j.
    record {
      shape = Series;
      columns_name = None;
      level_names = heading_value texts t.columns_name ∷ [];
      labels = tuples_seen texts t.headings j;
      headings = None ∷ [];
      columns = record { kind = sym same j; cells = map (datum texts) cells.cells } ∷ [];
    }

-- the Series is what is meant, and it is settled
pub frame_made : (op : Summary) (texts : List Text) (t made : NumberedTable) (kind : Kind) (axis : AxisValue) (cells : CellColumn)
    → try_all (summary_as op kind) (columns_value texts t.columns) ≡ Ok (map (datum texts) cells.cells) → kind ≡ kind_for op (columns_value texts t.columns) → cells.kind ≡ kind
    → within_limits (length t.columns) 1 ≡ true → length t.headings ≡ length t.columns → axis ≡ summaries_axis t → made ≡ summaries_table t axis cells → IsSettled table_value texts t → AreGiven texts cells.cells
    → (summary_of Frame op (table_value texts t) ≡ Ok (table (table_value texts made))) × IsSettled table_value texts made
frame_made _ texts t _ kind _ cells all kinds same within headed axis_is is settled given = (
  grind (arith, limited_within, length-map, series_seen texts t kind cells same),
  rw (is, axis_is)
      (table_settled _ (summaries_table t (summaries_axis t) cells)
      (λ more. refl)
      (λ more. ap (λ n. n ∷ []) (columns_name_part _ t settled more))
      (settled_by headings_value labels_value (map _) _ _ _ (λ ts. tuples_seen ts _) (headings_part _ t settled))
      (λ more. refl)
      (columns_settled _ (table_column cells ∷ []) (grind arith))),
)
