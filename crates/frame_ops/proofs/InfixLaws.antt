-- What an operator or a sign makes of its operands is what is meant.
use Rattle.{
  frame_parts.{proofs.Common.{◌≡◌, nat_eq, Bool, true, List, [], ◌∷◌, length, refl, arith, Result, Ok, Err, if◌then◌else◌, ℕ, suc, false, map, replicate, Some, length-map, list_all, Cell, Series, Text, AreGiven, CellValue, truth_cell, IsGiven, FaultValue, bad_value, not_aligned, then_value, Binary, NumberedTable, Table, table_value, column_at, no_column, ColumnOf, IsSettled, IsWhole, Entry, OpFault, Value, Object, Scalar, ObjId, headings_value, labels_value, Makes, entry_of, Tables, columns_given, columns_part, cell_given, with_columns, try_all, on_levels, same_tuples, are_headings, beside, compares, meets, met, with_scalar}, specs.form.Infix.{across_series, rows_infix, across_infix, is_truth_column, inverted_column, scalar_infix, inverted, sign_result}},
  column_core.{proofs.cells.Common.{try_pairs, operator_cell, invert_cell}, specs.cells.Symbol.{xor}},
  frame_select.proofs.AnswerLaws.{column_seen},
  frame_ops.{specs.{declared.{naming.Naming.TheVariants.{Kept}, other.Other.{Other, TheVariants.{Beside, Across}}}, Joining.{joined_after}, Namings.{named_by}, Pairs.{pairs_from, kinds_meet, meetings_value, levels_fit, IsOpposite, columns_meant}}, proofs.{HeadingLaws.{other_rows}, MeetingLaws.{table_meant, kinds_seen, beside_meetings, across_meetings, levels_same, levels_one}}},
}
use Rattle.frame_store.specs.tables.Value as value
use Rattle.frame_store.specs.tables.Value as value

pub makes_as : (texts : List Text) (made : Result NumberedTable OpFault) (x y : Result Entry FaultValue) → Makes texts made x → x ≡ y → Makes texts made y
makes_as = grind arith

-- the columns that are met, as a table
abbrev pub met_table : Binary → List Text → NumberedTable → Other → Table → Result Entry FaultValue
met_table op texts on other t =
    then_value (columns_meant op (length on.labels) (levels_fit on other) (meetings_value texts (pairs_from other 0 on.columns))) (λ columns. Ok (value.table (with_columns t columns)))

-- two tables
module _ (op : Binary) (texts : List Text) (a b : NumberedTable) (columns : length b.columns ≡ length a.columns) where
  abbrev v : Table
  v = table_value texts a

  abbrev w : Table
  w = table_value texts b

  met_beside : meetings_value texts (pairs_from (Beside b) 0 a.columns) ≡ beside v.columns w.columns
  met_beside = search beside_meetings

  -- where the rows are equal
  pub rows_are_meant : (t : Table) → length t.labels ≡ length a.labels → same_tuples v.labels w.labels ≡ true → met_table op texts a (Beside b) t ≡ rows_infix op v w t
  rows_are_meant t rows equal = grind (arith, table_meant, met_beside, levels_same, equal)

  -- and where they aren't, by the tests
  pub joined_tests : (rest : Result Entry FaultValue) → joined_after op v w rest
      ≡ on_levels (list_all (kinds_meet op) (pairs_from (Beside b) 0 a.columns)) (nat_eq (length a.level_names) (length b.level_names)) (if compares op then Err (bad_value not_aligned) else rest)
  joined_tests = grind (arith, met_beside, levels_same, kinds_seen)

-- a frame and a Series across
module _ (texts : List Text) (f s : NumberedTable) (left : Bool) (whole : IsWhole f) (whole' : IsWhole s) (series : s.shape ≡ Series) (same : are_headings (labels_value texts s.labels) (headings_value texts f.headings) ≡ true) where
  -- a Series has a cell for each column of the frame
  pub across_opposite : IsOpposite f (Across s left)
  across_opposite = grind (arith, other_rows)

  pub across_is_meant : (op : Binary) → met_table op texts f (Across s left) (table_value texts (named_by f Kept)) ≡ across_infix op left (table_value texts f) (table_value texts s)
  across_is_meant op =
      let first = column_seen texts s.columns 0 in
      let rows : length f.labels ≡ length (table_value texts f).labels = search length-map in
      let met_across : meetings_value texts (pairs_from (Across s left) 0 f.columns) ≡ across_series left (table_value texts f) (table_value texts s) = grind (arith, across_meetings, across_opposite.1) in
      grind (arith, table_meant, met_across, levels_one)

-- the texts of the one column of a Series
pub series_given : (texts : List Text) (s : NumberedTable) → IsWhole s → s.shape ≡ Series → IsSettled table_value texts s → AreGiven texts (column_at s.columns 0).cells
series_given _ s whole is settled = columns_given _ _ (columns_part _ s settled) 0 no_column (grind arith)

-- `~x` is `x ^ True`, and what the values of an expression are.
all_cells : (row : ℕ) (xs : List CellValue) → try_pairs (operator_cell xor) row xs (replicate (length xs) (truth_cell true)) ≡ Ok (map invert_cell xs)
all_cells _ [] = refl
all_cells row (x ∷ xs) = grind (arith, all_cells (suc row) xs)

all_columns : (cs : List (ColumnOf CellValue)) → try_all (met xor) (map (with_scalar (truth_cell true)) cs) ≡ try_all inverted_column cs
all_columns [] = refl
all_columns (c ∷ cs) = grind (arith, all_cells, all_columns cs)

all_kinds : (cs : List (ColumnOf CellValue)) → list_all (meets xor) (map (with_scalar (truth_cell true)) cs) ≡ list_all is_truth_column cs
all_kinds [] = refl
all_kinds (c ∷ cs) = grind (arith, all_kinds cs)

pub inverted_by_xor : (t : Table) → scalar_infix xor false t (truth_cell true) ≡ inverted (value.table t)
inverted_by_xor = search (length-map, all_kinds, all_columns)

-- the text of a scalar was given
pub scalar_given : (texts : List Text) (tables : Tables) (c : Cell) → IsSettled (entry_of tables) texts (Scalar c) → IsGiven texts c
scalar_given = grind (arith, cell_given)

pub inverted_as_read : (texts : List Text) (tables : Tables) (negate : Bool) (a : Value) (id : ObjId) (t : NumberedTable) → negate ≡ false → a ≡ Object id → tables id.0 ≡ Some t
    → inverted (value.table (table_value texts t)) ≡ sign_result negate (entry_of tables texts a)
inverted_as_read = grind arith
