-- Methods of another shape make valid tables of valid ones.
use Rattle.{
  meaning_script.{specs.{cells.Cell.{string, text}, join.Concat.{same_kind}, shapes.Reshape.{SpreadOf, cells_of_row, count_of_rows, column_by_row}, tables.{Table.{Table, column_at}, Value.{Given, scalar_in}}, call.{declared.{ReshapeMethod.{ReshapeMethod}, Method.TheVariants.{Reshape}}, Signature.{method_names, fits_shape}}, form.{Finish.{column_labels, value_of_column, column_of_value}, Infix.{same_tuple, tuple_before}, Select.{argument_column}}, select.Select.{row_name}, method.{Concat.{columns_below}, Groups.{keys_of, groups_of, headings_of, keys_in}, Rows.{labels_in, cells_by_row, all_places, without_missing}, Reshape.{stacked_labels, stacked, stack_result, labels_besides, labels_on, met_labels, places_of_column, spread_frame, unstacked_at, unstack_result, Pivoted, place_in, pivoted_in, label_places, under_cells, pivoted, pivot_result, groups_by, group_series, answered_groups, pivot_table_result, Melted, kept_in, values_named, melted_in, heading_cell, kept_column, value_labels, label_column, label_heading, melted, melt_result, reshaped}}, group.Reductions.{GroupReduction, reduce_groups}}, proofs.{cells.Common.{◌≡◌, ◌∙◌, refl, sym, ap, subst, ℕ, ◌+◌, ◌*◌, ◌<◌, ◌≤◌, List, [], ◌∷◌, ◌++◌, length, map, arith, length-append, length-map, length-replicate, length-remove, length-range_with_len, All-nil, All-cons, All-head, All-tail, All-append, All-replicate, Bool, true, false, replicate, remove, slice_index_or, codes, Option, Some, None, IsSome, IfOk, IfSome, All, list_all, flat_map, range_with_len, Kind, Frame, Int64, CellValue, LabelValue, ColumnValue, na_cell, cell_label, nat_tests, is_present}, align.OrderLaws.{all_flat, all_distinct, all_in_order}, tables.KindLaws.{kind_is}, call.ShapeLaws.{of_frame}, pick.InsideLaws.{rows_inside}}},
  meaning_laws.{specs.Validity.{IsValidEntry}, proofs.{Words.{AllOf, Has, Keeps, Column, Tuple, Levelled, IsFrame}, ListLaws.{both_true, all_made, all_mapped, at_or, length_tabulate, then_keeps, on_keeps, on_some_keeps}, ColumnLaws.{IsColumnOf, IsColumn, Held, na_held, list_keeps}, TableLaws.{IsShaped, shaped, limited_keeps, column_of_table, cells_held, some_labelled, series_heading, frame_headings, argument_column_found}, InfixLaws.{gap_held}, RowLaws.{rows_counted}, ReachLaws.{some_below, rows_shaped}, SetLaws.{length_default, default_levels}, GroupLaws.{one_column, places_found, rows_have, under_body, reduce_makes, each_makes, IsBody, frame_keeps, AreBelow, AreKeys}, LevelLaws.{on_levels_keep, IsLevel, level_of_keeps, of_several_keeps, dropped_has, name_there}}},
}
use Rattle.meaning_script.specs.call.declared.ReshapeMethod.TheVariants as method
use Rattle.meaning_script.specs.shapes.Reshape as reshape

-- lists of one length, one after the other
flat_count : {X Y : Type 0} (n : ℕ) (f : X → List Y) (xs : List X) → All (λ x. length (f x) ≡ n) xs → length (flat_map f xs) ≡ length xs * n
flat_count n f [] so = grind arith
flat_count n f (x ∷ xs) so = length-append (f x) (flat_map f xs) ∙ grind (arith, All-head (λ x. length (f x) ≡ n) x xs so, flat_count n f xs (All-tail (λ x. length (f x) ≡ n) x xs so))

-- `stack`
-- the cells of columns, row after row
row_count : (rows : ℕ) (cs : List Column) → All (IsColumn rows) cs → count_of_rows (map value_of_column cs) * length (map value_of_column cs) ≡ rows * length cs
row_count rows [] h = grind arith
row_count rows (c ∷ cs) h = grind (arith, length-map, All-head (IsColumn rows) c cs h)

cells_count : (rows : ℕ) (cs : List Column) → All (IsColumn rows) cs → length (reshape.cells_by_row (map value_of_column cs)) ≡ rows * length cs
cells_count rows cs h =
    let columns = map value_of_column cs in
    let rows' = range_with_len 0 (count_of_rows columns) in
    flat_count (length columns) (cells_of_row columns) rows' (λ k d lt. length-map columns _) ∙ ap (λ n. n * length columns) (length-range_with_len 0 _) ∙ row_count rows cs h

abbrev HoldAll : Kind → List ColumnValue → Type 0
HoldAll kind columns = All (λ c. All (Held kind) c.cells) columns

alike_held : (rows : ℕ) (kind : Kind) (cs : List Column) → All (IsColumn rows) cs → list_all (λ (other : ColumnValue). same_kind kind other.kind) (map value_of_column cs) ≡ true → HoldAll kind (map value_of_column cs)
alike_held rows kind [] h alike = All-nil (λ (c : ColumnValue). All (Held kind) c.cells)
alike_held rows kind (c ∷ cs) h alike =
    let both = both_true _ _ alike in
    All-cons (λ (c : ColumnValue). All (Held kind) c.cells) _ _
    (rw (kind_is kind c.kind both.0) (All-head (IsColumn rows) c cs h).held) (alike_held rows kind cs (All-tail (IsColumn rows) c cs h) both.1)

rows_held : (kind : Kind) (columns : List ColumnValue) → HoldAll kind columns → All (Held kind) (reshape.cells_by_row columns)
rows_held kind columns h =
    all_flat (Held kind) (λ row. Unit {0}) (cells_of_row columns)
    (λ row _. all_made (λ (c : ColumnValue). All (Held kind) c.cells) (Held kind) _ (λ c k. at_or (Held kind) c.cells row na_cell (na_held kind) k) columns h)
    (range_with_len 0 (count_of_rows columns)) (λ k d lt. tt)

by_row_held : (rows : ℕ) (cs : List Column) → All (IsColumn rows) cs → IfSome (column_by_row (map value_of_column cs)) (λ c. IsColumnOf (rows * length cs) c.kind c.cells)
by_row_held rows [] h = record { filled = cells_count rows [] h; held = All-nil (Held Int64) }
by_row_held rows (c ∷ cs) h = by _ refl
  where
    all : list_all (λ (other : ColumnValue). same_kind c.kind other.kind) (map value_of_column cs) ≡ true → HoldAll c.kind (map value_of_column (c ∷ cs))
    all alike = All-cons (λ (c' : ColumnValue). All (Held c.kind) c'.cells) (value_of_column c) (map value_of_column cs) (All-head (IsColumn rows) c cs h).held (alike_held rows c.kind cs (All-tail (IsColumn rows) c cs h) alike)

    by : (b : Bool) → list_all (λ (other : ColumnValue). same_kind c.kind other.kind) (map value_of_column cs) ≡ b → IfSome (column_by_row (map value_of_column (c ∷ cs))) (λ c'. IsColumnOf (rows * length (c ∷ cs)) c'.kind c'.cells)
    by true e =
        let made : IsColumnOf (rows * length (c ∷ cs)) c.kind (reshape.cells_by_row (map value_of_column (c ∷ cs))) = record { filled = cells_count rows (c ∷ cs) h; held = rows_held c.kind (map value_of_column (c ∷ cs)) (all e) } in
        grind (arith, made)
    by false e = grind arith

-- columns one below the other
below_keeps : (rows : ℕ) (cs : List Column) → All (IsColumn rows) cs → IfOk (columns_below cs) (IsColumn (length cs * rows))
below_keeps rows [] h = record { filled = grind arith; held = All-nil (Held Int64) }
below_keeps rows (c ∷ cs) h = by _ refl
  where
    all : list_all (λ (other : ColumnValue). same_kind c.kind other.kind) (map value_of_column cs) ≡ true → HoldAll c.kind (map value_of_column (c ∷ cs))
    all alike = All-cons (λ (c' : ColumnValue). All (Held c.kind) c'.cells) (value_of_column c) (map value_of_column cs) (All-head (IsColumn rows) c cs h).held (alike_held rows c.kind cs (All-tail (IsColumn rows) c cs h) alike)

    by : (b : Bool) → list_all (λ (other : ColumnValue). same_kind c.kind other.kind) (map value_of_column cs) ≡ b → IfOk (columns_below (c ∷ cs)) (IsColumn (length (c ∷ cs) * rows))
    by true e =
        let parts = map value_of_column (c ∷ cs) in
        let filled : length (flat_map (λ (part : ColumnValue). part.cells) parts) ≡ length (c ∷ cs) * rows = flat_count rows (λ (part : ColumnValue). part.cells) parts (all_made (IsColumn rows) (λ (part : ColumnValue). length part.cells ≡ rows) value_of_column (λ d k. k.filled) (c ∷ cs) h) ∙ ap (λ n. n * rows) (length-map (c ∷ cs) value_of_column) in
        let held : All (Held c.kind) (flat_map (λ (part : ColumnValue). part.cells) parts) = all_flat (Held c.kind) (λ (part : ColumnValue). All (Held c.kind) part.cells) (λ part. part.cells) (λ part k. k) parts (all e) in
        grind (arith, filled, held)
    by false e = grind arith

module _ (t : Table) where
  stacked_count : length (stacked_labels t) ≡ length t.labels * length t.headings
  stacked_count = flat_count _ _ t.labels (λ k d lt. length-map _ _ ∙ length-map t.headings _)

  with_column : (n : ℕ) (labels column : Tuple) → Has n labels → Has 1 column → Has (n + 1) (labels ++ column)
  with_column = grind (arith, length-append)

  stacked_levels : IsShaped t → Levelled (length t.level_names + 1) (stacked_labels t)
  stacked_levels s =
      all_flat (Has (length t.level_names + 1)) (Has (length t.level_names)) _
      (λ labels k. all_made (Has 1) (Has (length t.level_names + 1)) _ (λ column one. with_column _ labels column k one) (column_labels t) (all_mapped (Has 1) _ (λ h. refl) t.headings))
      t.labels s.levels

  stacked_shaped : (c : ColumnValue) → IsShaped t → length t.level_names + 1 ≤ 4 → IsColumnOf (length t.labels * length t.columns) c.kind c.cells → IsShaped (stacked t c)
  stacked_shaped c s few h =
      let names : length (stacked t c).level_names ≡ length t.level_names + 1 = length-append t.level_names _ in
      let rows : length (stacked_labels t) ≡ length t.labels * length t.columns = stacked_count ∙ ap (λ n. length t.labels * n) s.headed in
      record {
        some = omega (arith, names);
        few = omega (arith, names, few);
        levels = rw names (stacked_levels s);
        headed = refl;
        columns = one_column _ (column_of_value c) record { filled = h.filled ∙ sym rows; held = h.held };
        headings = search series_heading;
      }

  pub stack_keeps : IsShaped t → Keeps (stack_result t)
  stack_keeps s =
      on_some_keeps _ IsValidEntry _ _ (by_row_held (length t.labels) t.columns s.columns)
      (λ c h. on_levels_keep _ _ (λ some few. limited_keeps (stacked t c) (stacked_shaped c s few h)))

-- `unstack`
-- so many labels in the key of a row, and one in that of a column
record IsSpread (n : ℕ) (s : SpreadOf LabelValue) : Type 0 where
  rows : Levelled n s.rows
  columns : Levelled 1 s.columns

spread_is : (n : ℕ) (rest spread : List Tuple) → Levelled n rest → Levelled 1 spread → IfOk (met_labels (reshape.unstacked same_tuple tuple_before rest spread)) (IsSpread n)
spread_is n rest spread h k =
    let rows = all_in_order (Has n) tuple_before _ (all_distinct (Has n) same_tuple rest h) in
    let columns = all_in_order (Has 1) tuple_before _ (all_distinct (Has 1) same_tuple spread k) in
    grind arith

module _ (t : Table) (s : IsShaped t) (level : ℕ) (lt : IsLevel t level) (several : 2 ≤ length t.level_names) where
  abbrev unstacked : SpreadOf LabelValue → Table
  unstacked made = spread_frame (remove t.level_names level) (slice_index_or t.level_names level None) (column_at t.columns 0) made

  unstacked_shaped : (made : SpreadOf LabelValue) → IsSpread (length (remove t.level_names level)) made → IsShaped (unstacked made)
  unstacked_shaped made h =
      let count : length (remove t.level_names level) + 1 ≡ length t.level_names = search length-remove in
      record {
        some = omega (arith, count, several);
        few = omega (arith, count, s.few);
        levels = h.rows;
        headed = length-map _ _ ∙ sym (length-map (range_with_len 0 (length made.columns)) _ ∙ length-range_with_len 0 _);
        columns = all_mapped (IsColumn (length made.rows)) _
            (λ column. record { filled = length-map _ _ ∙ length_tabulate _ _; held = all_mapped (Held (column_at t.columns 0).kind) _ (λ gap. gap_held _ (column_at t.columns 0).cells gap (cells_held t s 0)) (places_of_column made column) }) _;
        headings = frame_headings Frame _ _ refl (all_made (Has 1) IsSome row_name name_there made.columns h.columns);
      }

  pub unstacked_keeps : Keeps (unstacked_at t level)
  unstacked_keeps =
      then_keeps (IsSpread (length (remove t.level_names level))) IsValidEntry _ _
      (spread_is _ (labels_besides t level) (labels_on t level) (all_made (Has (length t.level_names)) (Has (length (remove t.level_names level))) _ (dropped_has t level lt) t.labels s.levels) (all_mapped (Has 1) _ (λ labels. refl) t.labels))
      (λ made h. limited_keeps _ (unstacked_shaped made h))

pub unstack_keeps : (t : Table) (level : Option CellValue) → IsShaped t → Keeps (unstack_result t level)
unstack_keeps t level s = of_several_keeps IsValidEntry t _ (λ several. then_keeps _ _ _ _ (level_of_keeps t level) (λ k lt. unstacked_keeps t s k lt several))

-- `pivot` and `pivot_table`
-- the columns that are named lie in the table, and of the index there is one at least
record IsPivoted (t : Table) (p : Pivoted) : Type 0 where
  index : AreBelow t p.index
  some : 1 ≤ length p.index
  columns : p.columns < length t.columns
  values : p.values < length t.columns

module _ (t : Table) (s : IsShaped t) where
  place_keeps : (g : Given) → IfOk (place_in t g) (λ place. place < length t.columns)
  place_keeps g = on_keeps (λ place. place < length t.columns) (scalar_in g) (λ c. argument_column t (cell_label c)) (λ c. rw s.headed at (argument_column_found t (cell_label c)))

  index_keeps : (g : Given) → IfOk (keys_in t false g) (AreKeys t false)
  index_keeps g =
      let found = places_found t s (labels_in g) in
      grind (arith, nat_tests)

  pivoted_keeps : (index columns values : Given) → IfOk (pivoted_in t index columns values) (IsPivoted t)
  pivoted_keeps index columns values =
      then_keeps (AreKeys t false) _ _ _ (index_keeps index)
      (λ places k. then_keeps (λ place. place < length t.columns) _ _ _ (place_keeps columns)
      (λ column lt. then_keeps (λ place. place < length t.columns) _ _ _ (place_keeps values)
      (λ value lt'. record { index = k.below; some = k.some; columns = lt; values = lt' })))

  keys_below : (p : Pivoted) → IsPivoted t p → AreBelow t (label_places p)
  keys_below p h = All-append (λ place. place < length t.columns) p.index _ h.index (All-cons (λ place. place < length t.columns) p.columns [] h.columns (All-nil (λ place. place < length t.columns)))

  keys_count : (p : Pivoted) → length (label_places p) ≡ length p.index + 1
  keys_count p = length-append p.index _

  -- a Series under these labels, unstacked
  pivoted_series : (p : Pivoted) → IsPivoted t p → (u : Table) → length u.level_names ≡ length (label_places p) → (length (label_places p) ≤ 4 → IsShaped u) → Keeps (pivoted p u)
  pivoted_series p h u names shaped =
      on_levels_keep _ _ (λ some few. unstacked_keeps u (shaped few) (length p.index) (omega (arith, names, keys_count p)) (omega (arith, names, keys_count p, h.some)))

  under_shaped : (p : Pivoted) → IsPivoted t p → length (label_places p) ≤ 4 → IsShaped (under_cells t (label_places p) p.values)
  under_shaped p h few =
      let names : length (headings_of t (label_places p)) ≡ length (label_places p) = search length-map in
      record {
        some = omega (arith, names, keys_count p);
        few = omega (arith, names, few);
        levels = rw names (rows_have t (label_places p));
        headed = refl;
        columns = one_column _ _ (rw (length-map (cells_by_row t (label_places p)) (map cell_label) ∙ rows_counted t (label_places p)) (column_of_table t s p.values h.values));
        headings = search series_heading;
      }

  pub pivot_keeps : (columns index values : Given) → Keeps (pivot_result t columns index values)
  pivot_keeps columns index values =
      then_keeps (IsPivoted t) IsValidEntry _ _ (pivoted_keeps index columns values)
      (λ p h. pivoted_series p h (under_cells t (label_places p) p.values) (search length-map) (under_shaped p h))

  -- the groups
  record IsGroupSeries (p : Pivoted) (u : Table) : Type 0 where
    names : length u.level_names ≡ length (label_places p)
    shaped : length (label_places p) ≤ 4 → IsShaped u

  group_keeps : (p : Pivoted) → IsPivoted t p → (op : GroupReduction) → IfOk (group_series t (label_places p) p.values op) (IsGroupSeries p)
  group_keeps p h op =
      let keys = label_places p in
      let g = groups_by keys in
      then_keeps (AllOf (IsColumn (length (keys_of t g))) 1) (IsGroupSeries p) _ _
      (each_makes t (reduce_groups op (groups_of t g)) _ s (reduce_makes op (groups_of t g) _) (p.values ∷ []) (All-cons (λ place. place < length t.columns) p.values [] h.values (All-nil (λ place. place < length t.columns))))
      (λ columns made. record {
        names = length-map keys _;
        shaped = λ few.
            let body = under_body t g (headings_of t (p.values ∷ [])) columns (omega (arith, keys_count p)) few (sym made.0) made.1 in
            record {
              some = body.some;
              few = body.few;
              levels = body.levels;
              headed = body.headed;
              columns = body.columns;
              headings = search series_heading;
            };
      })

  present_shaped : (u : Table) → IsShaped u → IsShaped (without_missing u)
  present_shaped u h =
      let cells = cells_by_row u (all_places u) in
      rows_shaped u _ h (rw (rows_counted u (all_places u)) at (rows_inside (list_all is_present) cells))

  answered_keeps : (p : Pivoted) → IsPivoted t p → (op : GroupReduction) → IfOk (answered_groups t p op) (IsGroupSeries p)
  answered_keeps p h op =
      then_keeps (IsGroupSeries p) (IsGroupSeries p) _ _ (group_keeps p h op) (λ u k. record { names = k.names; shaped = λ few. present_shaped u (k.shaped few) })

  pub pivot_table_keeps : (values index columns : Given) (op : GroupReduction) → Keeps (pivot_table_result t values index columns op)
  pivot_table_keeps values index columns op =
      then_keeps (IsPivoted t) IsValidEntry _ _ (pivoted_keeps index columns values)
      (λ p h. then_keeps (IsGroupSeries p) IsValidEntry _ _ (answered_keeps p h op) (λ u k. pivoted_series p h u k.names k.shaped))

-- `melt`
record IsMelted (t : Table) (m : Melted) : Type 0 where
  kept : AreBelow t m.kept
  values : AreBelow t m.values

module _ (t : Table) (s : IsShaped t) where
  kept_keeps : (g : Given) → IfOk (kept_in t g) (AreBelow t)
  kept_keeps g =
      let found = places_found t s (labels_in g) in
      grind (arith, All-nil)

  values_keep : (kept : List ℕ) (g : Given) → IfOk (values_named t kept g) (AreBelow t)
  values_keep kept g =
      let found = places_found t s (labels_in g) in
      grind (arith, some_below)

  melted_keeps : (ids values : Given) → IfOk (melted_in t ids values) (IsMelted t)
  melted_keeps ids values =
      then_keeps (AreBelow t) _ _ _ (kept_keeps ids) (λ kept h. then_keeps (AreBelow t) _ _ _ (values_keep kept values) (λ places k. record { kept = h; values = k }))

  -- a column that stays, and one of labels
  kept_held : (values : List ℕ) (place : ℕ) → place < length t.columns → IsColumn (length values * length t.labels) (kept_column t values place)
  kept_held values place lt =
      let c = column_of_table t s place lt in
      record {
        filled = flat_count (length t.labels) _ values (λ k d lt'. c.filled);
        held = all_flat (Held (column_at t.columns place).kind) (λ value. Unit {0}) (λ value. (column_at t.columns place).cells) (λ value _. c.held) values (λ k d lt'. tt);
      }

  labels_held : (values : List ℕ) (labels : Column) → IsColumn (length values) labels → IsColumn (length values * length t.labels) (label_column t labels)
  labels_held values labels h = record {
    filled = flat_count (length t.labels) _ labels.cells (λ k d lt. length-replicate (length t.labels) _) ∙ ap (λ n. n * length t.labels) h.filled;
    held = all_flat (Held labels.kind) (Held labels.kind) (replicate (length t.labels)) (λ c k. All-replicate (Held labels.kind) (length t.labels) c k) labels.cells h.held;
  }

  value_labels_keep : (values : List ℕ) → IfOk (value_labels t values) (IsColumn (length values))
  value_labels_keep [] = record { filled = refl; held = All-nil (Held string) }
  value_labels_keep (v ∷ vs) = rw (length-map (v ∷ vs) (heading_cell t)) at (list_keeps (map (heading_cell t) (v ∷ vs)))

  cells_keep : (values : List ℕ) → AreBelow t values → IfOk (columns_below (map (column_at t.columns) values)) (IsColumn (length values * length t.labels))
  cells_keep values below =
      rw (length-map values (column_at t.columns)) at
      (below_keeps (length t.labels) (map (column_at t.columns) values) (all_made (λ place. place < length t.columns) (IsColumn (length t.labels)) (column_at t.columns) (column_of_table t s) values below))

  melted_body : (m : Melted) (labels cells : Column) → IsMelted t m → IsColumn (length m.values) labels → IsColumn (length m.values * length t.labels) cells → IsBody (melted t m labels cells)
  melted_body m labels cells h k l =
      let rows = length m.values * length t.labels in
      let kept = all_made (λ place. place < length t.columns) (IsColumn rows) (kept_column t m.values) (kept_held m.values) m.kept h.kept in
      let last = All-cons (IsColumn rows) (label_column t labels) (cells ∷ []) (labels_held m.values labels k) (one_column rows cells l) in
      record {
        some = omega arith;
        few = omega arith;
        levels = default_levels rows;
        headed = length-append (headings_of t m.kept) _ ∙ grind (arith, length-map, length-append);
        columns = subst (λ n. All (IsColumn n) (map (kept_column t m.values) m.kept ++ label_column t labels ∷ cells ∷ [])) (sym (length_default rows)) (All-append (IsColumn rows) (map (kept_column t m.values) m.kept) _ kept last);
        frame = refl;
      }

  pub melt_keeps : IsFrame t → (ids values : Given) → Keeps (melt_result t ids values)
  melt_keeps is ids values =
      then_keeps (IsMelted t) IsValidEntry _ _ (melted_keeps ids values)
      (λ m h. then_keeps (IsColumn (length m.values)) IsValidEntry _ _ (value_labels_keep m.values)
      (λ labels k. then_keeps (IsColumn (length m.values * length t.labels)) IsValidEntry _ _ (cells_keep m.values h.values)
      (λ cells l. frame_keeps (melted t m labels cells) (melted_body m labels cells h k l)
      (All-append IsSome (headings_of t m.kept) _ (some_labelled t s is m.kept h.kept) (All-cons IsSome (Some (label_heading t)) (Some (text (codes "value")) ∷ []) refl (All-cons IsSome (Some (text (codes "value"))) [] refl (All-nil IsSome)))))))

-- by the method and how many arguments it has
pub reshaped_keeps : (m : ReshapeMethod) (gs : List Given) (t : Table) → IsShaped t → fits_shape (Reshape m) t.shape ≡ true → Keeps (reshaped m gs t)
unfolding method_names
reshaped_keeps method.Stack gs t s fit = stack_keeps t s
reshaped_keeps method.Unstack (level ∷ []) t s fit = unstack_keeps t (scalar_in level) s
reshaped_keeps method.Pivot (columns ∷ index ∷ values ∷ []) t s fit = pivot_keeps t s columns index values
reshaped_keeps method.PivotTable (values ∷ index ∷ columns ∷ aggfunc ∷ []) t s fit = on_keeps IsValidEntry _ _ (pivot_table_keeps t s values index columns)
reshaped_keeps method.Melt (ids ∷ values ∷ []) t s fit = melt_keeps t s (of_frame (Reshape method.Melt) _ refl fit) ids values
reshaped_keeps m gs t s fit = tt
