-- What a call leaves has no more rows than were there or are charged.
use Rattle.{
  meaning_script.{proofs.cells.Common.{◌≡◌, ◌∙◌, ℕ, ◌+◌, ◌*◌, ◌≤◌, ℤ, List, [], ◌∷◌, length, map, remove, swap, arith, length-map, Bool, true, false, ◌&&◌, nat_le, if◌then◌else◌, slice_index_or, unwrap_or, option_map, Option, Some, None, Result, Ok, Err, IfOk, CellValue, LabelValue, cell_label, Text, FaultValue, limit, then_value}, specs.{tables.{Table.{Table, column_at}, Value.{Entry, cell, table, Given, NamedGiven, scalar_in, dict_in}}, call.{declared.Method.{Method}, Binding.{Bound, not_taken, not_listed, bound, on_bound, bound_of, whole_in, truth_in}, Signature.{parameters_of, method_named}}, form.{Finish.{limited, default_labels}, Select.{columns_frame, argument_columns}, Make.{on, pairs_in}}, pick.Keys.{place_slice}, select.Select.{column_rows, rows_taken}, method.{Charges.{is_free_method, drops_labels, method_charge, named_charge, call_charge}, Calls.{ChainValue, table_call, call_result}, Methods.{renamed_series, renamed_heading, renamed_frame, as_frame, reset_index_result, answer_for}, Rows.{labels_in, head_result, tail_result, placed_rows, cells_by_row, places_besides, drop_result}, Levels.{names_in, rename_axis_result, on_levels, indexed_by, index_set, set_index_result, renumbered, level_columns, with_levels, levels_reset, level_of, level_dropped, level_gone, droplevel_result, levels_swapped, swaplevel_result}}, State.{rows_under, held_rows, entry_rows}}},
  std.{proofs.Math.Nat.{mul-le-mul_left}, specs.Prelude.{neg_ℤ}},
  meaning_laws.{specs.Validity.{IsValidObject}, proofs.{Words.{Tuple}, ListLaws.{then_keeps, any_then, if_keeps, where_keeps, on_keeps, of_length_keeps}, TableLaws.{IsShaped, shaped, unless_keeps}, ReachLaws.{found_is, some_below}, RowLaws.{rows_counted}, LevelLaws.{of_several_keeps}, SetLaws.{length_default}, PartLaws.{IsPart, places_part}, PaidForms.{Within, under_within, under_rows, costs_cells, costs_nothing, costs_where, limited_within, none_chosen, chosen_within}}},
}
use Rattle.meaning_script.specs.call.declared.Method.TheVariants as method
use Rattle.meaning_script.specs.call.declared.TableMethod.TheVariants as table_method
use Rattle.meaning_script.specs.call.declared.LevelMethod.TheVariants as level_method
use Rattle.meaning_script.specs.method.Calls as calls

-- ---- methods that cost nothing

levels_keep : (P : Entry → Type 0) (count : ℕ) (rest : Result Entry FaultValue) → IfOk rest P → IfOk (on_levels count rest) P
levels_keep P count rest h = where_keeps P (nat_le 1 count && nat_le count 4) rest limit (λ within. h)

module _ (t : Table) where
  -- no more rows
  taken_within : (rows : List ℕ) → length rows ≤ length t.labels → held_rows (rows_taken t rows) ≤ held_rows t
  taken_within rows few =
      under_within (rows_taken t rows).columns t.columns (length (rows_taken t rows).labels) (length t.labels)
      (omega (arith, length-map rows (λ row. slice_index_or t.labels row [])))
      (λ none. length-map t.columns (column_rows rows) ∙ none)

  placed_within : (from to step : Option ℤ) → IfOk (placed_rows t (place_slice from to step)) (Within (held_rows t))
  placed_within from to step =
      then_keeps (IsPart (length t.labels)) (Within (held_rows t)) _ _ (found_is (IsPart (length t.labels)) _ (places_part (length t.labels) from to step))
      (λ p part. limited_within (rows_taken t p.rows) (held_rows t) (taken_within p.rows part.few))

  head_within : (n : ℤ) → IfOk (head_result t n) (Within (held_rows t))
  head_within n = placed_within None (Some n) None

  tail_within : (n : ℤ) → IfOk (tail_result t n) (Within (held_rows t))
  tail_within n =
      if_keeps (Within (held_rows t)) _ _ _
      (λ zero. limited_within (rows_taken t []) (held_rows t) (taken_within [] (omega arith)))
      (λ some. placed_within (Some (neg_ℤ n)) None None)

  -- some of its columns
  drop_within : (columns : Given) → IfOk (drop_result t columns) (Within (held_rows t))
  drop_within columns =
      any_then (Within (held_rows t)) _ _
      (λ places. limited_within (columns_frame t (places_besides t places)) (held_rows t) (chosen_within t (places_besides t places) (some_below _ _)))

  -- other names
  renamed_within : (pairs : List (LabelValue × Given)) → IfOk (renamed_frame t pairs) (Within (held_rows t))
  renamed_within pairs = where_keeps (Within (held_rows t)) _ _ _ (λ scalars. limited_within (record t { headings = map (renamed_heading pairs) t.headings }) (held_rows t) (omega arith))

  axis_within : (names : Given) → IfOk (rename_axis_result t names) (Within (held_rows t))
  axis_within names = of_length_keeps (Within (held_rows t)) _ _ _ (λ same. limited_within (record t { level_names = names_in names }) (held_rows t) (omega arith))

  -- other labels of as many rows
  labels_within : (labels : List Tuple) → length labels ≤ length t.labels → rows_under t.columns (length labels) ≤ held_rows t
  labels_within labels few = under_within t.columns t.columns (length labels) (length t.labels) few (λ none. none)

  mapped_within : (f : Tuple → Tuple) → rows_under t.columns (length (map f t.labels)) ≤ held_rows t
  mapped_within f = labels_within (map f t.labels) (omega (arith, length-map t.labels f))

  dropped_within : (level : Option CellValue) → IfOk (droplevel_result t level) (Within (held_rows t))
  dropped_within level =
      any_then (Within (held_rows t)) (level_of t level) (level_gone t) (λ k. of_several_keeps (Within (held_rows t)) t (limited (level_dropped t k)) (λ several. limited_within (level_dropped t k) (held_rows t) (mapped_within (λ tuple. remove tuple k))))

  swapped_within : (first second : Option CellValue) → IfOk (swaplevel_result t first second) (Within (held_rows t))
  swapped_within first second =
      any_then (Within (held_rows t)) (level_of t first) (λ i. then_value (level_of t second) (λ j. limited (levels_swapped t i j)))
      (λ i. any_then (Within (held_rows t)) (level_of t second) (λ j. limited (levels_swapped t i j)) (λ j. limited_within (levels_swapped t i j) (held_rows t) (mapped_within (λ tuple. swap tuple i j))))

  renumbered_within : IfOk (limited (renumbered t)) (Within (held_rows t))
  renumbered_within = limited_within (renumbered t) (held_rows t) (labels_within (default_labels (length t.labels)) (omega (arith, length_default (length t.labels))))

  -- columns as labels
  indexed_within : (places : List ℕ) → held_rows (indexed_by t places) ≤ held_rows t
  indexed_within places =
      under_within (indexed_by t places).columns t.columns (length (indexed_by t places).labels) (length t.labels)
      (omega (arith, length-map (cells_by_row t places) (map cell_label), rows_counted t places))
      (λ none. length-map (places_besides t places) (column_at t.columns) ∙ none_chosen _ (places_besides t places) (some_below _ _) none)

  index_set_within : (places : List ℕ) → IfOk (index_set t places) (Within (held_rows t))
  index_set_within places =
      levels_keep (Within (held_rows t)) (length places) (limited (indexed_by t places)) (limited_within (indexed_by t places) (held_rows t) (indexed_within places))

  set_index_within : (keys : Given) → IfOk (set_index_result t keys) (Within (held_rows t))
  set_index_within keys = any_then (Within (held_rows t)) (argument_columns t (labels_in keys)) (index_set t) (λ places. index_set_within places)

answer_within : (m : Method) (gs : List Given) (t : Table) → is_free_method m ≡ true → IfOk (answer_for m gs t) (Within (held_rows t))
answer_within (method.Table table_method.Copy) gs t e = limited_within t (held_rows t) (omega arith)
answer_within (method.Table table_method.Head) (n ∷ []) t e = on_keeps (Within (held_rows t)) (whole_in n) (head_result t) (head_within t)
answer_within (method.Table table_method.Tail) (n ∷ []) t e = on_keeps (Within (held_rows t)) (whole_in n) (tail_result t) (tail_within t)
answer_within (method.Table table_method.RenameSeries) (name ∷ []) t e = limited_within (renamed_series t (option_map cell_label (scalar_in name))) (held_rows t) (omega arith)
answer_within (method.Table table_method.RenameFrame) (columns ∷ []) t e = on_keeps (Within (held_rows t)) (dict_in columns) (λ pairs. renamed_frame t (pairs_in pairs)) (λ pairs. renamed_within t (pairs_in pairs))
answer_within (method.Table table_method.DropColumns) (columns ∷ []) t e = drop_within t columns
answer_within (method.Table table_method.ToFrame) gs t e = limited_within (as_frame t) (held_rows t) (omega arith)
answer_within (method.Levels level_method.RenameAxis) (names ∷ []) t e = axis_within t names
answer_within (method.Levels level_method.SetIndex) (keys ∷ []) t e = set_index_within t keys
answer_within (method.Levels level_method.Droplevel) (level ∷ []) t e = dropped_within t (scalar_in level)
answer_within (method.Levels level_method.Swaplevel) (i ∷ j ∷ []) t e = swapped_within t (scalar_in i) (scalar_in j)
answer_within m gs t e = grind arith

bound_within : (m : Method) (b : Bound) (t : Table) → is_free_method m ≡ true → IfOk (on_bound b (λ given. answer_for m given t)) (Within (held_rows t))
bound_within m not_taken t e = tt
bound_within m not_listed t e = tt
bound_within m (bound gs) t e = answer_within m gs t e

free_within : (m : Method) (name : Text) (gs : List NamedGiven) (t : Table) → is_free_method m ≡ true → IfOk (table_call (Some m) name gs t) (Within (held_rows t))
free_within (method.Table m) name gs t e = bound_within (method.Table m) (bound_of (parameters_of (method.Table m)) gs) t e
free_within (method.Levels m) name gs t e = bound_within (method.Levels m) (bound_of (parameters_of (method.Levels m)) gs) t e
free_within m name gs t e = cc

-- ---- `reset_index`: labels that become cells are as many as the rows, times the levels

module _ (t : Table) (s : IsShaped t) where
  levels_within : IfOk (levels_reset (as_frame t)) (Within (length t.labels * length t.level_names))
  levels_within =
      any_then (Within (length t.labels * length t.level_names)) (level_columns (as_frame t)) _
      (λ columns.
      let made = with_levels (as_frame t) columns in
      let rows : held_rows made ≤ length made.labels = under_rows made.columns (length made.labels) in
      let count : length made.labels ≡ length t.labels = length_default (length t.labels) in
      let each : length t.labels * 1 ≤ length t.labels * length t.level_names = mul-le-mul_left (length t.labels) s.some in
      unless_keeps (Within (length t.labels * length t.level_names)) _ _ (limited_within made (length t.labels * length t.level_names) (omega arith)))

  reset_by : (drop : Option Bool) → IfOk (on drop (reset_index_result t)) (λ w. entry_rows w ≤ held_rows t + (if unwrap_or drop false then 0 else length t.labels * length t.level_names))
  reset_by None = tt
  reset_by (Some true) = costs_nothing (limited (renumbered t)) (held_rows t) (renumbered_within t)
  reset_by (Some false) = more (levels_reset (as_frame t)) levels_within
    where
      more : (r : Result Entry FaultValue) → IfOk r (Within (length t.labels * length t.level_names)) → IfOk r (λ w. entry_rows w ≤ held_rows t + length t.labels * length t.level_names)
      more (Ok w) h = omega arith
      more (Err fault) h = tt

  reset_within : (b : Bound) → IfOk (on_bound b (λ given. answer_for (method.Levels level_method.ResetIndex) given t)) (λ w. entry_rows w ≤ held_rows t + (if drops_labels b then 0 else length t.labels * length t.level_names))
  reset_within (bound (drop ∷ [])) = reset_by (truth_in drop)
  reset_within b = tt

-- ---- calls

method_within : (m : Method) (name : Text) (gs : List NamedGiven) (t : Table) → IsShaped t → IfOk (table_call (Some m) name gs t) (λ w. entry_rows w ≤ held_rows t + method_charge m gs t w)
method_within (method.Levels level_method.ResetIndex) name gs t s = reset_within t s (bound_of (parameters_of (method.Levels level_method.ResetIndex)) gs)
method_within m name gs t s = costs_where (is_free_method m) (table_call (Some m) name gs t) (held_rows t) (free_within m name gs t)

named_within : (o : Option Method) (name : Text) (gs : List NamedGiven) (t : Table) → IsShaped t → IfOk (table_call o name gs t) (λ w. entry_rows w ≤ held_rows t + named_charge o gs t w)
named_within None name gs t s = tt
named_within (Some m) name gs t s = method_within m name gs t s

pub call_within : (v : Entry) (chain : ChainValue) (gs : List NamedGiven) → IsValidObject v → IfOk (call_result v chain gs) (λ w. entry_rows w ≤ entry_rows v + call_charge v chain gs w)
call_within (cell c) (calls.plain name) gs h = tt
call_within (table t) (calls.plain name) gs h = named_within (method_named t.shape name) name gs t (shaped t h)
call_within v (calls.on_texts name) gs h = costs_cells _ (entry_rows v)
call_within v (calls.grouped by brackets name) gs h = costs_cells _ (entry_rows v)
call_within v (calls.rolling args name) gs h = costs_cells _ (entry_rows v)
call_within v (calls.expanding args name) gs h = costs_cells _ (entry_rows v)
