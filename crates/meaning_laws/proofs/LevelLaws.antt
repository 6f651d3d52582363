-- Methods that give the rows other levels make valid tables of valid ones.
use Rattle.{
  meaning_script.{proofs.{cells.Common.{◌≡◌, ◌∙◌, refl, sym, ℕ, ◌<◌, ◌≤◌, ◌+◌, List, length, map, length-append, arith, eqb-true, nat_tests, length-map, length-range_with_len, length-remove, length-swap, All-append, All-nil, remove, Option, Some, None, IsSome, Result, IfOk, All, true, IfSome, range_with_len, CellValue, LabelValue, na_cell, cell_label, FaultValue}, pick.{PositionLaws.{at_inside}, InsideLaws.{rows_inside}}, align.FoundLaws.{reindexed_count, reindexed_below}}, specs.{pick.{Labels.{unless_none}, Rows.{rows_where}}, tables.{Table.{Table}, Value.{Entry, Given, GivenList, cell, one, no_given, more_given}}, form.{Finish.{limited, column_labels}, Select.{labels_of}, Set.{list_column}, Infix.{same_tuple}}, call.Binding.{each, is_scalar, count_of}, method.{Rows.{cells_by_row, places_besides}, Levels.{rename_axis_result, on_levels, indexed_by, index_set, set_index_result, renumbered, level_cells, level_labels, level_headings, with_levels, levels_reset, level_of, of_several, level_dropped, droplevel_result, levels_swapped, swaplevel_result}, Section.{has_label, rows_with_label, section, xs_result}, Reindex.{rows_at, rows_reindexed, column_or_missing, columns_at, columns_reindexed, reindex_result}}, select.{Keys.{found_pick, whole_items}, Select.{rows_taken, row_name}}, align.{Faults.{AlignRefusal}, Targets.{reindexed}}}},
  meaning_laws.{proofs.{Words.{Has, Keeps, Column, Tuple, IsFrame, Below, Levelled}, ListLaws.{both_true, all_made, all_mapped, then_keeps, any_then, try_keeps}, ColumnLaws.{IsColumn, list_keeps, spread_column, na_held}, TableLaws.{IsShaped, limited_keeps, frame_headings, column_of_table, unless_keeps, found_within}, ReachLaws.{some_below, found_is, rows_shaped}, RowLaws.{kept_shaped, rows_counted, cells_have}, SetLaws.{length_default, default_levels, met_keeps}, InfixLaws.{columns_on}}, specs.Validity.{IsValidEntry}},
}

-- names of levels
pub rename_axis_keeps : (t : Table) (names : Given) → IsShaped t → Keeps (rename_axis_result t names)
rename_axis_keeps = grind (arith, eqb-true)

-- columns as labels
pub on_levels_keep : (count : ℕ) (rest : Result Entry FaultValue) → (1 ≤ count → count ≤ 4 → Keeps rest) → Keeps (on_levels count rest)
on_levels_keep = grind (arith, nat_tests)

module _ (t : Table) where
  module _ (places : List ℕ) where
    tuples_have : All (Has (length (indexed_by t places).level_names)) (indexed_by t places).labels
    tuples_have =
        let cells = cells_have t places in
        search (all_made, length-map)

    indexed_shaped : IsShaped t → IsFrame t → 1 ≤ length places → length places ≤ 4 → IsShaped (indexed_by t places)
    indexed_shaped s is some few =
        let k = kept_shaped t (places_besides t places) s is (some_below _ _) in
        let names : length places ≡ length (indexed_by t places).level_names = search length-map in
        let rows = sym (length-map (cells_by_row t places) (map cell_label) ∙ rows_counted t _) in
        let levels = tuples_have in
        grind arith

    index_set_keeps : IsShaped t → IsFrame t → Keeps (index_set t places)
    index_set_keeps = grind (arith, on_levels_keep, limited_keeps, indexed_shaped)

  pub set_index_keeps : (keys : Given) → IsShaped t → IsFrame t → Keeps (set_index_result t keys)
  set_index_keeps = grind (arith, any_then, index_set_keeps)

  -- the labels 0, 1 and so on
  renumbered_shaped : IsShaped t → IsShaped (renumbered t)
  renumbered_shaped = grind (arith, default_levels, length_default)

  pub renumbered_keeps : IsShaped t → Keeps (limited (renumbered t))
  renumbered_keeps s = limited_keeps _ (renumbered_shaped s)

  -- levels as columns
  level_keeps : (level : ℕ) → IfOk (list_column (level_cells t level)) (IsColumn (length t.labels))
  level_keeps = grind (arith, length-map, list_keeps)

  with_levels_shaped : (columns : List Column) → IsShaped t → IsFrame t → length columns ≡ length t.level_names → All (IsColumn (length t.labels)) columns → IsShaped (with_levels t columns)
  with_levels_shaped columns s is size h =
      let r = renumbered_shaped s in
      let own = level_headings t in
      let count : length own ≡ length columns = grind (arith, length-map, length-range_with_len) in
      let some = All-append IsSome own t.headings (all_mapped IsSome (λ l. Some l) (λ l. refl) (level_labels t)) (s.headings.labelled is) in
      let all = All-append (IsColumn (length (renumbered t).labels)) columns t.columns (search length_default) r.columns in
      grind (arith, length-append, frame_headings)

  pub levels_reset_keeps : IsShaped t → IsFrame t → Keeps (levels_reset t)
  levels_reset_keeps s is =
      let made = try_keeps (λ level. Unit {0}) (IsColumn (length t.labels)) (λ level. list_column (level_cells t level)) (λ level h. level_keeps _) (range_with_len 0 (length t.level_names)) (λ k d lt. tt) in
      grind (arith, unless_keeps, limited_keeps, with_levels_shaped, length-range_with_len)

-- a level that is named stands there
abbrev pub IsLevel : Table → ℕ → Type 0
IsLevel t level = level < length t.level_names

pub level_of_keeps : (t : Table) (level : Option CellValue) → IfOk (level_of t level) (IsLevel t)
level_of_keeps = grind (arith, found_is, at_inside, found_within)

-- where a level goes, another one stays
pub of_several_keeps : {A : Type 0} (P : A → Type 0) (t : Table) (rest : Result A FaultValue) → (2 ≤ length t.level_names → IfOk rest P) → IfOk (of_several t rest) P
of_several_keeps P = grind (arith, nat_tests)

module _ (t : Table) where
  pub dropped_has : (level : ℕ) → IsLevel t level → (tuple : Tuple) → length tuple ≡ length t.level_names → Has (length (remove t.level_names level)) (remove tuple level)
  dropped_has = grind (arith, length-remove)

  pub dropped_shaped : (level : ℕ) → IsShaped t → IsLevel t level → 2 ≤ length t.level_names → IsShaped (level_dropped t level)
  dropped_shaped level s lt several =
      let count : length (remove t.level_names level) + 1 ≡ length t.level_names = search length-remove in
      record {
        some = grind arith;
        few = grind arith;
        levels = search (all_made, dropped_has);
        headed = s.headed;
        columns = grind (arith, length-map);
        headings = s.headings;
      }

  pub droplevel_keeps : (level : Option CellValue) → IsShaped t → Keeps (droplevel_result t level)
  droplevel_keeps level s =
      then_keeps _ _ _ _ (level_of_keeps t level)
      (λ k lt. of_several_keeps _ t _ (λ several. limited_keeps (level_dropped t k) (dropped_shaped k s lt several)))

  -- two levels exchanged
  swapped_shaped : (i j : ℕ) → IsShaped t → IsShaped (levels_swapped t i j)
  swapped_shaped i j s =
      let count = length-swap t.level_names i j in
      record {
        some = grind arith;
        few = grind arith;
        levels = search (all_made, length-swap);
        headed = s.headed;
        columns = grind (arith, length-map);
        headings = s.headings;
      }

  pub swaplevel_keeps : (first second : Option CellValue) → IsShaped t → Keeps (swaplevel_result t first second)
  swaplevel_keeps = grind (arith, level_of_keeps, then_keeps, limited_keeps, swapped_shaped)

-- `xs`
-- the rows lie in the table
some_inside : (P : List ℕ → Type 0) (key : Tuple) (rows : List ℕ) → P rows → IfOk (found_pick (unless_none key rows)) P
some_inside P = grind arith

section_keeps : (t : Table) (l : LabelValue) (level : ℕ) → IsShaped t → IsLevel t level → 2 ≤ length t.level_names → Keeps (section t l level)
section_keeps t l level s lt several =
    let rows = rows_where (has_label level l) 0 t.labels in
    then_keeps (λ rows. Below (length t.labels) rows) _ (rows_with_label t l level) _
    (search (some_inside, rows_inside))
    (λ rows inside. limited_keeps (level_dropped (rows_taken t rows) level) (search (dropped_shaped, rows_shaped)))

pub xs_keeps : (t : Table) (key : CellValue) (level : Option CellValue) → IsShaped t → Keeps (xs_result t key level)
xs_keeps t key level s =
    of_several_keeps IsValidEntry t _
    (λ several. then_keeps _ _ _ _ (level_of_keeps t level) (λ k lt. section_keeps t _ k s lt several))

-- `reindex`
-- each item of a list has a label for each level
labels_count : (parts : GivenList) → each is_scalar parts ≡ true → length (labels_of parts) ≡ count_of parts
labels_count no_given h = refl
labels_count (more_given (one (cell c)) rest) h = grind (arith, labels_count rest h)
labels_count (more_given _ rest) h = cc

items_have : (n : ℕ) (items : GivenList) → IfOk (whole_items n items) (All (Has n))
items_have n no_given = All-nil (Has n)
items_have n (more_given g rest) = grind (arith, then_keeps, eqb-true, both_true, labels_count, items_have n rest)

rows_reindexed_keeps : (t : Table) (labels : List Tuple) → IsShaped t → Levelled (length t.level_names) labels → Keeps (rows_reindexed t labels)
rows_reindexed_keeps t labels s has =
    then_keeps (λ rows. length rows ≡ length labels) IsValidEntry _ _
    (search (met_keeps, reindexed_count))
    (λ rows count. limited_keeps (rows_at na_cell t labels rows) (search (length-map, columns_on)))

-- columns
column_or_missing_keeps : (t : Table) (place : Option ℕ) → IsShaped t → IfSome place (λ k. k < length t.columns) → IsColumn (length t.labels) (column_or_missing na_cell t place)
column_or_missing_keeps t None s inside = search (spread_column, na_held)
column_or_missing_keeps t (Some place) s inside = column_of_table t s place inside

pub name_there : (tuple : Tuple) → Has 1 tuple → IsSome (row_name tuple)
name_there = grind arith

abbrev ArePlaces : Table → List Tuple → List (Option ℕ) → Type 0
ArePlaces t labels places = (length places ≡ length labels) × All (λ place. IfSome place (λ k. k < length t.columns)) places

columns_at_shaped : (t : Table) (labels : List Tuple) (places : List (Option ℕ)) → IsShaped t → IsFrame t → Levelled 1 labels → ArePlaces t labels places
    → IsShaped (columns_at na_cell t (map row_name labels) places)
columns_at_shaped t labels places s is has found =
    let some : All IsSome (map row_name labels) = search (all_made, name_there) in
    record {
      some = s.some;
      few = s.few;
      levels = s.levels;
      headed = grind (arith, length-map);
      columns = search (all_made, column_or_missing_keeps);
      headings = search frame_headings;
    }

both_hold : {A : Type 0} (P Q : A → Type 0) (r : Result A (AlignRefusal Tuple)) → IfOk r P → IfOk r Q → IfOk r (λ a. P a × Q a)
both_hold P Q = grind arith

module _ (t : Table) where
  module _ (labels : List Tuple) (s : IsShaped t) where
    places_found : IfOk (reindexed same_tuple (column_labels t) labels) (ArePlaces t labels)
    places_found =
        let count : length (column_labels t) ≡ length t.columns = search length-map in
        both_hold (λ places. length places ≡ length labels) _ _
        (reindexed_count same_tuple _ labels)
        (grind (arith, reindexed_below same_tuple (column_labels t) labels))

    columns_reindexed_keeps : IsFrame t → Levelled 1 labels → Keeps (columns_reindexed t labels)
    columns_reindexed_keeps is has =
        then_keeps (ArePlaces t labels) IsValidEntry _ _
        (search (met_keeps, places_found))
        (λ places found. limited_keeps _ (columns_at_shaped t labels places s is has found))

  -- of a list of labels
  pub reindex_keeps : (rows columns : Option GivenList) → IsShaped t → (IsSome columns → IsFrame t) → Keeps (reindex_result t rows columns)
  reindex_keeps (Some items) None s is =
      then_keeps _ _ _ _ (items_have _ items) (λ labels has. rows_reindexed_keeps t labels s has)
  reindex_keeps None (Some items) s is =
      then_keeps _ _ _ _ (items_have 1 items) (λ labels has. columns_reindexed_keeps labels s (is refl) has)
  reindex_keeps _ _ s is = tt
