-- Methods that answer some rows, or all in another order, make valid tables of valid ones.
use Rattle.{
  meaning_script.{proofs.{cells.Common.{◌≡◌, ◌∙◌, ap, refl, ℕ, suc, ◌<◌, ℤ, List, [], ◌∷◌, length, map, arith, length-map, All-nil, All-cons, Bool, All, list_all, range_with_len, pointwise, truth_cell, Boolean, na_cell, is_present, same_cell}, pick.{InsideLaws.{rows_inside}, KeyLaws.{placed_inside}}, sorting.OrderLaws.{in_order_all}}, specs.{tables.{Table.{Table, rows_of}, Value.{Given}}, form.{Finish.{limited}, Select.{columns_frame}}, pick.Keys.{PlaceKey, each_key, picked_by_place}, select.{Keys.{found_pick, label_columns}, Select.{rows_taken}}, method.Rows.{subset_places, labels_in, placed_rows, head_result, tail_result, cells_by_row, all_places, dropna_result, repeats, marks_series, duplicated_result, sorted_result, sort_values_result, sort_by_result, places_besides, drop_result}}},
  meaning_laws.{specs.Validity.{IsValidEntry}, proofs.{Words.{Keeps, Tuple, Below, IsFrame}, ListLaws.{all_made, all_mapped, all_tabulated, length_tabulate, then_keeps, any_then, if_keeps}, ColumnLaws.{IsColumn}, TableLaws.{IsShaped, some_labelled, limited_keeps, column_of_table, series_heading, frame_headings}, ReachLaws.{below_all, some_below, rows_shaped}}},
}

module _ (t : Table) where
  rows_keep : (rows : List ℕ) → IsShaped t → Below (length t.labels) rows → Keeps (limited (rows_taken t rows))
  rows_keep = search (limited_keeps, rows_shaped)

  -- `head` and `tail`
  placed_keep : (key : PlaceKey) → IsShaped t → Keeps (placed_rows t key)
  placed_keep key s =
      then_keeps (λ p. Below (length t.labels) p.rows) _ (found_pick (picked_by_place (length t.labels) key)) _
      (grind (arith, placed_inside))
      (λ p inside. rows_keep _ s inside)

  pub head_keeps : (n : ℤ) → IsShaped t → Keeps (head_result t n)
  head_keeps = search placed_keep

  pub tail_keeps : (n : ℤ) → IsShaped t → Keeps (tail_result t n)
  tail_keeps n s = search (if_keeps, rows_keep, All-nil, placed_keep)

  -- a list of cells for each row
  pub cells_have : (places : List ℕ) → All (λ cells. length cells ≡ length places) (cells_by_row t places)
  cells_have places = all_made (λ r. length r.cells ≡ length places) (λ cells. length cells ≡ length places) (λ r. r.cells) (λ r h. h) (rows_of na_cell (columns_frame t places)) (search (all_tabulated, length-map))

  pub rows_counted : (places : List ℕ) → length (cells_by_row t places) ≡ length t.labels
  rows_counted = grind (arith, length-map, length_tabulate)

  pub dropna_keeps : IsShaped t → Keeps (dropna_result t)
  dropna_keeps s =
      let cells = cells_by_row t (all_places t) in
      rows_keep _ s (rw (rows_counted (all_places t)) at (rows_inside (list_all is_present) cells))

-- `duplicated`
repeats_count : {X : Type 0} (same : X → X → Bool) (before xs : List X) → length (repeats same before xs) ≡ length xs
repeats_count same before [] = refl
repeats_count same before (x ∷ xs) = ap suc (repeats_count same _ xs)

module _ (t : Table) where
  marks_shaped : (marks : List Bool) → IsShaped t → length marks ≡ length t.labels → IsShaped (marks_series t marks)
  marks_shaped marks s size =
      let column : IsColumn (length t.labels) record { kind = Boolean; cells = map truth_cell marks } = record { filled = search length-map; held = search all_mapped } in
      search (All-cons, All-nil, series_heading)

  pub duplicated_keeps : (subset : Given) → IsShaped t → Keeps (duplicated_result t subset)
  duplicated_keeps subset s =
      any_then _ (subset_places t subset) _
      (λ places.
      let marks = repeats (pointwise same_cell) [] (cells_by_row t places) in
      limited_keeps (marks_series t marks) (search (marks_shaped, repeats_count, rows_counted)))

  -- sorted rows are the rows
  module _ (ascending : Bool) where
    pub sorted_keeps : (keys : List Tuple) → IsShaped t → length keys ≡ length t.labels → Keeps (sorted_result t ascending keys)
    sorted_keeps keys s size =
        rows_keep t _ s
        (in_order_all (λ row. row < length t.labels) _ (range_with_len 0 (length keys)) (grind (arith, below_all)))

    pub sort_values_keeps : (places : List ℕ) → IsShaped t → Keeps (sort_values_result t ascending places)
    sort_values_keeps places s = sorted_keeps _ s (length-map (cells_by_row t places) _ ∙ rows_counted t _)

    pub sort_by_keeps : (by : Given) → IsShaped t → Keeps (sort_by_result t ascending by)
    sort_by_keeps = search (any_then, sort_values_keeps)

  -- the columns that stay
  pub kept_shaped : (places : List ℕ) → IsShaped t → IsFrame t → Below (length t.columns) places → IsShaped (columns_frame t places)
  kept_shaped places s is below =
      search (some_labelled, length-map, all_made, column_of_table, frame_headings)

  pub drop_keeps : (columns : Given) → IsShaped t → IsFrame t → Keeps (drop_result t columns)
  drop_keeps columns s is =
      any_then IsValidEntry (label_columns t (each_key (map (λ l. l ∷ []) (labels_in columns)))) _ (λ places. limited_keeps (columns_frame t (places_besides t places)) (kept_shaped (places_besides t places) s is (some_below _ _)))
