-- Levels that go, or change places with one another, and rows by their label on one level.
use Rattle.{
  frame_parts.proofs.Common.{ap, ◌≡◌, refl, sym, ℕ, ◌≤◌, List, [], ◌∷◌, map, length, Option, Some, None, arith, ◌∙◌, ◌++◌, true, false, slice_index_or, Ok, Err, get_or-map, nat_tests, length-map, map-set, length-range_with_len, All-map, IfSome, ◌≢◌, option_map, range_with_len, IsGiven, AreDistinct, Cell, Label, Text, datum, LabelValue, na, label_datum, limit, AxisValue, taken_axis, with_labels, IsSettled, NumberedTable, table_value, Table, column_at, tuple_value, scalar_in, IsWhole, same_label, limited, within_limits, arguments_of, Tables, axis_of, headings_of, labels_value, Makes, map-remove, settled_by, cell_given, labels_part, same_by_number, tuples_settled},
  column_core.{proofs.{cells.Common.{remove, swap}, CellRows.{map-map}}, specs.cells.Fault.{no_key}},
  cell_core.specs.declared.cell.Label.TheVariants.{Na},
  multi_index.{specs.{Axes.{without_level, with_swapped, tuples_at}, pick.{Labels.{unless_none}, Rows.{rows_where}}}, proofs.pick.RowLaws.{rows_where-map}},
  meaning_method.specs.{Levels.{level_dropped, level_gone, levels_swapped}, Section.{has_label, rows_with_label, section}},
  frame_signatures.{specs.{Bound.{Tells}, declared.bound.Bound.{Bound}}, proofs.ToldLaws.{told_settled, some_same}},
  factorize.specs.row_keys.Keys.{label_in},
  frame_select.{specs.{select.{Keys.{found_pick}, Select.{rows_taken}}, Chosen.{chosen, cells_at}}, proofs.{HeadingLaws.{label_decides}, TakenLaws.{chosen_rows}}},
  frame_labels.specs.Section.{has_number, section_of},
}

-- the texts of an argument were given
pub option_given : (b : Bound) (place : ℕ) (o : Option Cell) (live : Tables) (texts : List Text) → Tells b place scalar_in (λ _ ts. option_map (datum ts) o) → IsSettled (arguments_of live) texts b.args.now → IfSome o (IsGiven texts)
option_given b _ None _ _ _ _ = tt
option_given b _ (Some c) _ _ tells settled = cell_given _ c (λ more. some_same _ _ (told_settled b _ scalar_in (λ _ ts. Some (datum ts c)) _ _ tells settled more))

-- what is made of a list, item by item
map-swap : {X Y : Type 0} (f : X → Y) (xs : List X) (i j : ℕ) → map f (swap xs i j) ≡ swap (map f xs) i j
map-swap = grind (arith, map-set, get_or-map)

each_removed : (texts : List Text) (tuples : List (List Label)) (level : ℕ) → labels_value texts (map (λ tuple. remove tuple level) tuples) ≡ map (λ tuple. remove tuple level) (labels_value texts tuples)
each_removed texts tuples level = simp (map-map, map-remove)

each_swapped : (texts : List Text) (tuples : List (List Label)) (a b : ℕ) → labels_value texts (map (λ tuple. swap tuple a b) tuples) ≡ map (λ tuple. swap tuple a b) (labels_value texts tuples)
each_swapped texts tuples a b = simp (map-map, map-swap)

-- the table without a level
pub dropped_seen : (texts : List Text) (t : NumberedTable) (axis : AxisValue) (level : ℕ) → axis ≡ without_level (axis_of t) level → table_value texts (with_labels t axis.tuples axis.names) ≡ level_dropped (table_value texts t) level
dropped_seen = grind (arith, each_removed, map-remove)

pub dropped_settled : (texts : List Text) (t : NumberedTable) (axis : AxisValue) (level : ℕ) → axis ≡ without_level (axis_of t) level → IsSettled table_value texts t → IsSettled table_value texts (with_labels t axis.tuples axis.names)
dropped_settled texts t axis level is settled = λ more. cc (dropped_seen (texts ++ more) t axis level is, dropped_seen texts t axis level is, settled more)

-- another level stays, or none does
pub level_stays : (texts : List Text) (t : NumberedTable) (level : ℕ) → 2 ≤ length t.level_names → level_gone (table_value texts t) level ≡ limited (level_dropped (table_value texts t) level)
level_stays = grind (arith, length-map, nat_tests)

-- the table with two levels exchanged
pub swapped_seen : (texts : List Text) (t : NumberedTable) (axis : AxisValue) (a b : ℕ) → axis ≡ with_swapped (axis_of t) a b → table_value texts (with_labels t axis.tuples axis.names) ≡ levels_swapped (table_value texts t) a b
swapped_seen = grind (arith, each_swapped, map-swap)

pub swapped_settled : (texts : List Text) (t : NumberedTable) (axis : AxisValue) (a b : ℕ) → axis ≡ with_swapped (axis_of t) a b → IsSettled table_value texts t → IsSettled table_value texts (with_labels t axis.tuples axis.names)
swapped_settled texts t axis a b is settled = λ more. cc (swapped_seen (texts ++ more) t axis a b is, swapped_seen texts t axis a b is, settled more)

module _ (texts : List Text) where
  -- the label of a level, with its text
  label_there : (tuple : List Label) (level : ℕ) → slice_index_or (tuple_value texts tuple) level na ≡ label_datum texts (label_in level tuple)
  label_there tuple level = get_or-map (label_datum texts) tuple level Na

module _ (texts : List Text) (distinct : AreDistinct texts) (l : Label) (given : IsSettled label_datum texts l) (level : ℕ) where
  label_given : (tuple : List Label) → IsSettled tuple_value texts tuple → IsSettled label_datum texts (label_in level tuple)
  label_given tuple settled = λ more. cc (label_there (texts ++ more) tuple level, label_there texts tuple level, settled more)

  has_seen : (tuple : List Label) → IsSettled tuple_value texts tuple → has_label level (label_datum texts l) (tuple_value texts tuple) ≡ has_number level l tuple
  has_seen tuple settled =
      ap (same_label (label_datum texts l)) (label_there _ tuple _)
      ∙ sym (search (same_by_number, label_given, label_decides))

  -- the rows that have a label are those that have its number
  pub rows_by_number : (tuples : List (List Label)) → IsSettled labels_value texts tuples → rows_where (has_label level (label_datum texts l)) 0 (labels_value texts tuples) ≡ rows_where (has_number level l) 0 tuples
  rows_by_number _ settled = rows_where-map _ _ _ _ has_seen 0 _ (tuples_settled _ _ settled)

-- the table of some rows without a level, with texts
section_seen : (texts : List Text) (t : NumberedTable) (rows : List ℕ) (level : ℕ) → table_value texts (section_of t rows level) ≡ level_dropped (rows_taken (table_value texts t) rows) level
section_seen texts t rows level =
    let all = range_with_len 0 (length t.columns) in
    cc (dropped_seen texts (chosen t.shape (headings_of t) rows all t) (without_level (taken_axis (axis_of t) rows) level) level refl, chosen_rows texts (headings_of t) rows all t refl refl)

pub section_whole : (t : NumberedTable) (rows : List ℕ) (level : ℕ) → IsWhole t → IsWhole (section_of t rows level)
section_whole t rows level whole =
    let tuples = tuples_at t.labels rows in
    record {
      headed = search (length-map, length-range_with_len);
      filled = All-map (λ c. length c.cells ≡ length (map (λ tuple. remove tuple level) tuples)) (λ place. cells_at rows (column_at t.columns place)) (range_with_len 0 (length _)) (λ k d lt. grind (arith, length-map));
      headings = whole.headings;
    }

-- what is meant, by the rows that are found
module _ (texts : List Text) (distinct : AreDistinct texts) (t : NumberedTable) (l : Label) (level : ℕ) (rows : List ℕ) (given : IsSettled label_datum texts l) (settled : IsSettled table_value texts t) (is : rows ≡ rows_where (has_number level l) 0 t.labels) where
  abbrev V : Table
  V = table_value texts t

  abbrev key : LabelValue
  key = label_datum texts l

  found : rows_with_label V key level ≡ found_pick (unless_none (key ∷ []) rows)
  found = grind (arith, rows_by_number, labels_part)

  pub section_missing : length rows ≡ 0 → section V key level ≡ Err (no_key (key ∷ []))
  section_missing = grind (arith, found)

  meant : length rows ≢ 0 → section V key level ≡ limited (level_dropped (rows_taken V rows) level)
  meant = grind (arith, found)

  pub section_beyond : length rows ≢ 0 → within_limits (length rows) (length t.columns) ≡ false → section V key level ≡ Err limit
  section_beyond = grind (arith, meant, length-map)

  pub section_answer : (made : NumberedTable) → length rows ≢ 0 → within_limits (length rows) (length t.columns) ≡ true → made ≡ section_of t rows level → Makes texts (Ok made) (section V key level)
  section_answer _ some within same = grind (arith, meant, length-map, section_seen, settled_by)
