-- The labels of a level as columns.
use Rattle.{frame_parts.proofs.Common.{arith, ◌≡◌, ◌∙◌, refused_on, columns_given, columns_part, level_names_part, AreGiven, Series, no_column, All-head, All-nil, subst, OpFault, MakesBy, Makes, then_value, bad_value, levels, refl, ap, sym, ℕ, ◌<◌, ◌≤◌, List, [], ◌∷◌, map, length, slice_get, slice_index_or, Option, Some, None, Result, Ok, Err, get_or-map, map-map, length-map, nat_tests, All-map, get_or_from_slice_get, Label, Text, na, label_datum, CellValue, FaultValue, CellColumn, AxisValue, HaveLevels, IsSettled, NumberedTable, column_at, table_value, heading_value, tuple_value, column_value, IsKnownTable, Entry, axis_of, table_column, headings_value, labels_value, settled_by, labels_part, map-remove}, column_core.proofs.cells.Common.{length-remove, remove}, cell_core.specs.declared.cell.Label.TheVariants.{Na}, multi_index.specs.Axes.{without_level}, frame_select.{specs.Selected.{as_it_is}, proofs.AnswerLaws.{column_seen}}, factorize.specs.Keys.{levels_of}, frame_labels.specs.method.{Levels.{level_of}, Reshape.{spread_result, unstack_result, unstacked_at}}, reshape.specs.row_keys.Keys.{label_in}, frame_reshape.{specs.{Keys.{level_keys}, Spreads.{AreEntries}}, proofs.LevelKeyLaws.{one_label}}}

-- the labels of rows on the other levels, and on the level
rest_seen : (texts : List Text) (tuples : List (List Label)) (level : ℕ) → labels_value texts (map (λ tuple. remove tuple level) tuples) ≡ map (λ labels. remove labels level) (labels_value texts tuples)
rest_seen texts tuples level = simp (map-map, map-remove)

label_seen : (texts : List Text) (tuple : List Label) (level : ℕ) → slice_index_or (tuple_value texts tuple) level na ≡ label_datum texts (label_in level tuple)
label_seen texts tuple level = get_or-map (label_datum texts) tuple level Na

labels_seen : (texts : List Text) (tuples : List (List Label)) (level : ℕ) → labels_value texts (map (λ tuple. label_in level tuple ∷ []) tuples) ≡ map (λ labels. slice_index_or labels level na ∷ []) (labels_value texts tuples)
labels_seen _ [] _ = refl
labels_seen texts (t ∷ ts) level = λ i. (sym (label_seen texts t level) i ∷ []) ∷ labels_seen texts ts level i

-- tuples of one length have that of the first
pub few_by_first : (n : ℕ) (tuples : List (List Label)) → HaveLevels n tuples → n ≤ 3 → levels_of tuples ≤ 3
few_by_first n [] all few = omega arith
few_by_first n (t ∷ ts) all few = omega (arith, few, All-head (λ tuple. length tuple ≡ n) t ts all)

pub alike_by_first : (n : ℕ) (tuples : List (List Label)) → HaveLevels n tuples → HaveLevels (levels_of tuples) tuples
alike_by_first n [] all = All-nil (λ tuple. length tuple ≡ levels_of [])
alike_by_first n (t ∷ ts) all = subst (λ k. HaveLevels k (t ∷ ts)) (sym (All-head (λ tuple. length tuple ≡ n) t ts all)) all

-- the cells of the one column of a Series
pub cells_there : (texts : List Text) (t : NumberedTable) (c : CellColumn) → IsKnownTable texts t → t.shape ≡ Series → column_at t.columns 0 ≡ table_column c → AreGiven texts c.cells
cells_there texts t c known series here = rw here at (columns_given texts t.columns (columns_part texts t known.given) 0 no_column (omega (arith, known.whole.headings.single series, known.whole.headed)))

-- a level that isn't there, or one level alone
pub unstack_one : (texts : List Text) (t : NumberedTable) (argument : Option CellValue) → length t.level_names < 2 → unstack_result (table_value texts t) argument ≡ Err (bad_value levels)
unstack_one texts t argument few = grind (arith, nat_tests, length-map)

pub unstack_refused : (texts : List Text) (t : NumberedTable) (argument : Option CellValue) (r : Result ℕ OpFault) (fault : OpFault) → 2 ≤ length t.level_names → r ≡ Err fault → MakesBy as_it_is texts r (level_of (table_value texts t) argument)
    → Makes texts (Err fault) (unstack_result (table_value texts t) argument)
unstack_refused texts t argument r fault several is refused =
    rw several_there (refused_on as_it_is texts (level_of (table_value texts t) argument) (unstacked_at (table_value texts t)) r fault is refused)
  where
    several_there : unstack_result (table_value texts t) argument ≡ then_value (level_of (table_value texts t) argument) (unstacked_at (table_value texts t))
    several_there = grind (arith, nat_tests, length-map)

module _ (texts : List Text) (t : NumberedTable) (level : ℕ) (several : 2 ≤ length t.level_names) (few : length t.level_names ≤ 4) (alike : HaveLevels (length t.level_names) t.labels) (inside : level < length t.level_names) (known : IsKnownTable texts t) where
  abbrev rest : AxisValue
  rest = without_level (axis_of t) level

  left : (tuple : List Label) → length tuple ≡ length t.level_names → length (remove tuple level) ≡ length rest.names
  left tuple long = omega (arith, long, length-remove tuple level (omega (arith, long)), length-remove t.level_names level inside)

  pub entries_are : (n : ℕ) → n ≡ length t.labels → AreEntries texts n (length rest.names) rest.tuples (level_keys (axis_of t) level)
  entries_are n rows = record {
    some = omega (arith, length-remove t.level_names level inside);
    few = omega (arith, length-remove t.level_names level inside);
    keys = All-map (λ tuple. length tuple ≡ length rest.names) (λ tuple. remove tuple level) t.labels (λ k d lt. left _ (alike k d lt));
    labels = one_label (axis_of t) level;
    count = length-map t.labels _ ∙ sym rows;
    count' = length-map t.labels _ ∙ sym rows;
    given = settled_by labels_value labels_value (map (λ labels. remove labels level)) texts t.labels rest.tuples (λ ts. sym (rest_seen ts t.labels level)) (labels_part texts t known.given);
    given' = settled_by labels_value labels_value (map (λ labels. slice_index_or labels level na ∷ [])) texts t.labels (level_keys (axis_of t) level) (λ ts. sym (labels_seen ts t.labels level)) (labels_part texts t known.given);
  }

  pub names_given : IsSettled headings_value texts rest.names
  names_given = settled_by headings_value headings_value (λ hs. remove hs level) texts t.level_names rest.names (λ ts. sym (map-remove (heading_value ts) t.level_names level)) (level_names_part texts t known.given)

  -- what is meant
  pub unstacked_is : (argument : Option CellValue) (name : Option Label) (c : CellColumn) → level_of (table_value texts t) argument ≡ Ok level → slice_get t.level_names level ≡ Some name → column_at t.columns 0 ≡ table_column c
      → spread_result (labels_value texts rest.tuples) (labels_value texts (level_keys (axis_of t) level)) (headings_value texts rest.names) (heading_value texts name) (column_value texts (table_column c)) ≡ unstack_result (table_value texts t) argument
  unstacked_is argument name c found at here =
      let named : slice_index_or (headings_value texts t.level_names) level None ≡ heading_value texts name = get_or-map (heading_value texts) t.level_names level None ∙ ap (heading_value texts) (get_or_from_slice_get t.level_names level name None at) in
      let same : spread_result (labels_value texts rest.tuples) (labels_value texts (level_keys (axis_of t) level)) (headings_value texts rest.names) (heading_value texts name) (column_value texts (table_column c)) ≡ unstacked_at (table_value texts t) level =
      cc (rest_seen texts t.labels level, labels_seen texts t.labels level, map-remove (heading_value texts) t.level_names level, named, column_seen texts t.columns 0, here) in
      grind (arith, nat_tests, length-map)

-- another wording of what is meant
pub makes_so : (texts : List Text) (r : Result NumberedTable OpFault) (m m' : Result Entry FaultValue) → m ≡ m' → Makes texts r m → Makes texts r m'
makes_so = grind arith

-- the same of an axis that is read
module _ (texts : List Text) (t : NumberedTable) (axis rest : AxisValue) (count level : ℕ) (is : axis ≡ axis_of t) (rest_is : rest ≡ without_level axis level) (counted : count ≡ length axis.names) (alike : HaveLevels count axis.tuples) (several : 2 ≤ count) (few : count ≤ 4) (inside : level < length t.level_names) (known : IsKnownTable texts t) where
  there : count ≡ length t.level_names
  there = counted ∙ ap (λ a. length a.names) is

  of_labels : HaveLevels (length t.level_names) t.labels
  of_labels = rw (← there) (rw is at alike)

  pub entries_read : (n : ℕ) → n ≡ length t.labels → AreEntries texts n (length rest.names) rest.tuples (level_keys axis level)
  entries_read n rows = rw (rest_is, is) (entries_are texts t level (omega (arith, several, there)) (omega (arith, few, there)) of_labels inside known n rows)

  pub few_read : levels_of rest.tuples ≤ 3
  few_read = let e = entries_read (length t.labels) refl in few_by_first (length rest.names) rest.tuples e.keys e.few

  pub alike_read : HaveLevels (levels_of rest.tuples) rest.tuples
  alike_read = let e = entries_read (length t.labels) refl in alike_by_first (length rest.names) rest.tuples e.keys

  pub names_read : IsSettled headings_value texts rest.names
  names_read = rw (rest_is, is) (names_given texts t level (omega (arith, several, there)) (omega (arith, few, there)) of_labels inside known)

  pub unstacked_read : (argument : Option CellValue) (name : Option Label) (c : CellColumn) → level_of (table_value texts t) argument ≡ Ok level → slice_get axis.names level ≡ Some name → column_at t.columns 0 ≡ table_column c
      → spread_result (labels_value texts rest.tuples) (labels_value texts (level_keys axis level)) (headings_value texts rest.names) (heading_value texts name) (column_value texts (table_column c)) ≡ unstack_result (table_value texts t) argument
  unstacked_read argument name c found at here =
      rw (rest_is, is) (unstacked_is texts t level (omega (arith, several, there)) (omega (arith, few, there)) of_labels inside known argument name c found (rw is at at) here)

pub ruleset level_refused = (unstack_one, unstack_refused)
