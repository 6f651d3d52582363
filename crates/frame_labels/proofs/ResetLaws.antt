-- The levels of a table as columns of a frame, and the frame that they become with its columns.
use Rattle.{
  frame_parts.proofs.Common.{◌≡◌, ◌∙◌, refl, ap, ℕ, pos, ◌+◌, ◌<◌, not, nat_eq, Bool, true, false, List, [], ◌∷◌, ◌++◌, map, take, drop, length, slice_index_or, slice_get, All, Option, Some, None, if◌then◌else◌, append_assoc, append-nil, add-one, arith, sym, subst, Result, Ok, Err, get_or-map, drop-cons, nat_tests, length-map, map-append, take_more, All-append, All-nil, All-map, length-range_with_len, length-map-range_with_len, get_or_from_slice_get, slice_get_within, unwrap_or, codes, IsSome, IfOk, list_any, range_with_len, AreDistinct, Label, TextId, Cell, Frame, CellBlock, Text, LabelValue, int, label_datum, IsLonger, CellValue, na, FaultValue, fault_of, limit, then_value, IsSettled, NumberedTable, Table, table_value, heading_value, ColumnOf, tuple_value, column_value, with_labels, IsWhole, Entry, same_heading, within_limits, limited, unless_repeated, default_labels, try_all, list_column, block_column, IsSingle, HeadingList, axis_of, headings_value, labels_value, columns_value, cells_value, Makes, OpFault, Refused, NoMemory, settled_later, seen_later, settled_by, headings_part, level_names_part, cell_settled, columns_given, columns_part, AreGiven, columns_name_part, columns_settled, table_settled, AxisValue, range_axis, MakesBy, blocks_value, AreColumns, default_seen, refused_on},
  column_core.proofs.{cells.Common.{length-append, with_text, text}, CellRows.{map-map}},
  cell_core.specs.declared.cell.Label.TheVariants.{Na},
  std.{specs.Prelude.{◌*◌, sum}, proofs.{Math.Seq.{take-append_seam, drop-append_seam}, lemmas.List.{take-map, drop-map}}},
  frame_store.{proofs.KeptLaws.{cells_of_blocks}, specs.{Derivations.{IsWithin}, Parts.{cells_of, table_behind}, declared.derivations.Extension.{Extension}}},
  meaning_method.specs.{Levels.{numbered_label, nameless_label, label_cell, level_labels, level_headings, with_levels, levels_reset, renumbered}, Methods.{as_frame}, form.Finish.{first_shared}},
  frame_select.{proofs.{PlaceLaws.{heading_settled, label_settled as label_settled_by}, HeadingLaws.{shared_seen}, RefusalLaws.{shared_settled}}, specs.Headings.{NamesRepeated, shared_heading}},
  frame_labels.specs.{Labels.{column_tuple}, Resets.{frame_heading, frame_headings, reset_headings, reset_frame, reset_result}, LevelColumns.{cell_of}},
}
use Rattle.cell_core.specs.declared.cell.Cell.TheVariants as cell
use Rattle.cell_core.specs.declared.cell.Label.TheVariants as label
use Rattle.meaning_method.specs.Levels as meant
use Rattle.frame_labels.specs.LevelColumns as levels

heading_seen : (texts : List Text) (h : Option Label) → heading_value texts (frame_heading h) ≡ Some (unwrap_or (heading_value texts h) (int (pos 0)))
heading_seen = grind arith

pub headings_seen : (texts : List Text) (t : NumberedTable) → headings_value texts (frame_headings t) ≡ (as_frame (table_value texts t)).headings
headings_seen texts t = simp (map-map, heading_seen)

pub headings_settled : (texts : List Text) (t : NumberedTable) → IsSettled table_value texts t → IsSettled headings_value texts (frame_headings t)
headings_settled = search (settled_by, headings_seen, headings_part)

-- one of them, and those after it
pub next_heading : (t : NumberedTable) (place : ℕ) (h : Option Label) (l : Label) → place < length t.headings → h ≡ slice_index_or t.headings place None → column_tuple h ≡ l ∷ []
    → drop place (frame_headings t) ≡ Some l ∷ drop (place + 1) (frame_headings t)
next_heading t place h l lt is tuple =
    grind (arith, drop-cons (frame_headings t) place (frame_heading None), get_or-map frame_heading t.headings place None, length-map t.headings frame_heading, add-one)

pub label_settled : (texts : List Text) (t : NumberedTable) (place : ℕ) (h : Option Label) (l : Label) → h ≡ slice_index_or t.headings place None → column_tuple h ≡ l ∷ []
    → IsSettled table_value texts t → IsSettled heading_value texts (Some l)
label_settled texts t place h l is tuple settled = λ more. grind (arith, heading_settled _ t.headings place h is (headings_part texts t settled) more)

-- whether one from a place on is a label
abbrev pub stands_from : List Text → Label → NumberedTable → ℕ → Bool
stands_from texts l t place = list_any (same_heading (heading_value texts (Some l))) (headings_value texts (drop place (frame_headings t)))

module _ (texts : List Text) (l other : Label) (t : NumberedTable) (place : ℕ) (h : Option Label) (b whole : Bool) (lt : place < length t.headings) (is : h ≡ slice_index_or t.headings place None) (tuple : column_tuple h ≡ other ∷ [])
    (same : b ≡ same_heading (heading_value texts (Some l)) (heading_value texts (Some other))) where
  pub label_met : b ≡ true → stands_from texts l t place ≡ whole → true ≡ whole
  label_met = grind (arith, next_heading t place h other lt is tuple)

  pub label_passed : b ≡ false → stands_from texts l t place ≡ whole → stands_from texts l t (place + 1) ≡ whole
  label_passed = grind (arith, next_heading t place h other lt is tuple)

-- the label of a nameless level, by what the labels of the columns are
abbrev pub label_if : Bool → ℕ → LabelValue
label_if free level = if free then meant.index_label else numbered_label level

-- a text that was given its number, as a label
pub text_seen : (texts : List Text) (id : TextId) (words : Text) → slice_get texts id.0 ≡ Some words → label_datum texts (label.Text id) ≡ text words
text_seen = search get_or_from_slice_get

-- the label of the one level, by the text "index" that got its number
pub one_nameless : (old new : List Text) (t : NumberedTable) (id : TextId) (there : Bool) (level : ℕ) → length t.level_names ≡ 1 → new ≡ with_text old (codes "index") → IsSettled table_value old t → slice_get new id.0 ≡ Some (codes "index")
    → there ≡ list_any (same_heading (heading_value new (Some (label.Text id)))) (headings_value new (frame_headings t)) → nameless_label (as_frame (table_value old t)) level ≡ label_if (not there) level
one_nameless old new t id there level one grown settled given is =
    let longer : IsLonger old new = grind (arith, append-nil) in
    let seen = text_seen new id (codes "index") given in
    grind (arith, nat_eq, length-map, seen_later, headings_seen, nat_tests)

-- the name of a level
pub level_named : (texts : List Text) (t : NumberedTable) (level : ℕ) (o : Option Label) → slice_get t.level_names level ≡ Some o
    → meant.level_label (as_frame (table_value texts t)) level ≡ unwrap_or (heading_value texts o) (nameless_label (as_frame (table_value texts t)) level)
level_named texts t level o at =
    cc (get_or-map (heading_value texts) t.level_names level None, get_or_from_slice_get t.level_names level o None at)

pub name_settled : (texts : List Text) (t : NumberedTable) (level : ℕ) (o : Option Label) → slice_get t.level_names level ≡ Some o → IsSettled table_value texts t → IsSettled heading_value texts o
name_settled texts t level o at settled = heading_settled _ _ level o (sym (get_or_from_slice_get t.level_names level o None at)) (level_names_part texts t settled)

-- one label more of a level
abbrev label_of_level : Table → ℕ → Option LabelValue
label_of_level v level = Some (meant.level_label v level)

pub one_more_given : (old new : List Text) (l : Label) (labels labels' : List (Option Label)) → IsLonger old new → IsSettled headings_value old labels → IsSettled label_datum new l → labels' ≡ labels ++ Some l ∷ [] → IsSettled headings_value new labels'
one_more_given old new l labels _ longer given here pushed = λ more. grind (arith, map-append, settled_later headings_value old new labels longer given more, here more)

pub all_levels : (texts first : List Text) (t : NumberedTable) (level : ℕ) (labels : List (Option Label)) → level ≡ length t.level_names → headings_value texts labels ≡ map (label_of_level (as_frame (table_value first t))) (range_with_len 0 level)
    → headings_value texts labels ≡ map (λ l. Some l) (meant.level_labels (as_frame (table_value first t)))
all_levels _ _ t _ _ end so_far = grind (arith, length-map, map-map)

-- the labels of all levels, and then those of the columns
pub labels_given : (texts : List Text) (t : NumberedTable) (labels labels' : List (Option Label)) → IsSettled headings_value texts labels → IsSettled table_value texts t → labels' ≡ labels ++ frame_headings t → IsSettled headings_value texts labels'
labels_given = grind (arith, map-append, headings_settled)

pub labels_meant : (first texts : List Text) (t : NumberedTable) (labels labels' : List (Option Label)) → IsLonger first texts → IsSettled table_value first t → labels' ≡ labels ++ frame_headings t
    → headings_value texts labels ≡ map (λ l. Some l) (meant.level_labels (as_frame (table_value first t))) → headings_value texts labels' ≡ reset_headings (as_frame (table_value first t))
labels_meant = grind (arith, map-append, headings_seen, seen_later)

-- one heading more
pub one_more_heading : (t : NumberedTable) (place : ℕ) (h : Option Label) (l : Label) (first labels labels' : List (Option Label)) → place < length t.headings → h ≡ slice_index_or t.headings place None → column_tuple h ≡ l ∷ []
    → labels' ≡ labels ++ Some l ∷ [] → labels ≡ first ++ take place (frame_headings t) → labels' ≡ first ++ take (place + 1) (frame_headings t)
one_more_heading t place h l _ _ _ lt is tuple pushed before =
    grind (arith, append_assoc, take_more (frame_headings t) place (frame_heading None), get_or-map frame_heading t.headings place None, length-map t.headings frame_heading)

pub text_settled : (texts : List Text) (id : TextId) (words : Text) → slice_get texts id.0 ≡ Some words → IsSettled label_datum texts (label.Text id)
text_settled _ id _ given = label_settled_by _ (label.Text id) (cell.Text id) (λ ts. refl) (cell_settled _ (cell.Text id) (slice_get_within _ _ _ given))

-- the labels of a level as cells, with texts
cells_seen : (texts : List Text) (tuples : List (List Label)) (level : ℕ) → cells_value texts (map (λ tuple. cell_of (slice_index_or tuple level Na)) tuples) ≡ map (λ tuple. label_cell (slice_index_or tuple level na)) (labels_value texts tuples)
cells_seen _ [] _ = refl
cells_seen texts (t ∷ ts) level = grind (arith, get_or-map (label_datum texts) t level Na, cells_seen texts ts level)

-- the columns of the levels
columns_seen : (texts : List Text) (t : NumberedTable) → levels.level_columns texts (axis_of t) ≡ meant.level_columns (as_frame (table_value texts t))
columns_seen texts t = λ j. try_all (λ level. list_column (cells_seen texts t.labels level j)) (range_with_len 0 (sym (length-map t.level_names (heading_value texts)) j))

abbrev reset_as : Table → List (ColumnOf CellValue) → Result Entry FaultValue
reset_as v columns = unless_repeated (first_shared (level_headings (as_frame v)) (as_frame v).headings) (limited (with_levels (as_frame v) columns))

reset_by : (texts : List Text) (t : NumberedTable) (v : Table) → v ≡ table_value texts t → levels_reset (as_frame v) ≡ then_value (levels.level_columns texts (axis_of t)) (reset_as v)
reset_by = grind (arith, columns_seen)

-- a level of two kinds
pub reset_refused : (texts : List Text) (t : NumberedTable) (made : Result (List CellBlock) OpFault) (fault : OpFault) → made ≡ Err fault → MakesBy blocks_value texts made (levels.level_columns texts (axis_of t))
    → Makes texts (Err fault) (levels_reset (as_frame (table_value texts t)))
reset_refused texts t _ fault is makes = grind (arith, reset_by texts t (table_value texts t) refl, refused_on)

-- what is made of each
tried : {A B : Type 0} (P : B → Type 0) (f : A → Result B FaultValue) → ((a : A) → IfOk (f a) P) → (xs : List A) → IfOk (try_all f xs) (λ ys. (length ys ≡ length xs) × All P ys)
tried P f _ [] = (refl, All-nil P)
tried P f each (x ∷ xs) = grind (arith, tried P f each xs)

abbrev HasRows : {C : Type 0} → ℕ → ColumnOf C → Type 0
HasRows n c = length c.cells ≡ n

rows_numbered : (texts : List Text) (n : ℕ) (cs : List (ColumnOf Cell)) → All (HasRows n) (columns_value texts cs) → All (HasRows n) cs
rows_numbered texts n cs all k d lt = grind (arith, all k (column_value texts d), get_or-map (column_value texts) cs k d, length-map)

-- the columns that were made
abbrev pub IsMadeOf : NumberedTable → List (ColumnOf CellValue) → Type 0
IsMadeOf t ys = (length ys ≡ length t.level_names) × All (HasRows (length t.labels)) ys

made_of : (texts : List Text) (t : NumberedTable) → IfOk (levels.level_columns texts (axis_of t)) (IsMadeOf t)
made_of texts t =
    let each : (level : ℕ) → IfOk (levels.level_column texts (axis_of t) level) (HasRows (length t.labels)) = λ level. grind (arith, length-map) in
    grind (arith, tried (HasRows (length t.labels)) (levels.level_column texts (axis_of t)) each (range_with_len 0 (length t.level_names)), length-range_with_len)

-- a label and a column for each level, before those of the table
headings_split : (v : Table) (columns : List (ColumnOf CellValue)) → length columns ≡ length v.level_names → reset_result v (reset_headings (as_frame v)) columns ≡ reset_as v columns
headings_split v columns count =
    let many : length columns ≡ length (level_headings (as_frame v)) = grind (arith, length-map, length-range_with_len) in
    rw (many, take-append_seam, drop-append_seam)

-- all of it
pub reset_made : (old new : List Text) (t : NumberedTable) (labels : List (Option Label)) (blocks : List CellBlock) → IsLonger old new → IsSettled table_value old t → headings_value new labels ≡ reset_headings (as_frame (table_value old t))
    → levels.level_columns new (axis_of t) ≡ Ok (blocks_value new blocks)
    → reset_result (table_value new t) (headings_value new labels) (blocks_value new blocks) ≡ levels_reset (as_frame (table_value old t))
reset_made old new t _ blocks longer settled headed made =
    let same = seen_later table_value old new t longer settled in
    let count = rw made at (made_of new t) in
    cc (reset_by new t (table_value old t) (sym same), headings_split (table_value old t) (blocks_value new blocks) (count.0 ∙ sym (length-map t.level_names (heading_value old))))

abbrev pub AreLevels : NumberedTable → List CellBlock → Type 0
AreLevels t blocks = (texts : List Text) → levels.level_columns texts (axis_of t) ≡ Ok (blocks_value texts blocks)

levels_made : (texts : List Text) (t : NumberedTable) (blocks : List CellBlock) → AreLevels t blocks → IsMadeOf t (blocks_value texts blocks)
levels_made texts t _ made = rw (made texts) at (made_of texts t)

pub levels_count : (t : NumberedTable) (blocks : List CellBlock) → AreLevels t blocks → length blocks ≡ length t.level_names
levels_count t blocks made = grind (arith, levels_made [] t blocks made, length-map)

-- one column for each level, of as many cells as there are rows
pub levels_within : (t : NumberedTable) (blocks : List CellBlock) (r : Result Extension OpFault) → All IsSingle blocks → AreLevels t blocks → IfOk r (λ made. made.first ≡ blocks) → IfOk r (IsWithin (length t.labels * length t.level_names))
levels_within t blocks (Err fault) single made first = tt
levels_within t blocks (Ok e) single made first =
    let n = length t.labels in
    let filled = rows_numbered [] n (map block_column blocks) (levels_made [] t blocks made).1 in
    let all : sum (map cells_of e.first) ≡ n * length t.level_names =
    ap (λ (bs : List CellBlock). sum (map cells_of bs)) first ∙ cells_of_blocks blocks n single filled ∙ ap (λ (k : ℕ). n * k) (levels_count t blocks made) in
    omega (arith, all)

pub columns_are : (texts : List Text) (t : NumberedTable) (blocks : List CellBlock) → IsSettled table_value texts t → All IsSingle blocks → AreLevels t blocks → AreColumns texts (length t.labels) (length blocks) blocks
columns_are texts t blocks settled single made =
    let m = levels_made texts t blocks made in
    record {
      single = single;
      count = refl;
      filled = search rows_numbered;
      given = columns_given _ _
          (grind (arith, settled_by, columns_seen));
    }

-- the labels that were made
labels_some : (texts : List Text) (hs : List (Option Label)) → All IsSome (headings_value texts hs) → All IsSome hs
labels_some texts hs all k d lt = grind (arith, all k (heading_value texts d), get_or-map (heading_value texts) hs k d, length-map)

pub reset_some : (old new : List Text) (t : NumberedTable) (labels : List (Option Label)) → headings_value new labels ≡ reset_headings (as_frame (table_value old t)) → All IsSome labels
reset_some old new t _ is =
    let F = as_frame (table_value old t) in
    labels_some new _ (rw is (All-append IsSome (map (λ l. Some l) (level_labels F)) F.headings (search All-map) (search All-map)))

-- the labels 0, 1 and so on
range_count : (n : ℕ) → length (default_labels n) ≡ n
range_count = search length-map-range_with_len

pub range_rows : (n : ℕ) (axis : AxisValue) → axis ≡ range_axis n → length axis.tuples ≡ n
range_rows n axis is = cc (length-map axis.tuples (tuple_value []), default_seen [] n, range_count n)

-- the table of these parts
abbrev pub own_headings : NumberedTable → List (Option Label) → HeadingList
own_headings t labels = record { columns_name = t.columns_name; labels = labels }

abbrev pub parts_table : NumberedTable → ℕ → List (Option Label) → List CellBlock → NumberedTable
parts_table t rows labels blocks = table_behind Frame (range_axis rows) (own_headings t labels) blocks t

pub parts_whole : (texts : List Text) (t : NumberedTable) (rows : ℕ) (labels : List (Option Label)) (blocks : List CellBlock) → IsWhole t → AreColumns texts (length t.labels) (length blocks) blocks → length blocks + length t.columns ≡ length labels
    → rows ≡ length t.labels → All IsSome labels → IsWhole (parts_table t rows labels blocks)
parts_whole _ t _ _ blocks whole columns count is some =
    let filled = All-append (λ (c : ColumnOf Cell). length c.cells ≡ length t.labels) (map block_column blocks) t.columns columns.filled whole.filled in
    grind (arith, length-range_with_len, length-map, length-append)

-- the label of a new column that another one has too
module _ (texts : List Text) (t : NumberedTable) (labels new own : List (Option Label)) (blocks : List CellBlock) (given : IsSettled headings_value texts labels) (first : new ≡ take (length blocks) labels) (others : own ≡ drop (length blocks) labels) where
  abbrev frame : Table
  frame = reset_frame (table_value texts t) (headings_value texts labels) (blocks_value texts blocks)

  abbrev answer : Result Entry FaultValue
  answer = reset_result (table_value texts t) (headings_value texts labels) (blocks_value texts blocks)

  new_given : IsSettled headings_value texts new
  new_given = settled_by headings_value headings_value (take (length blocks)) texts labels new (λ ts. grind (arith, take-map)) given

  own_given : IsSettled headings_value texts own
  own_given = settled_by headings_value headings_value (drop (length blocks)) texts labels own (λ ts. grind (arith, drop-map)) given

  answer_is : (found : Option Label) → AreDistinct texts → shared_heading new own ≡ found → answer ≡ unless_repeated (heading_value texts found) (limited frame)
  answer_is found distinct is = grind (arith, length-map, take-map, drop-map, shared_seen texts new own distinct new_given own_given)

  pub parts_repeated : (why : OpFault) → AreDistinct texts → NamesRepeated why (shared_heading new own) → Makes texts (Err why) answer
  parts_repeated (Refused code) distinct named = (
    answer_is (Some named.0) distinct named.1 ∙ ap (λ c. Err (fault_of texts c)) (sym named.2),
    shared_settled texts code new own named.0 named.1 named.2 new_given,
  )
  parts_repeated NoMemory distinct _ = tt

  -- beyond the limits, or within them
  module _ (distinct : AreDistinct texts) (none : shared_heading new own ≡ None) (count : length blocks + length t.columns ≡ length labels) where
    headed : answer ≡ limited frame
    headed = answer_is None distinct none

    pub parts_beyond : within_limits (length t.labels) (length labels) ≡ false → answer ≡ Err limit
    parts_beyond = grind (arith, headed, range_count, length-map, length-append)

    pub parts_made : (made : NumberedTable) (rows : ℕ) → IsSettled table_value texts t → AreColumns texts (length t.labels) (length blocks) blocks → within_limits (length t.labels) (length labels) ≡ true → rows ≡ length t.labels → made ≡ parts_table t rows labels blocks
        → Makes texts (Ok made) answer
    parts_made _ _ settled columns within is same =
        let columns_there = All-append (λ (c : ColumnOf Cell). AreGiven texts c.cells) (map block_column blocks) t.columns columns.given (columns_given texts t.columns (columns_part texts t settled)) in (
          grind (arith, headed, range_count, length-map, length-append, map-append, default_seen),
          subst (IsSettled table_value texts) (sym same) (search (table_settled, columns_name_part, default_seen, columns_settled)),
        )

pub renumbered_beyond : (texts : List Text) (t : NumberedTable) → within_limits (length t.labels) (length t.columns) ≡ false → limited (renumbered (table_value texts t)) ≡ Err limit
renumbered_beyond = grind (arith, range_count, length-map)

pub renumbered_made : (texts : List Text) (t made : NumberedTable) (axis : AxisValue) (rows : ℕ) → axis ≡ range_axis rows → rows ≡ length t.labels → within_limits (length t.labels) (length t.columns) ≡ true → IsSettled table_value texts t
    → made ≡ with_labels t axis.tuples axis.names → Makes texts (Ok made) (limited (renumbered (table_value texts t)))
renumbered_made = grind (arith, range_count, length-map, default_seen, settled_by)
