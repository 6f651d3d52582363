-- Rows that are spread by the numbers of their keys and labels.
use Rattle.{column_core.proofs.cells.Common.{◌≡◌, ◌∙◌, ◌<◌, ◌≤◌, ◌+◌, ◌*◌, ◌&&◌, ◌==◌, ◌↔◌, ℕ, Bool, true, false, cond, List, [], ◌∷◌, ◌++◌, refl, sym, ap, subst, arith, length, map, Option, Some, None, option_map, Result, Ok, Err, All, All-map, slice_index_or, length-map, get_or_default, ne_eqb, length-map-range_with_len, get_or-map-range_with_len, get_or-map, map-map, zip, list_any, IfSome, Label, Text, distinct}, std.proofs.{lemmas.Slice.Zip.{get_or-zip, length-zip}}, factorize.{specs.{pick.Rows.{rows_where, only_row}, align.Targets.{first_repeated, rows_of_targets}, index_core.Labels.{same_number}, multi_index.Axes.{HaveLevels}, group.{Keys.{group_keys, group_of, group_codes}, Rows.{GroupsValue, rows_of_group, is_in}}, Keys.{seen_rules, levels_of}, Numbers.{number_in}, label_align.Tuples.{tuple_less}}, proofs.{pick.{RowLaws.{rows_where-map}, InsideLaws.{rows_inside}}, align.OrderLaws.{all_in_order}, group.ListLaws.{map_on}, PlaceLaws.{there}, LawOfGroups.{keys_there}, KeyNumberLaws.{keys_are, rows_known}, sorting.OrderLaws.{in_order_rises}, label_align.LawOfJoins.{tuple_weak}}}, row_keys.{specs.Keys.{same_tuple, same_pair, place_among, codes_of, first_rows, label_in}, proofs.{KeyLaws.{any_at, place_tells, position_in, all_known}, PairLaws.{packed_tell}, RecodeLaws.{renumbered, All-distinct}, PartnerLaws.{tuple_laws}}}, merge_concat.{specs.Codes.{repeated_from}, proofs.JoinLaws.{apart, repeated_coded}}, meaning_shapes.{specs.{tables.Valid.{within_limits}, Reshape.{entries, every_entry, SpreadOf, UnstackRefusal, duplicate_entry, too_large, spread_out, unless_twice, spread_within_limits, unstacked}, Unstacking.{AreKeysInOrder, IsUnstacking, place_at}}, proofs.{GridLaws.{zip_seen, zip_turned, same_grids, every_counted, every_within, every_at}, EntryLaws.{pointwise-append, few_rows, only_tells}}}, reshape.specs.Slots.{slot_of, slots_of, last_row, rows_at_slots, labelled, repeated_at}}

-- the distinct tuples in order
module _ (texts : List Text) (rows : List (List Label)) where
  abbrev pub keys : List (List Label)
  keys = group_keys (seen_rules texts) true false rows

  abbrev pub rank : List Label → ℕ
  rank = place_among same_tuple keys

  pub keys_keep : (P : List Label → Type 0) → All P rows → All P keys
  keys_keep P all = rw (keys_are texts true rows) (all_in_order P _ _ (All-distinct P same_tuple rows all))

  -- the number of each row
  pub codes_are : group_codes (seen_rules texts) true false rows ≡ map (λ row. Some (rank row)) rows
  codes_are = map_on (λ row. list_any (same_tuple row) keys ≡ true) (group_of same_tuple keys) (λ row. Some (rank row)) (λ row known. there _ keys (position_in _ _ known)) rows (rows_known texts true rows)

  pub tells : (r : ℕ) (row : List Label) → r < length keys → list_any (same_tuple row) keys ≡ true → same_tuple (slice_index_or keys r []) row ≡ (r == rank row)
  tells r row lt known = place_tells same_tuple tuple_laws keys (slice_index_or keys r []) row known ∙ ap (λ n. n == rank row) (apart texts true [] rows r lt)

  -- the keys of rows in order
  keys_ordered : AreKeysInOrder same_tuple (tuple_less texts) rows keys
  keys_ordered = record {
    all = rows_known texts true rows;
    once = λ i j k lt inside.
        let known : list_any (same_tuple (slice_index_or keys i [])) keys ≡ true = any_at (same_tuple (slice_index_or keys i [])) keys i [] (omega (arith, lt, inside)) (tuple_laws.refl (slice_index_or keys i [])) in
        (λ n. same_tuple (get_or_default keys j k [] inside n) (get_or_default keys i k [] (omega (arith, lt, inside)) n))
        ∙ tells j (slice_index_or keys i []) inside known
        ∙ ap (λ n. j == n) (apart texts true [] rows i (omega (arith, lt, inside)))
        ∙ ne_eqb j i (omega (arith, lt));
    no_others = keys_there (seen_rules texts) tuple_laws true false rows;
    in_order = λ i j k lt inside. rw (keys_are texts true rows) (in_order_rises (tuple_less texts) (tuple_weak texts) (distinct same_tuple rows) k i j lt (rw (keys_are texts true rows) at inside));
  }

single : (a b : List Label) → length a ≡ 1 → length b ≡ 1 → same_tuple a b ≡ same_number (label_in 0 a) (label_in 0 b)
single [] b one other = grind arith
single (x ∷ []) [] one other = grind arith
single (x ∷ []) (y ∷ []) one other = grind arith
single (x ∷ []) (y ∷ (z ∷ b)) one other = grind arith
single (x ∷ (w ∷ a)) b one other = grind arith

last_is_only : (rows : List ℕ) → length rows ≤ 1 → last_row None rows ≡ only_row rows
last_is_only [] few = refl
last_is_only (row ∷ []) few = refl
last_is_only (row ∷ (other ∷ rows)) few = grind arith

module _ (texts : List Text) (rest spread : List (List Label)) (counted : length rest ≡ length spread) (alike : HaveLevels (levels_of rest) rest) (one : HaveLevels 1 spread) where
  abbrev pub all : List (List Label)
  all = entries rest spread

  abbrev both : List (List Label × List Label)
  both = zip rest spread

  abbrev key_of : List Label → ℕ
  key_of = rank texts rest

  abbrev label_of : List Label → ℕ
  label_of = rank texts spread

  -- a key and a label of a row
  record IsRow (row : List Label × List Label) : Type 0 where
    key : list_any (same_tuple row.0) (keys texts rest) ≡ true
    label : list_any (same_tuple row.1) (keys texts spread) ≡ true
    levels : length row.0 ≡ levels_of rest
    level : length row.1 ≡ 1

  rows_are : All IsRow both
  rows_are k d lt =
      let inside : k < length rest = grind (arith, length-zip) in
      let inside' : k < length spread = grind (arith, length-zip) in
      subst IsRow (sym (get_or-zip rest spread k d inside inside')) record {
        key = rows_known texts true rest k d.0 inside;
        label = rows_known texts true spread k d.1 inside';
        levels = alike k d.0 inside;
        level = one k d.1 inside';
      }

  -- the first labels that two rows have
  abbrev numbered : List Label × List Label → Label × ℕ
  numbered row = (label_in 0 row.1, key_of row.0)

  agree : (a b : List Label × List Label) → IsRow a → IsRow b → same_pair same_number (numbered a) (numbered b) ≡ same_tuple (a.0 ++ a.1) (b.0 ++ b.1)
  agree a b ia ib =
      let apart' = pointwise-append same_number a.0 b.0 a.1 b.1 (ia.levels ∙ sym ib.levels) in
      let keys_tell = place_tells same_tuple tuple_laws (keys texts rest) a.0 b.0 ib.key in
      let labels_tell = single a.1 b.1 ia.level ib.level in
      grind (arith, apart', keys_tell, labels_tell)

  labelled_is : (codes : List (Option ℕ)) → codes ≡ group_codes (seen_rules texts) true false rest → labelled spread codes ≡ map numbered both
  labelled_is codes is =
      ap (λ ns. zip (map (label_in 0) spread) ns) (ap (map number_in) (is ∙ codes_are texts rest) ∙ map-map number_in (λ row. Some (key_of row)) rest)
      ∙ zip_turned key_of (label_in 0) rest spread

  pub first_is : (codes : List (Option ℕ)) (found : Option ℕ) → codes ≡ group_codes (seen_rules texts) true false rest → found ≡ repeated_at (labelled spread codes) → first_repeated same_tuple all ≡ option_map (λ row. slice_index_or all row []) found
  first_is codes found coded is =
      let eq : Label × ℕ → Label × ℕ → Bool = same_pair same_number in
      let pairs = map numbered both in
      let same : codes_of eq pairs ≡ codes_of same_tuple all = (renumbered numbered eq (λ (row : List Label × List Label). row.0 ++ row.1) same_tuple IsRow agree both rows_are (codes_of eq pairs) (first_rows eq pairs) record { coded = refl; first = refl }).coded in
      repeated_coded same_tuple tuple_laws (distinct same_tuple all) all (all_known same_tuple tuple_laws all) []
      ∙ ap (option_map (λ row. slice_index_or all row [])) (sym (is ∙ ap repeated_at (labelled_is codes coded) ∙ ap (λ ns. repeated_from ns 0 ns) same))

  pub entry_at : (row : ℕ) → row < length rest → slice_index_or all row [] ≡ slice_index_or rest row [] ++ slice_index_or spread row []
  entry_at row lt =
      let inside : row < length both = grind (arith, length-zip) in
      let inside' : row < length spread = omega (arith, lt, counted) in
      get_or-map (λ (z : List Label × List Label). z.0 ++ z.1) both row ([], []) [] inside ∙ ap (λ z. z.0 ++ z.1) (get_or-zip rest spread row ([], []) lt inside')

  -- the cells of numbers
  module _ (once : first_repeated same_tuple all ≡ None) (by_key by_label : GroupsValue) (keyed : by_key.codes ≡ group_codes (seen_rules texts) true false rest) (coded : by_label.codes ≡ group_codes (seen_rules texts) true false spread)
      (width : by_label.count ≡ length (keys texts spread)) where
    abbrev slot : List Label × List Label → Option ℕ
    slot row = slot_of (length (keys texts spread)) (Some (key_of row.0)) (Some (label_of row.1))

    slots_are : slots_of by_key by_label ≡ map slot both
    slots_are =
        (λ i. map (λ row. slot_of (width i) row.0 row.1) (zip ((keyed ∙ codes_are texts rest) i) ((coded ∙ codes_are texts spread) i)))
        ∙ ap (map (λ row. slot_of (length (keys texts spread)) row.0 row.1)) (zip_seen (λ row. Some (key_of row)) (λ row. Some (label_of row)) rest spread)
        ∙ map-map (λ row. slot_of (length (keys texts spread)) row.0 row.1) (λ row. (Some (key_of row.0), Some (label_of row.1))) both

    module _ (r c : ℕ) (lt : r < length (keys texts rest)) (inside : c < length (keys texts spread)) where
      abbrev target : List Label
      target = slice_index_or (keys texts rest) r [] ++ slice_index_or (keys texts spread) c []

      here : (row : List Label × List Label) → IsRow row → is_in (r * length (keys texts spread) + c) (slot row) ≡ same_tuple target (row.0 ++ row.1)
      here row is =
          let width' = length (keys texts spread) in
          let below : label_of row.1 < width' = position_in (same_tuple row.1) (keys texts spread) is.label in
          let long : length (slice_index_or (keys texts rest) r []) ≡ length row.0 = keys_keep texts rest (λ key. length key ≡ levels_of rest) alike r [] lt ∙ sym is.levels in
          sym (packed_tell width' r c (key_of row.0) (label_of row.1) inside below)
          ∙ (λ i. sym (tells texts rest r row.0 lt is.key) i && sym (tells texts spread c row.1 inside is.label) i)
          ∙ sym (pointwise-append same_number (slice_index_or (keys texts rest) r []) row.0 (slice_index_or (keys texts spread) c []) row.1 long)

      rows_here : rows_of_group (r * length (keys texts spread) + c) (slots_of by_key by_label) ≡ rows_where (same_tuple target) 0 all
      rows_here =
          ap (rows_of_group (r * length (keys texts spread) + c)) slots_are
          ∙ rows_where-map IsRow (is_in (r * length (keys texts spread) + c)) (λ row. same_tuple target (row.0 ++ row.1)) slot here 0 both rows_are
          ∙ sym (rows_where-map IsRow (same_tuple target) (λ row. same_tuple target (row.0 ++ row.1)) (λ row. row.0 ++ row.1) (λ row is. refl) 0 both rows_are)

      pub placed_here : last_row None (rows_of_group (r * length (keys texts spread) + c) (slots_of by_key by_label)) ≡ only_row (rows_where (same_tuple target) 0 all)
      placed_here = ap (last_row None) rows_here ∙ last_is_only _ (few_rows same_tuple tuple_laws all once target)

module _ (texts : List Text) (rest spread : List (List Label)) (counted : length rest ≡ length spread) (alike : HaveLevels (levels_of rest) rest) (one : HaveLevels 1 spread) where
  abbrev rows : List (List Label)
  rows = keys texts rest

  abbrev columns : List (List Label)
  columns = keys texts spread

  abbrev meant : List Label → Option ℕ
  meant target = only_row (rows_where (same_tuple target) 0 (entries rest spread))

  abbrev cells : ℕ
  cells = length rows * length columns

  abbrev targets : List (Option ℕ)
  targets = rows_of_targets same_tuple (entries rest spread) (every_entry rows columns)

  targets_counted : length targets ≡ cells
  targets_counted = length-map (every_entry rows columns) meant ∙ every_counted rows columns

  target_at : (r c : ℕ) (d : Option ℕ) → r < length rows → c < length columns → slice_index_or targets (r * length columns + c) d ≡ meant (slice_index_or rows r [] ++ slice_index_or columns c [])
  target_at r c d lt inside =
      get_or-map meant (every_entry rows columns) (r * length columns + c) [] d (every_within rows columns r c lt inside)
      ∙ ap meant (every_at rows columns r c lt inside [])

  module _ (once : first_repeated same_tuple (entries rest spread) ≡ None) (by_key by_label : GroupsValue) (keyed : by_key.codes ≡ group_codes (seen_rules texts) true false rest) (coded : by_label.codes ≡ group_codes (seen_rules texts) true false spread)
      (width : by_label.count ≡ length columns) where
    pub places_are : rows_at_slots cells (slots_of by_key by_label) ≡ targets
    places_are =
        same_grids (length rows) (length columns) _ targets (length-map-range_with_len _ 0 cells) targets_counted
        (λ r c d lt inside.
        get_or-map-range_with_len (λ slot. last_row None (rows_of_group slot (slots_of by_key by_label))) 0 cells _ _ d (omega (arith, every_counted rows columns, every_within rows columns r c lt inside)) (omega arith)
        ∙ placed_here texts rest spread counted alike one once by_key by_label keyed coded width r c lt inside
        ∙ sym (target_at r c d lt inside))

  -- what is placed is an unstacking
  entries_counted : length (entries rest spread) ≡ length rest
  entries_counted = grind (arith, length-map, length-zip)

  meets : first_repeated same_tuple (entries rest spread) ≡ None → (r c i : ℕ) (k : List Label) → r < length rows → c < length columns → i < length rest
      → (place_at targets (length columns) r c ≡ Some i) ↔ (same_tuple (slice_index_or rows r k ++ slice_index_or columns c k) (slice_index_or rest i k ++ slice_index_or spread i k) ≡ true)
  meets once r c i k lt inside known =
      let target = slice_index_or rows r [] ++ slice_index_or columns c [] in
      let few = few_rows same_tuple tuple_laws (entries rest spread) once target in
      let tell = only_tells (same_tuple target) 0 (entries rest spread) few i [] (omega (arith, known, entries_counted)) in
      let here : place_at targets (length columns) r c ≡ meant target = target_at r c None lt inside in
      let from : 0 + i ≡ i = omega arith in
      let same : same_tuple target (slice_index_or (entries rest spread) i []) ≡ same_tuple (slice_index_or rows r k ++ slice_index_or columns c k) (slice_index_or rest i k ++ slice_index_or spread i k) =
      (λ j. same_tuple
      (get_or_default rows r [] k lt j ++ get_or_default columns c [] k inside j)
      ((entry_at texts rest spread counted alike one i known
      ∙ (λ j. get_or_default rest i [] k known j ++ get_or_default spread i [] k (omega (arith, known, counted)) j)) j)) in
      (λ e. sym same ∙ tell.0 (sym here ∙ e ∙ ap Some (sym from)), λ e. here ∙ tell.1 (same ∙ e) ∙ ap Some from)

  only_inside : (n : ℕ) (found : List ℕ) → All (λ row. row < n) found → IfSome (only_row found) (λ row. row < n)
  only_inside n [] inside = tt
  only_inside n (row ∷ []) inside = inside 0 row (omega arith)
  only_inside n (row ∷ (other ∷ found)) inside = tt

  pub is_unstacking : first_repeated same_tuple (entries rest spread) ≡ None → IsUnstacking same_tuple (tuple_less texts) rest spread record { rows = rows; columns = columns; places = targets }
  is_unstacking once = record {
    keys = keys_ordered texts rest;
    labels = keys_ordered texts spread;
    count = targets_counted;
    meets = meets once;
    rows_of = All-map (λ place. IfSome place (λ row. row < length rest)) meant (every_entry rows columns)
        (λ k d lt. only_inside (length rest) _ (rw (← entries_counted) (rows_inside (same_tuple (slice_index_or (every_entry rows columns) k d)) (entries rest spread))));
  }

  -- what is answered
  abbrev answered : Result (SpreadOf Label) (UnstackRefusal (List Label))
  answered = unstacked same_tuple (tuple_less texts) rest spread

  spread_is : spread_out same_tuple (tuple_less texts) rest spread ≡ record { rows = rows; columns = columns; places = targets }
  spread_is = λ i. record {
    rows = sym (keys_are texts true rest) i;
    columns = sym (keys_are texts true spread) i;
    places = rows_of_targets same_tuple (entries rest spread) (every_entry (sym (keys_are texts true rest) i) (sym (keys_are texts true spread) i));
  }

  module _ (codes : List (Option ℕ)) (coded : codes ≡ group_codes (seen_rules texts) true false rest) (found : Option ℕ) (is : found ≡ repeated_at (labelled spread codes)) where
    pub repeated_inside : (row : ℕ) → found ≡ Some row → IfSome found (λ row. row < length (labelled spread codes)) → row < length rest
    repeated_inside row e inside = grind (arith, length-zip, length-map)

    pub is_repeated : (row : ℕ) → found ≡ Some row → row < length rest → answered ≡ Err (duplicate_entry (slice_index_or rest row [] ++ slice_index_or spread row []))
    is_repeated row e lt = ap (λ o. unless_twice o (spread_within_limits (spread_out same_tuple (tuple_less texts) rest spread)))
        (first_is texts rest spread counted alike one codes found coded is ∙ ap (option_map (λ row. slice_index_or (entries rest spread) row [])) e ∙ ap Some (entry_at texts rest spread counted alike one row lt))

    module _ (none : found ≡ None) where
      once : first_repeated same_tuple (entries rest spread) ≡ None
      once = first_is texts rest spread counted alike one codes found coded is ∙ ap (option_map (λ row. slice_index_or (entries rest spread) row [])) none

      limited : answered ≡ spread_within_limits record { rows = rows; columns = columns; places = targets }
      limited = (λ i. unless_twice (once i) (spread_within_limits (spread_is i)))

      module _ (n m : ℕ) (many : n ≡ length rows) (wide : m ≡ length columns) where
        pub is_too_large : within_limits n m ≡ false → answered ≡ Err too_large
        is_too_large beyond =
            let is' : within_limits (length rows) (length columns) ≡ false = rw (← many, ← wide) beyond in
            limited ∙ (λ i. cond (is' i) (Ok record { rows = rows; columns = columns; places = targets }) (Err too_large))

        module _ (by_key by_label : GroupsValue) (keyed : by_key.codes ≡ group_codes (seen_rules texts) true false rest) (by_labels : by_label.codes ≡ group_codes (seen_rules texts) true false spread) (width : by_label.count ≡ length columns)
            (made : SpreadOf Label) (its_rows : made.rows ≡ rows) (its_columns : made.columns ≡ columns) (size : ℕ) (counts : size ≡ n * m) (its_places : made.places ≡ rows_at_slots size (slots_of by_key by_label)) where
          made_is : made ≡ record { rows = rows; columns = columns; places = targets }
          made_is =
              let all : made.places ≡ targets = its_places ∙ ap (λ k. rows_at_slots k (slots_of by_key by_label)) (counts ∙ (λ i. many i * wide i)) ∙ places_are once by_key by_label keyed by_labels width in
              λ i. record { rows = its_rows i; columns = its_columns i; places = all i }

          pub is_made : within_limits n m ≡ true → answered ≡ Ok made
          is_made within =
              let is' : within_limits (length rows) (length columns) ≡ true = rw (← many, ← wide) within in
              limited ∙ (λ i. cond (is' i) (Ok record { rows = rows; columns = columns; places = targets }) (Err too_large)) ∙ ap Ok (sym made_is)

          pub made_is_unstacking : IsUnstacking same_tuple (tuple_less texts) rest spread made
          made_is_unstacking = subst (IsUnstacking same_tuple (tuple_less texts) rest spread) (sym made_is) (is_unstacking once)
