-- The keys of a side, in order.
use Rattle.{column_core.proofs.cells.Common.{◌≡◌, ◌<◌, ◌+◌, ◌∙◌, ap, sym, refl, arith, ℕ, zero, suc, ℤ, pos, Bool, true, false, List, [], ◌∷◌, map, length, slice_index_or, Option, Some, None, zip, length-map, get_or-map, length-map-range_with_len, get_or-map-range_with_len, ext_get_or, cases_eq, false≢true, inl, inr, subst, unwrap_or, ◌-◌, ◌++◌, map-range_with_len_more, position_or_len_is, tabulate, datum, int_lt}, std.{proofs.lemmas.{Slice.Zip.{get_or-zip, length-zip}, Int.{ints}}, specs.{List.{position_or_len}, Prelude.{◌≤ℤ◌}}}, cell_core.specs.declared.cell.Cell.{Cell, TheVariants.{Na, Int, Bool as Truth, Text}}, meaning_asof.specs.AsOf.{key_of, breaks_order, first_unsorted}, asof_merge.specs.{Walk.{key_at, IsAscending}, Keys.{key_before, AreInOrder, AreSorted, keys_of}}}

module _ (keys : List (Option ℤ)) where
  abbrev breaks : Option ℤ × Option ℤ → Bool
  breaks pair = breaks_order pair.0 pair.1

  size : length (zip (None ∷ keys) keys) ≡ length keys
  size = grind (arith, length-zip)

  pair_at : (row : ℕ) → row < length keys → breaks (slice_index_or (zip (None ∷ keys) keys) row (None, None)) ≡ breaks_order (key_before keys row) (slice_index_or keys row None)
  pair_at row lt = ap breaks (get_or-zip (None ∷ keys) keys row (None, None) (omega arith) lt)

  pub first_broken : (row : ℕ) → row < length keys → AreInOrder keys row → breaks_order (key_before keys row) (slice_index_or keys row None) ≡ true → first_unsorted keys ≡ Some row
  first_broken row lt before here =
      let is : position_or_len breaks (zip (None ∷ keys) keys) ≡ row =
      position_or_len_is breaks _ row (None, None) (omega (arith, size)) (λ k earlier. pair_at k (omega arith) ∙ before k earlier) (λ below. pair_at row lt ∙ here) in
      grind (arith, size)

  pub none_broken : AreInOrder keys (length keys) → first_unsorted keys ≡ None
  none_broken all =
      let is : position_or_len breaks (zip (None ∷ keys) keys) ≡ length keys =
      position_or_len_is breaks _ (length keys) (None, None) (omega (arith, size)) (λ k earlier. pair_at k earlier ∙ all k earlier) (λ below. absurd (omega (arith, size))) in
      grind (arith, size)

-- keys in order ascend
module _ (made : List ℤ) (in_order : AreInOrder (map Some made) (length made)) where
  next_key : (row : ℕ) → suc row < length made → key_at made row ≤ℤ key_at made (suc row)
  next_key row lt =
      let before : slice_index_or (map Some made) row None ≡ Some (key_at made row) = get_or-map Some made row (pos 0) None (omega arith) in
      let own : slice_index_or (map Some made) (suc row) None ≡ Some (key_at made (suc row)) = get_or-map Some made (suc row) (pos 0) None lt in
      let here : breaks_order (Some (key_at made row)) (Some (key_at made (suc row))) ≡ false
      = (λ i. breaks_order (sym before i) (sym own i)) ∙ in_order (suc row) lt in
      not_less (key_at made row) (key_at made (suc row)) here
    where
      not_less : (a b : ℤ) → int_lt b a ≡ false → a ≤ℤ b
      not_less = grind (arith, ints)

  climb : (row count later : ℕ) → later ≡ row + count → later < length made → key_at made row ≤ℤ key_at made later
  climb row zero later is lt =
      let same : row ≡ later = omega arith in
      subst (λ k. key_at made row ≤ℤ key_at made k) same (itself (key_at made row))
    where
      itself : (a : ℤ) → a ≤ℤ a
      itself = grind (arith, ints)
  climb row (suc count) later is lt =
      let before = later - 1 in
      let next : suc before ≡ later = omega arith in
      let up = subst (λ k. key_at made before ≤ℤ key_at made k) next (next_key before (omega arith)) in
      both (key_at made row) (key_at made before) (key_at made later) (climb row count before (omega arith) (omega arith)) up
    where
      both : (a b c : ℤ) → a ≤ℤ b → b ≤ℤ c → a ≤ℤ c
      both = grind (arith, ints)

  pub ascends : IsAscending made
  ascends row later le lt = climb row (later - row) later (omega arith) lt

-- keys that are made row by row
module _ (count : ℕ) (row_of : ℕ → Option ℤ) where
  abbrev all : List (Option ℤ)
  all = tabulate count row_of

  pub key_here : (row : ℕ) → row < count → slice_index_or all row None ≡ row_of row
  key_here row lt = get_or-map-range_with_len row_of 0 count row row None lt (omega arith)

  pub next_before : (row : ℕ) (key : Option ℤ) → row < count → key ≡ row_of row → key ≡ key_before all (row + 1)
  next_before row key lt is =
      let more : suc row ≡ row + 1 = omega arith in
      is ∙ sym (key_here row lt) ∙ ap (key_before all) more

  pub in_order_more : (row : ℕ) (before key : Option ℤ) → row < count → before ≡ key_before all row → key ≡ row_of row → (breaks : Bool) → breaks ≡ breaks_order before key → breaks ≡ false → AreInOrder all row → AreInOrder all (row + 1)
  in_order_more row before key lt before_is is breaks says here so_far k below = elim (cases_eq k row) [
    | inl e ↦ subst (λ k. breaks_order (key_before all k) (slice_index_or all k None) ≡ false) (sym e)
        ((λ i. breaks_order (sym before_is i) ((key_here row lt ∙ sym is) i)) ∙ sym says ∙ here)
    | inr apart ↦ so_far k (omega arith)
  ]

  pub broken_here : (row : ℕ) (before key : Option ℤ) → row < count → before ≡ key_before all row → key ≡ row_of row → (breaks : Bool) → breaks ≡ breaks_order before key → breaks ≡ true → AreInOrder all row → first_unsorted all ≡ Some row
  broken_here row before key lt before_is is breaks says here so_far =
      first_broken all row (omega (arith, length-map-range_with_len row_of 0 count)) so_far ((λ i. breaks_order (sym before_is i) ((key_here row lt ∙ sym is) i)) ∙ sym says ∙ here)

  pub all_sorted : AreInOrder all count → first_unsorted all ≡ None
  all_sorted so = none_broken all (rw length-map-range_with_len so)

  -- none of them is missing
  pub all_present : AreInOrder all count → (made : List ℤ) → made ≡ tabulate count (λ row. unwrap_or (row_of row) (pos 0)) → all ≡ map Some made
  all_present so made is =
      ext_get_or None _ _ (grind (arith, length-map, length-map-range_with_len))
      (λ row lt.
      let below : row < count = omega (arith, length-map-range_with_len row_of 0 count) in
      key_here row below ∙ there (key_before all row) (row_of row) (ap (breaks_order (key_before all row)) (sym (key_here row below)) ∙ so row below)
      ∙ sym (get_or-map Some made row (pos 0) None (grind (arith, length-map-range_with_len)) ∙ ap Some (ap (λ keys. key_at keys row) is ∙ get_or-map-range_with_len (λ k. unwrap_or (row_of k) (pos 0)) 0 count row row (pos 0) below (omega arith))))
    where
      there : (before key : Option ℤ) → breaks_order before key ≡ false → key ≡ Some (unwrap_or key (pos 0))
      there before None e = absurd (false≢true (sym e))
      there before (Some key) e = refl

  pub are_sorted : AreInOrder all count → (made : List ℤ) → all ≡ map Some made → AreSorted all made
  are_sorted so made is =
      let counted : length made ≡ count = sym (length-map made Some) ∙ ap length (sym is) ∙ length-map-range_with_len row_of 0 count in
      record {
        present = is;
        sorted = all_sorted so;
        ascending = ascends made (subst (λ keys. AreInOrder keys (length made)) is (rw counted so));
      }

  pub sorted_counted : (made : List ℤ) → AreSorted all made → length made ≡ count
  sorted_counted made sorted = sym (length-map made Some) ∙ ap length (sym sorted.present) ∙ length-map-range_with_len row_of 0 count

-- keys that are made and read
module _ (keys : List (Option ℤ)) (made read : List ℤ) (sorted : AreSorted keys made) (same : read ≡ made) where
  pub made_ascending : IsAscending read
  made_ascending = subst IsAscending (sym same) sorted.ascending

  pub read_sorted : AreSorted keys read
  read_sorted = subst (AreSorted keys) (sym same) sorted

pub made_counted : (count : ℕ) (row_of : ℕ → Option ℤ) (made read : List ℤ) → AreSorted (tabulate count row_of) made → read ≡ made → length read ≡ count
made_counted count row_of made read sorted same = ap length same ∙ sorted_counted count row_of made sorted

-- the keys of cells, read row by row
abbrev pub read_keys : List Cell → List (Option ℤ)
read_keys cells = tabulate (length cells) (λ row. key_of (datum [] (slice_index_or cells row Na)))

pub cells_read : (texts : List (List ℕ)) (read cells : List Cell) → read ≡ cells → read_keys read ≡ keys_of texts cells
cells_read texts read cells same = ap read_keys same ∙ all_read
  where
    no_text : (cell : Cell) → key_of (datum [] cell) ≡ key_of (datum texts cell)
    no_text Na = refl
    no_text (Int z) = refl
    no_text (Truth b) = refl
    no_text (Text id) = refl

    all_read : read_keys cells ≡ keys_of texts cells
    all_read =
        ext_get_or None _ _ (grind (arith, length-map, length-map-range_with_len))
        (λ row lt.
        let below : row < length cells = omega (arith, length-map-range_with_len (λ row. key_of (datum [] (slice_index_or cells row Na))) 0 (length cells)) in
        get_or-map-range_with_len (λ row. key_of (datum [] (slice_index_or cells row Na))) 0 (length cells) row row None below (omega arith)
        ∙ no_text (slice_index_or cells row Na)
        ∙ sym (get_or-map (λ cell. key_of (datum texts cell)) cells row Na None below))

-- one key more is made
pub key_more : (row_of : ℕ → Option ℤ) (row : ℕ) (keys new : List ℤ) (key : ℤ) → keys ≡ tabulate row (λ k. unwrap_or (row_of k) (pos 0)) → new ≡ keys ++ key ∷ [] → key ≡ unwrap_or (row_of row) (pos 0)
    → new ≡ tabulate (row + 1) (λ k. unwrap_or (row_of k) (pos 0))
key_more row_of row keys new key so_far pushed is =
    let made = λ (k : ℕ). unwrap_or (row_of k) (pos 0) in
    pushed ∙ (λ i. so_far i ++ is i ∷ []) ∙ sym (map-range_with_len_more made 0 row row (omega arith))
