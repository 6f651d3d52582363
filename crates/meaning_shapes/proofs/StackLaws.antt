-- What is unstacked and stacked again, without the gaps, is the Series in the order of its labels.
use Rattle.{meaning_join.{proofs.{cells.Common.{◌≡◌, ◌∙◌, ◌+◌, ◌*◌, ◌<◌, ◌&&◌, ℕ, suc, Bool, true, false, not, List, [], ◌∷◌, ◌++◌, refl, sym, ap, subst, arith, length, map, filter, Option, Some, None, slice_index_or, length-map, length-map-range_with_len, get_or-map, get_or_default, get_or-map-range_with_len, AllPairs, AllPairs-cons, AllPairs-filter, All, All-head, All-tail, All-append, All-map, list_any, list_any_at, filter_passes, recursion_from_All, zip, distinct, Decides, tied_itself, ◌≢◌, false≢true, zero-add, IsStrictWeakOrder, IsTotalOrder, ranks_by, is_lt, ordering_then, Ordering, CellValue, ColumnValue, na_cell, gap_cell, taken}, align.{OrderLaws.{all_in_order, all_distinct, all_flat, in_order_map}, sorting.SortLaws.{Ascends, in_order_ascends, in_order_permutes}}}, specs.{pick.Rows.{rows_where, only_row}, align.{Targets.{first_repeated}, Joins.{keys_in_order}, sorting.Sorting.{in_order}}}}, std.{specs.{Prelude.{option_map, filter_map}, List.{IsDistinct, Sorted.{IsStrictlySortedBy}}, Ordering.{eq_by_cmp}, Cmp.{eq_by_cmp_equiv}, declared.cmp.Ordering.TheVariants.{Less}}, proofs.{Math.Nat.{mul-le-mul_right}, lemmas.{List.{Elements.{All-from_recursion}, Kept.{IsStrictlySortedBy-filter}, Sorted.{list_any-IsPermutation}}, Map.{Keys.{IsDistinct-IsPermutation}, Lookups.{CmpEqualImpliesEq, btree_set_from_contains}, Made.{IsDistinct-from_AllPairs}, Views.{any-filter_same, tells_apart}}, Slice.Zip.{get_or-zip, length-zip, firsts-zip}}}}, meaning_shapes.{specs.{Reshape.{SpreadOf, entries, every_entry, spread_out, cells_by_row}, Unstacking.{place_at}, Stacking.{column_spread, columns_spread, stacked_again, without_gaps, StacksBack}}, proofs.{GridLaws.{same_grids, every_counted, every_within, every_at, by_row_counted, by_row_at}, EntryLaws.{passing, no_rows, few_rows, only_tells}}}}

module _ {X Y : Type 0} (h : X → Option Y) where
  -- elements of which nothing is made
  filter_map-filter : (p : X → Bool) → ((x : X) → p x ≡ false → h x ≡ None) → (xs : List X) → filter_map h (filter p xs) ≡ filter_map h xs
  filter_map-filter p none [] = refl
  filter_map-filter p none (x ∷ xs) = grind (arith, none x, filter_map-filter p none xs)

  -- of each the one that it comes from
  filter_map-back : (f : Y → X) (ys : List Y) → All (λ y. h (f y) ≡ Some y) ys → filter_map h (map f ys) ≡ ys
  filter_map-back f [] all = refl
  filter_map-back f (y ∷ ys) all = grind (arith, All-head (λ y. h (f y) ≡ Some y) y ys all, filter_map-back f ys (All-tail (λ y. h (f y) ≡ Some y) y ys all))

-- the elements whose places are no gaps
gaps_out : {X Y : Type 0} (m : X → Option ℕ) (g : Option ℕ → Y) (xs : List X) → without_gaps (map m xs) (zip xs (map g (map m xs))) ≡ filter_map (λ x. option_map (λ row. (x, g (Some row))) (m x)) xs
gaps_out m g [] = refl
gaps_out m g (x ∷ xs) = grind (arith, gaps_out m g xs)

-- the cells of what is stacked again are those of the places
cells_again : {A : Type 0} (made : SpreadOf A) (column : ColumnValue) → length made.places ≡ length made.rows * length made.columns → cells_by_row (columns_spread made column) ≡ taken na_cell column.cells made.places
cells_again made column size =
    let height = length made.rows in
    let width = length made.columns in
    let high : (c : ℕ) → length (column_spread made column c).cells ≡ height = λ c. length-map-range_with_len (λ key. gap_cell na_cell column.cells (place_at made.places width key c)) 0 height in
    same_grids height width (cells_by_row (columns_spread made column)) (taken na_cell column.cells made.places) (by_row_counted (column_spread made column) height width high) (length-map made.places (gap_cell na_cell column.cells) ∙ size)
    (λ r c d lt inside.
    by_row_at (column_spread made column) height width high r c d lt inside
    ∙ get_or-map-range_with_len (λ key. gap_cell na_cell column.cells (place_at made.places width key c)) 0 height r r na_cell lt (omega arith)
    ∙ sym (get_or-map (gap_cell na_cell column.cells) made.places (r * width + c) None d (omega (arith, size, mul-le-mul_right {m = suc r} {n = height} width lt, inside))))

-- keys in order
abbrev is_less : {K : Type 0} → (K → K → Ordering) → K → K → Bool
is_less R a b = is_lt (R a b)

module _ {K : Type 0} (R : K → K → Ordering) (o : IsTotalOrder R) (exact : CmpEqualImpliesEq R) where
  abbrev same : K → K → Bool
  same = eq_by_cmp R

  weak : IsStrictWeakOrder (is_less R)
  weak = ranks_by o (λ k. k)

  itself : (k : K) → same k k ≡ true
  itself = (eq_by_cmp_equiv o).refl

  decides : (a b : K) → Decides (same a b) (a ≡ b)
  decides a b = (tells_apart exact a b, λ e. subst (λ k. same a k ≡ true) e (itself a))

  abbrev AreApart : List K → Type 0
  AreApart = AllPairs (λ a b. a ≢ b)

  below : (a b : K) → is_less R b a ≡ false → same a b ≡ false → R a b ≡ Less
  below a b = grind (arith, o.antisymm a b)

  strictly : (ks : List K) → Ascends (is_less R) weak ks → IsDistinct same ks → IsStrictlySortedBy R ks
  unfolding IsDistinct IsStrictlySortedBy
  strictly [] up apart = tt
  strictly (k ∷ ks) up apart = (
    recursion_from_All (λ q. R k q ≡ Less) ks (λ j d lt. below k _ (up.0 j d lt) (All-from_recursion (λ q. same k q ≡ false) ks apart.0 j d lt)),
    strictly ks up.1 apart.1,
  )

  in_order_strictly : (ks : List K) → AreApart ks → IsStrictlySortedBy R (in_order (is_less R) ks)
  in_order_strictly ks apart =
      strictly _ (in_order_ascends (is_less R) weak ks)
      (IsDistinct-IsPermutation same (eq_by_cmp_equiv o).symm ks _ (in_order_permutes (is_less R) ks) (IsDistinct-from_AllPairs decides ks apart))

  distinct_apart : (ks : List K) → AreApart (distinct same ks)
  distinct_apart [] = grind arith
  distinct_apart (k ∷ ks) =
      AllPairs-cons (λ a b. a ≢ b) k _
      (λ j d lt e. false≢true (ap not (sym ((decides _ k).1 (sym e))) ∙ filter_passes (λ q. not (same q k)) (distinct same ks) j d lt))
      (AllPairs-filter (λ a b. a ≢ b) (λ q. not (same q k)) _ (distinct_apart ks))

  distinct_has : (q : K) (ks : List K) → list_any (same q) (distinct same ks) ≡ list_any (same q) ks
  distinct_has q [] = refl
  distinct_has q (k ∷ ks) = grind (arith, any-filter_same (same q) (λ x. not (same x k)) true, (eq_by_cmp_equiv o).congr q, distinct_has q ks)

  abbrev keys : List K → List K
  keys rows = keys_in_order same (is_less R) rows

  keys_strictly : (rows : List K) → IsStrictlySortedBy R (keys rows)
  keys_strictly rows = in_order_strictly _ (distinct_apart rows)

  -- a key that a row has stands among them
  key_at : (rows : List K) (i : ℕ) (d : K) → i < length rows → (j : ℕ) × ((j < length (keys rows)) × ((e : K) → slice_index_or rows i d ≡ slice_index_or (keys rows) j e))
  key_at rows i d lt =
      let k = slice_index_or rows i d in
      let known : list_any (same k) (keys rows) ≡ true = sym (list_any-IsPermutation (same k) _ _ (in_order_permutes (is_less R) (distinct same rows))) ∙ distinct_has k rows ∙ list_any_at (same k) rows i d lt (itself k) in
      let found = passing (same k) (keys rows) known in
      (found.0, (found.1.0, λ e. tells_apart exact k _ (found.1.1 e)))

  -- two lists in order of the same keys
  one_list : (xs ys : List K) → IsStrictlySortedBy R xs → IsStrictlySortedBy R ys → ((q : K) → list_any (same q) xs ≡ list_any (same q) ys) → xs ≡ ys
  one_list xs ys up vp alike = btree_set_from_contains o record { keys = xs } record { keys = ys } up vp alike exact

module _ {A : Type 0} (R : List A → List A → Ordering) (o : IsTotalOrder R) (exact : CmpEqualImpliesEq R) (split : (a b c d : List A) → length a ≡ length b → R (a ++ c) (b ++ d) ≡ ordering_then (R a b) (R c d)) where
  abbrev Rises : List (List A) → Type 0
  Rises = IsStrictlySortedBy R

  -- lists of keys one behind the other
  rises-append : (xs ys : List (List A)) → Rises xs → Rises ys → All (λ x. All (λ y. R x y ≡ Less) ys) xs → Rises (xs ++ ys)
  unfolding IsStrictlySortedBy
  rises-append [] ys up vp cross = vp
  rises-append (x ∷ xs) ys up vp cross = (
    recursion_from_All (λ y. R x y ≡ Less) (xs ++ ys) (All-append (λ y. R x y ≡ Less) xs ys (All-from_recursion (λ y. R x y ≡ Less) xs up.0) (All-head (λ x. All (λ y. R x y ≡ Less) ys) x xs cross)),
    rises-append xs ys up.1 vp (All-tail (λ x. All (λ y. R x y ≡ Less) ys) x xs cross),
  )

  rises-map : (k : List A) (xs : List (List A)) → Rises xs → Rises (map (λ x. k ++ x) xs)
  unfolding IsStrictlySortedBy
  rises-map k [] up = tt
  rises-map k (x ∷ xs) up = (
    recursion_from_All (λ y. R (k ++ x) y ≡ Less) (map (λ x. k ++ x) xs) (All-map (λ y. R (k ++ x) y ≡ Less) (λ x. k ++ x) xs (λ j d lt. split k k x _ refl ∙ (λ i. ordering_then (tied_itself o k i) (All-from_recursion (λ y. R x y ≡ Less) xs up.0 j d lt i)))),
    rises-map k xs up.1,
  )

  -- every key with every label
  module _ (labels : List (List A)) (up : Rises labels) (levels : ℕ) where
    -- a list of labels stands behind those of a key
    abbrev IsBehind : List A → List A → Type 0
    IsBehind k y = All (λ x. R x y ≡ Less) (map (λ x. k ++ x) labels)

    behind : (k q : List A) → (length k ≡ levels) → (R k q ≡ Less) × (length q ≡ levels) → All (IsBehind k) (map (λ x. q ++ x) labels)
    behind k q long is =
        All-map (IsBehind k) (λ x. q ++ x) labels
        (λ j d lt. All-map (λ x. R x (q ++ slice_index_or labels j d) ≡ Less) (λ x. k ++ x) labels
        (λ i e lt'. split k q (slice_index_or labels i e) (slice_index_or labels j d) (long ∙ sym is.1) ∙ ap (λ r. ordering_then r (R (slice_index_or labels i e) (slice_index_or labels j d))) is.0))

    every_rises : (keys : List (List A)) → All (λ key. length key ≡ levels) keys → Rises keys → Rises (every_entry keys labels)
    unfolding IsStrictlySortedBy
    every_rises [] long above = tt
    every_rises (k ∷ ks) long above =
        let rest = All-tail (λ key. length key ≡ levels) k ks long in
        let later : All (IsBehind k) (every_entry ks labels) =
        all_flat (IsBehind k) (λ q. (R k q ≡ Less) × (length q ≡ levels)) (λ q. map (λ x. q ++ x) labels) (λ q is. behind k q (All-head (λ key. length key ≡ levels) k ks long) is) ks
        (λ j d lt. (All-from_recursion (λ q. R k q ≡ Less) ks above.0 j d lt, rest j d lt)) in
        rises-append (map (λ x. k ++ x) labels) (every_entry ks labels) (rises-map k labels up) (every_rises ks rest above.1) (λ i e lt j d lt'. later j d lt' i e lt)

  -- rows of which no two have the same labels
  module _ (levels : ℕ) (rest spread : List (List A)) (column : ColumnValue) (long : All (λ key. length key ≡ levels) rest) (counted : length spread ≡ length rest) (filled : length column.cells ≡ length rest)
      (once : first_repeated (eq_by_cmp R) (entries rest spread) ≡ None) where
    abbrev labels : List (List A)
    labels = entries rest spread

    abbrev rows : List (List A)
    rows = keys R o exact rest

    abbrev columns : List (List A)
    columns = keys R o exact spread

    abbrev every : List (List A)
    every = every_entry rows columns

    abbrev known : List A → Bool
    known key = list_any (eq_by_cmp R key) labels

    abbrev row_with : List A → Option ℕ
    row_with key = only_row (rows_where (eq_by_cmp R key) 0 labels)

    labels_counted : length labels ≡ length rest
    labels_counted = grind (arith, length-map, length-zip)

    label_is : (i : ℕ) (d : List A) → i < length rest → slice_index_or labels i d ≡ slice_index_or rest i [] ++ slice_index_or spread i []
    label_is i d lt =
        let inside : i < length spread = omega (arith, counted, lt) in
        let there : i < length (zip rest spread) = grind (arith, length-zip) in
        get_or-map (λ (z : List A × List A). z.0 ++ z.1) (zip rest spread) i ([], []) d there ∙ ap (λ z. z.0 ++ z.1) (get_or-zip rest spread i ([], []) lt inside)

    row_of : (i : ℕ) (d : List A) → i < length labels → row_with (slice_index_or labels i d) ≡ Some i
    row_of i d lt = (only_tells (eq_by_cmp R (slice_index_or labels i d)) 0 labels (few_rows (eq_by_cmp R) (eq_by_cmp_equiv o) labels once (slice_index_or labels i d)) i d lt).1 (itself R o exact (slice_index_or labels i d)) ∙ ap Some (zero-add i)

    labels_apart : AllPairs (λ a b. a ≢ b) labels
    labels_apart i j d lt inside e =
        let both : Some i ≡ Some j = sym (row_of i d (omega (arith, lt, inside))) ∙ ap row_with e ∙ row_of j d inside in
        let one : i ≡ j = cc in
        absurd (omega (arith, one, lt))

    -- each of their labels stands among all keys with all labels
    stands : (q : List A) → known q ≡ true → list_any (eq_by_cmp R q) every ≡ true
    stands q some =
        let found = passing (eq_by_cmp R q) labels some in
        let i = found.0 in
        let lt : i < length rest = omega (arith, found.1.0, labels_counted) in
        let r = key_at R o exact rest i [] lt in
        let c = key_at R o exact spread i [] (omega (arith, lt, counted)) in
        let is : q ≡ slice_index_or every (r.0 * length columns + c.0) q =
        tells_apart exact q _ (found.1.1 q) ∙ label_is i q lt ∙ (λ n. r.1.1 [] n ++ c.1.1 [] n) ∙ sym (every_at rows columns r.0 c.0 r.1.0 c.1.0 q) in
        list_any_at (eq_by_cmp R q) every (r.0 * length columns + c.0) q (every_within rows columns r.0 c.0 r.1.0 c.1.0) ((decides R o exact q _).1 is)

    found_alike : (q : List A) → list_any (eq_by_cmp R q) (filter known every) ≡ known q
    found_alike q =
        any-filter_same (eq_by_cmp R q) known (known q) (λ k e. ap known (sym (tells_apart exact q k e))) every
        ∙ elim (known q) as (λ b. (b ≡ true → list_any (eq_by_cmp R q) every ≡ true) → (b && list_any (eq_by_cmp R q) every) ≡ b) [ true ↦ λ e. e refl | false ↦ λ e. refl ] (stands q)

    in_order_known : filter known every ≡ in_order (is_less R) labels
    in_order_known =
        one_list R o exact (filter known every) (in_order (is_less R) labels)
        (IsStrictlySortedBy-filter R known every (every_rises columns (keys_strictly R o exact spread) levels rows (all_in_order (λ key. length key ≡ levels) _ _ (all_distinct (λ key. length key ≡ levels) _ rest long)) (keys_strictly R o exact rest)))
        (in_order_strictly R o exact labels labels_apart)
        (λ q. found_alike q ∙ list_any-IsPermutation (eq_by_cmp R q) _ _ (in_order_permutes (is_less R) labels))

    -- the Series, and what stands at each key
    abbrev series : List (List A × CellValue)
    series = zip labels column.cells

    abbrev standing : List A → Option (List A × CellValue)
    standing key = option_map (λ row. (key, slice_index_or column.cells row na_cell)) (row_with key)

    unknown : (key : List A) → known key ≡ false → standing key ≡ None
    unknown key none = ap (λ found. option_map (λ row. (key, slice_index_or column.cells row na_cell)) (only_row found)) (no_rows (eq_by_cmp R key) 0 labels none)

    inside : (i : ℕ) → i < length series → (i < length labels) × (i < length column.cells)
    inside i lt = (grind (arith, length-zip), grind (arith, length-zip))

    stands_at : All (λ z. standing z.0 ≡ Some z) series
    stands_at i d lt =
        let there = inside i lt in
        let key = slice_index_or labels i d.0 in
        subst (λ z. standing z.0 ≡ Some z) (sym (get_or-zip labels column.cells i d there.0 there.1))
        (ap (option_map (λ row. (key, slice_index_or column.cells row na_cell))) (row_of i d.0 there.0)
        ∙ ap (λ cell. Some (key, cell)) (get_or_default column.cells i na_cell d.1 there.1))

    stacked_is : without_gaps (map row_with every) (stacked_again (spread_out (eq_by_cmp R) (is_less R) rest spread) column) ≡ in_order (λ a b. is_less R a.0 b.0) series
    stacked_is =
        let made = spread_out (eq_by_cmp R) (is_less R) rest spread in
        ap (λ cells. without_gaps (map row_with every) (zip every cells)) (cells_again made column (length-map every row_with ∙ every_counted rows columns))
        ∙ gaps_out row_with (gap_cell na_cell column.cells) every
        ∙ sym (filter_map-filter standing known unknown every)
        ∙ ap (filter_map standing) (in_order_known ∙ ap (in_order (is_less R)) (sym (firsts-zip labels column.cells (filled ∙ sym labels_counted))) ∙ in_order_map (λ z. Unit {0}) (λ z. z.0) (λ a b. is_less R a.0 b.0) (is_less R) (λ a b _ _. refl) series (λ k d lt. tt))
        ∙ filter_map-back standing (λ z. z.0) (in_order (λ a b. is_less R a.0 b.0) series) (all_in_order (λ z. standing z.0 ≡ Some z) _ series stands_at)

  pub stacks_back : StacksBack (eq_by_cmp R) (is_less R)
  stacks_back levels rest spread column long counted filled once = stacked_is levels rest spread column long counted filled once
