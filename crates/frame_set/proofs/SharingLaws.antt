-- Frames that share columns of other ones.
use Rattle.{frame_parts.proofs.Common.{nat_tests, ◌≡◌, ◌∙◌, ℕ, zero, suc, ◌+◌, ◌<◌, List, [], ◌∷◌, ◌++◌, map, fold, length, slice_index_or, slice_set, refl, ap, sym, subst, arith, All, All-head, All-tail, All-map, Some, None, IsSome, length-set, map-set, range_with_len, length-range_with_len, get_or-range_with_len, Frame, Cell, Label, NumberedTable, ColumnOf, column_at, no_column, put_at, IsWhole, AreHeadings, AxisValue, axis_of, Result, Ok, Err, charged, HeadingList, Tables, with_object, Store, tables}, std.proofs.lemmas.List.{Elements.{All-set}}, std.specs.Prelude.{⊤, OnOk, OnErr}, frame_store.{specs.{Parts.{cut_table}, Objects.{CountsOnce, KeepBlocks, Raises, holding_of, changing}}, proofs.{ColumnLaws.{all_cut, all_rows}, OnceLaws.{held_no_more}}}, frame_select.{specs.Selected.{headings_at}, proofs.CutLaws.{list_is}}, frame_set.{specs.{Assigned.{with_places}, Places.{column_first, columns_taken, picks_of}}, proofs.{PutLaws.{put_each}}}}

-- all rows of columns of a frame
pub taken_is : (t : NumberedTable) (places : List ℕ) (axis : AxisValue) (headings : HeadingList) (count : ℕ) → IsWhole t → t.shape ≡ Frame → All (λ place. place < length t.columns) places → count ≡ length t.labels
    → axis ≡ axis_of t → headings ≡ record { columns_name = t.columns_name; labels = headings_at t places } → cut_table Frame axis headings t (all_rows count) places ≡ columns_taken t places
taken_is t places axis headings count whole frame below rows = grind (arith, all_cut t count whole rows places below)

all_labelled : (t : NumberedTable) (places : List ℕ) → All IsSome t.headings → All (λ p. p < length t.headings) places → All IsSome (headings_at t places)
all_labelled t places some below = All-map IsSome (λ p. slice_index_or t.headings p None) places (λ k d lt. some _ None (below k d lt))

pub taken_headed : (t : NumberedTable) (places : List ℕ) (headings : HeadingList) → IsWhole t → t.shape ≡ Frame → All (λ place. place < length t.columns) places → headings ≡ record { columns_name = t.columns_name; labels = headings_at t places }
    → AreHeadings Frame headings.columns_name headings.labels
taken_headed = grind (arith, all_labelled)

-- an item that stands before a list, and is taken in some places

module _ {X : Type 0} (x d : X) where
  abbrev behind : List X → ℕ → X
  behind xs k = slice_index_or (x ∷ xs) k d

  taken_at : (xs : List X) (picks places : List ℕ) → map (behind xs) (fold (λ ps place. slice_set ps place 0) picks places) ≡ fold (λ ys place. slice_set ys place x) (map (behind xs) picks) places
  taken_at xs picks [] = refl
  taken_at xs picks (p ∷ ps) = taken_at xs (slice_set picks p 0) ps ∙ ap (λ (ys : List X). fold (λ zs place. slice_set zs place x) ys ps) (map-set (behind xs) picks p 0)

  set_is_put : (xs : List X) (places : List ℕ) → All (λ place. place < length xs) places → fold (λ ys place. slice_set ys place x) xs places ≡ fold (λ ys place. put_at ys place x) xs places
  set_is_put xs [] below = refl
  set_is_put xs (p ∷ ps) below =
      let lt = All-head (λ place. place < length xs) p ps below in
      let same : put_at xs p x ≡ slice_set xs p x = grind (arith, nat_tests, lt) in
      let later : All (λ place. place < length (slice_set xs p x)) ps = subst (λ n. All (λ place. place < n) ps) (sym (length-set xs p x)) (All-tail (λ place. place < length xs) p ps below) in
      set_is_put (slice_set xs p x) ps later ∙ ap (λ (ys : List X). fold (λ zs place. put_at zs place x) ys ps) (sym same)

  all_behind : (xs : List X) → map (behind xs) (range_with_len 1 (length xs)) ≡ xs
  all_behind xs = list_is (behind xs) xs 1 d (λ k lt. let e : 1 + k ≡ suc k = omega arith in ap (behind xs) e)

  pub taken_in_places : (xs : List X) (count : ℕ) (places : List ℕ) → count ≡ length xs → All (λ place. place < length xs) places → map (behind xs) (picks_of count places) ≡ fold (λ ys place. put_at ys place x) xs places
  taken_in_places xs count places is below =
      ap (λ (n : ℕ). map (behind xs) (picks_of n places)) is
      ∙ taken_at xs (range_with_len 1 (length xs)) places
      ∙ ap (λ (ys : List X). fold (λ zs place. slice_set zs place x) ys places) (all_behind xs)
      ∙ set_is_put xs places below

pub in_places : (t : NumberedTable) (label : Label) (c : ColumnOf Cell) (count : ℕ) (places picks : List ℕ) → IsWhole t → count ≡ length t.columns → All (λ place. place < length t.columns) places → picks ≡ picks_of count places
    → columns_taken (column_first t label c) picks ≡ with_places t places label c
in_places t label c count places picks whole is below are =
    let headings : map (λ k. slice_index_or (Some label ∷ t.headings) k None) picks ≡ fold (λ hs place. put_at hs place (Some label)) t.headings places =
    ap (map (λ k. slice_index_or (Some label ∷ t.headings) k None)) are ∙ taken_in_places (Some label) None t.headings count places (is ∙ sym whole.headed) (subst (λ n. All (λ place. place < n) places) (sym whole.headed) below) in
    let columns : map (column_at (c ∷ t.columns)) picks ≡ fold (λ cs place. put_at cs place c) t.columns places =
    ap (map (column_at (c ∷ t.columns))) are ∙ taken_in_places c no_column t.columns count places is below in
    (λ j. record t { headings = headings j; columns = columns j }) ∙ sym (put_each t places label c)

-- they are places of the list and of the item
picks_below : (limit : ℕ) (picks places : List ℕ) → 0 < limit → All (λ pick. pick < limit) picks → All (λ pick. pick < limit) (fold (λ ps place. slice_set ps place 0) picks places)
picks_below limit picks [] some below = below
picks_below limit picks (p ∷ ps) some below = picks_below limit (slice_set picks p 0) ps some (All-set (λ pick. pick < limit) picks p 0 some below)

pub picks_inside : (t : NumberedTable) (label : Label) (c : ColumnOf Cell) (count : ℕ) (places picks : List ℕ) → count ≡ length t.columns → picks ≡ picks_of count places → All (λ pick. pick < length (column_first t label c).columns) picks
picks_inside t label c count places picks is are =
    rw (are, is) (picks_below (length (c ∷ t.columns)) (range_with_len 1 (length t.columns)) places (omega arith)
    (λ k d lt. let n : k < length t.columns = omega (arith, lt, length-range_with_len 1 (length t.columns)) in grind (arith, get_or-range_with_len)))

-- one place more
pub range_more : (a n : ℕ) → range_with_len a (n + 1) ≡ range_with_len a n ++ (a + n) ∷ []
range_more a zero = grind arith
range_more a (suc n) = grind (arith, range_more (a + 1) n)

-- A column that is put in several places, by way of a frame that ends.

module _ {E : Type 0} (r : Result ⊤ E) (old mid after new : Tables) (on wide : ℕ) (w u : NumberedTable) where
  pub wide_left : OnOk r (after ≡ with_object mid on (Some u)) → OnErr r (after ≡ mid) → IsSome (mid wide) → IsSome (after wide)
  wide_left = grind (arith, nat_tests)

  pub put_done : (v : NumberedTable) → OnOk r (after ≡ with_object mid on (Some u)) → mid ≡ with_object old wide (Some w) → old wide ≡ None → IsSome (old on) → new ≡ with_object after wide None → u ≡ v → OnOk r (new ≡ with_object old on (Some v))
  put_done = grind (arith, nat_tests)

  pub put_undone : OnErr r (after ≡ mid) → mid ≡ with_object old wide (Some w) → old wide ≡ None → new ≡ with_object after wide None → OnErr r (new ≡ old)
  put_undone = grind (arith, nat_tests)

module _ {E : Type 0} (old new : Store) (on : ℕ) where
  -- what is undone is held no more
  pub no_more : (r : Result ⊤ E) → CountsOnce (tables old) (holding_of old) → CountsOnce (tables new) (holding_of new) → OnErr r (tables new ≡ tables old) → KeepBlocks (changing on r) old new → OnErr r (Raises 0 old new)
  no_more (Ok done) was is same lie = tt
  no_more (Err e) was is same lie =
      let less = held_no_more (tables old) (tables new) (holding_of old) (holding_of new) was is (λ id there. subst (λ (live : Tables). IsSome (live id)) same there) lie in
      omega (arith, less)

pub put_held : {E : Type 0} (r : Result ⊤ E) (old mid after new : Store) (n : ℕ) → Raises n old mid → Raises 0 mid after → Raises 0 after new → OnErr r (Raises 0 old new) → Raises (charged n r) old new
put_held (Ok done) old mid after new n first second third less = omega (arith, first, second, third)
put_held (Err e) old mid after new n first second third less = omega (arith, less)
