-- Lists of tuples: their rows, found for each or looked up, and how many they are.
use Rattle.{column_core.proofs.cells.Common.{◌≡◌, refl, ap, arith, ◌∙◌, ℕ, suc, ◌+◌, ◌*◌, ◌≤◌, ◌<◌, Bool, true, false, List, [], ◌∷◌, ◌++◌, length, drop, map, slice_index_or, slice_get, Option, Some, None, Result, Ok, Err, All, IfSome, IfOk, is_some, drop_more, drop-length, append-nil, length-append, nat_tests, Label}, std.proofs.lemmas.List.{append_assoc}, index_core.{specs.{Labels.{same_number}, pick.{Faults.{PickFault, not_there, then_pick}, Leading.{leads}, Labels.{unless_none, rows_of_key}, Rows.{rows_where, are_some, only_row}}}, proofs.pick.{InsideLaws.{went_on, ok_same, keys_inside}, RowLaws.{some_there}}}, multi_index.specs.Axes.{HaveLevels, single_tuples}, row_keys.specs.Partners.{rows_with}, indexers.{specs.{Lists.{rows_of_list, list_within, rows_found, are_within, has_room, room_after, unless_more}, Picks.{PicksBy, as_it_is}, declared.keys.KeyFault.{KeyFault}}, proofs.{AnswerLaws.{rows_whole, label_found}, TurnLaws.{added}}}}

-- what is found for each tuple is what is looked up
module _ (n : ℕ) (tuples : List (List Label)) (alike : HaveLevels n tuples) where
  pub found_is : (keys : List (List Label)) → HaveLevels n keys → rows_found (map (rows_with tuples) keys) keys ≡ rows_of_list tuples keys
  found_is [] _ = refl
  found_is (key ∷ keys) full =
      grind (arith, rows_whole n tuples key alike (full 0 key (omega arith)), found_is keys (λ k d lt. full (suc k) d (omega arith)))

-- rows that were found, from a key on
module _ {K : Type 0} (found : List (List ℕ)) (keys : List K) where
  abbrev pub found_from : List ℕ → ℕ → Result (List ℕ) (PickFault K)
  found_from rows k = added rows (rows_found (drop k found) (drop k keys))

  abbrev pub counted_from : Option ℕ → ℕ → Result Bool (PickFault K)
  counted_from room k = then_pick (rows_found (drop k found) (drop k keys)) (λ rows. Ok (has_room room (length rows)))

  none_left : (found' : List (List ℕ)) → rows_found {K = K} found' [] ≡ Ok []
  none_left [] = refl
  none_left (rows ∷ found') = refl

  module _ (k : ℕ) (whole_is : k ≡ length keys) where
    pub all_found : (rows : List ℕ) (whole : Result (List ℕ) (PickFault K)) → found_from rows k ≡ whole → whole ≡ Ok rows
    all_found = grind (arith, none_left (drop k found), drop-length, append-nil)

    pub all_counted : (room : Option ℕ) (whole : Result Bool (PickFault K)) → counted_from room k ≡ whole → whole ≡ Ok (is_some room)
    all_counted = grind (arith, none_left (drop k found), drop-length, nat_tests)

  module _ (here : List ℕ) (k : ℕ) (key d : K) (lt : k < length keys) (same : length found ≡ length keys) (is : here ≡ slice_index_or found k []) (at : slice_index_or keys k d ≡ key) where
    from_here : rows_found (drop k found) (drop k keys) ≡ then_pick (unless_none key here) (λ first. then_pick (rows_found (drop (k + 1) found) (drop (k + 1) keys)) (λ more. Ok (first ++ more)))
    from_here = cc (drop_more found k [] (omega (arith, lt, same)), drop_more keys k d lt)

    pub found_more : (rows rows' : List ℕ) (whole : Result (List ℕ) (PickFault K)) → are_some here ≡ true → rows' ≡ rows ++ here → found_from rows k ≡ whole → found_from rows' (k + 1) ≡ whole
    found_more = grind (arith, from_here, some_there, append_assoc)

    pub found_refused : (rows : List ℕ) (whole : Result (List ℕ) (PickFault K)) → are_some here ≡ false → found_from rows k ≡ whole → whole ≡ Err (not_there key)
    found_refused = grind (arith, from_here)

    pub counted_more : (room room' : Option ℕ) (whole : Result Bool (PickFault K)) → are_some here ≡ true → room' ≡ room_after room (length here) → counted_from room k ≡ whole → counted_from room' (k + 1) ≡ whole
    counted_more = grind (arith, from_here, some_there, length-append, nat_tests)

    pub counted_refused : (room : Option ℕ) (whole : Result Bool (PickFault K)) → are_some here ≡ false → counted_from room k ≡ whole → whole ≡ Err (not_there key)
    counted_refused = grind (arith, from_here)

-- what is within so many, and what isn't
more_than : (most : ℕ) (rows : List ℕ) → unless_more most rows ≡ None → most < length rows
more_than = grind (arith, nat_tests)

module _ {K : Type 0} (most : ℕ) where
  abbrev pub within : Result (List ℕ) (PickFault K) → Result (Option (List ℕ)) (PickFault K)
  within rows = then_pick rows (λ rows. Ok (unless_more most rows))

  pub some_within : (found : Result (List ℕ) (PickFault K)) (rows : List ℕ) → within found ≡ Ok (Some rows) → found ≡ Ok rows
  some_within = grind (arith, nat_tests)

  pub none_within : (found : Result (List ℕ) (PickFault K)) → within found ≡ Ok None → (rows : List ℕ) × (most < length rows) × (found ≡ Ok rows)
  none_within (Ok rows) is = (rows, more_than most rows cc, refl)
  none_within (Err fault) is = absurd cc

  pub refused_within : (found : Result (List ℕ) (PickFault K)) (fault : PickFault K) → within found ≡ Err fault → found ≡ Err fault
  refused_within = grind arith

  -- rows that were counted first
  module _ (found : List (List ℕ)) (keys : List K) (whole : Result (List ℕ) (PickFault K)) (is : rows_found found keys ≡ whole) where
    pub counted_none : are_within most found keys ≡ Ok false → within whole ≡ Ok None
    counted_none = grind arith

    pub counted_some : (rows : List ℕ) → are_within most found keys ≡ Ok true → rows_found found keys ≡ Ok rows → within whole ≡ Ok (Some rows)
    counted_some = grind arith

    pub uncounted : (fault : PickFault K) → are_within most found keys ≡ Err fault → within whole ≡ Err fault
    uncounted = grind arith

-- the rows of a list are no more than all rows for each tuple
length-rows_where : {X : Type 0} (p : X → Bool) (row : ℕ) (xs : List X) → length (rows_where p row xs) ≤ length xs
length-rows_where _ _ [] = omega arith
length-rows_where p row (x ∷ xs) = grind (arith, length-rows_where p (row + 1) xs)

module _ (tuples : List (List Label)) where
  length-rows_of_key : (key : List Label) (rows : List ℕ) → rows_of_key (leads same_number) tuples key ≡ Ok rows → length rows ≤ length tuples
  length-rows_of_key key = grind (arith, length-rows_where (leads same_number key) 0 tuples)

  pub length-rows_of_list : (keys : List (List Label)) (rows : List ℕ) → rows_of_list tuples keys ≡ Ok rows → length rows ≤ length keys * length tuples
  length-rows_of_list [] _ e = grind (arith, ok_same)
  length-rows_of_list (key ∷ keys) rows e =
      went_on (rows_of_key (leads same_number) tuples key) _ rows _
      (λ first is rest. went_on (rows_of_list tuples keys) (λ more. Ok (first ++ more)) rows _
      (λ more are end. omega (arith, ap length (ok_same (first ++ more) rows end), length-append first more, length-rows_of_key key first is, length-rows_of_list keys more are)) rest)
      e

  pub few_listed : (keys : List (List Label)) (rows : List ℕ) (most : ℕ) → rows_of_list tuples keys ≡ Ok rows → length keys * length tuples ≤ most → list_within most tuples keys ≡ Ok (Some rows)
  few_listed keys rows most is few = let fits : length rows ≤ most = omega (arith, length-rows_of_list keys rows is) in grind (arith, nat_tests)

-- the row of a label that stands once
lone_row : (rows : List ℕ) (row : ℕ) → only_row rows ≡ Some row → rows ≡ row ∷ []
lone_row = grind arith

pub lone_found : (labels : List Label) (tuples : List (List Label)) (key : List Label) (l : Label) (row : ℕ) → single_tuples labels ≡ tuples → length key ≡ 1 → slice_get key 0 ≡ Some l → only_row (rows_where (same_number l) 0 labels) ≡ Some row
    → rows_of_key (leads same_number) tuples key ≡ Ok (row ∷ [])
lone_found labels tuples key l row seen one at only =
    let is = lone_row (rows_where (same_number l) 0 labels) row only in
    label_found labels tuples key l seen one at (ap are_some is) ∙ ap (λ rows. Ok rows) is

-- rows of a list lie within the axis
pub list_inside : (tuples keys : List (List Label)) (most : ℕ) (result : Result (Option (List ℕ)) KeyFault) → PicksBy as_it_is result (list_within most tuples keys) → IfOk result (λ found. IfSome found (All (λ row. row < length tuples)))
list_inside tuples keys most (Ok (Some rows)) is = keys_inside (leads same_number) tuples keys rows (some_within most (rows_of_list tuples keys) rows is)
list_inside _ _ _ (Ok None) _ = tt
list_inside _ _ _ (Err fault) _ = tt
