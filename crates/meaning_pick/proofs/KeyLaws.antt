-- What a key of `loc` picks is the same where labels are seen otherwise, and lies within the axis.
use Rattle.{
  meaning_cells.proofs.Common.{◌≡◌, ◌∙◌, ap, subst, refl, arith, ℕ, suc, ◌<◌, Bool, ◌&&◌, List, [], ◌∷◌, length, map, All, Ok, length-map, length-range_with_len, get_or-range_with_len, Ordering},
  meaning_pick.{specs.{Faults.{then_pick, pick_seen}, Leading.{leads, leading_cmp}, Labels.{rows_of_key, rows_of_keys}, Slices.{slice_on}, Keys.{LabelKey, all_rows, one_key, each_key, between, key_seen, PlaceKey, one_place, each_place, place_slice, Pick, listed_pick, sliced_pick, key_pick, picked_by_label, picked_by_place}}, proofs.{SeenLaws.{then_seen, rows_of_key-map, rows_of_keys-map, slice_on-map}, InsideLaws.{went_on, ok_same, key_inside, keys_inside, slice_on_inside}, PositionLaws.{at_inside, rows_at_inside, slice_below, spaced_inside}}},
}

module _ {X Y : Type 0} (cmp' : Y → Y → Ordering) (cmp : X → X → Ordering) (f : X → Y) (alike : (x y : X) → cmp' (f x) (f y) ≡ cmp x y) where
  pub leading_cmp-map : (tuple bound : List X) → leading_cmp cmp' (map f tuple) (map f bound) ≡ leading_cmp cmp tuple bound
  leading_cmp-map [] [] = refl
  leading_cmp-map (x ∷ tuple) [] = refl
  leading_cmp-map [] (b ∷ bound) = refl
  leading_cmp-map (x ∷ tuple) (b ∷ bound) = grind (arith, leading_cmp-map tuple bound)

module _ {X Y : Type 0} (P : X → Type 0) (same' : Y → Y → Bool) (same : X → X → Bool) (f : X → Y) (alike : (x y : X) → P x → P y → same' (f x) (f y) ≡ same x y) where
  pub leads-map : (key tuple : List X) → All P key → All P tuple → leads same' (map f key) (map f tuple) ≡ leads same key tuple
  leads-map [] _ _ _ = refl
  leads-map (k ∷ key) [] _ _ = refl
  leads-map (k ∷ key) (x ∷ tuple) given all =
      λ j. alike k x (given 0 k (omega arith)) (all 0 x (omega arith)) j && (leads-map key _ (λ j d lt. given (suc j) d (omega arith)) (λ j d lt. all (suc j) d (omega arith))) j

-- the labels of a key have a property
abbrev pub IsOfKey : {X : Type 0} → (X → Type 0) → LabelKey (List X) → Type 0
IsOfKey P all_rows = Unit {0}
IsOfKey P (one_key key) = All P key
IsOfKey P (each_key keys) = All (All P) keys
IsOfKey P (between lower upper) = Unit {0}

module _ {X Y : Type 0} (P : X → Type 0) (same' : Y → Y → Bool) (same : X → X → Bool) (cmp' : Y → Y → Ordering) (cmp : X → X → Ordering) (f : X → Y)
    (alike : (x y : X) → P x → P y → same' (f x) (f y) ≡ same x y) (in_order : (x y : X) → cmp' (f x) (f y) ≡ cmp x y) (levels : ℕ) (tuples : List (List X)) (all : All (All P) tuples) where
  pub picked_by_label-map : (key : LabelKey (List X)) → IsOfKey P key → picked_by_label same' cmp' levels (map (map f) tuples) (key_seen (map f) key) ≡ pick_seen (map f) (picked_by_label same cmp levels tuples key)
  picked_by_label-map all_rows given = search length-map
  picked_by_label-map (one_key key) given = cc (rows_of_key-map (All P) (leads same') (leads same) (map f) (map f) key (λ t there. leads-map P same' same f alike key t given there) tuples all, then_seen (map f) (rows_of_key (leads same) tuples key) (λ rows. Ok (key_pick levels key rows)) (λ rows. Ok (key_pick levels (map f key) rows)) (λ rows. search length-map))
  picked_by_label-map (each_key keys) given =
      ap (λ r. then_pick r (λ rows. Ok (listed_pick rows))) (search (rows_of_keys-map, leads-map))
      ∙ then_seen _ (rows_of_keys (leads same) tuples keys) _ _ (λ rows. refl)
  picked_by_label-map (between lower upper) given =
      ap (λ r. then_pick r (λ rows. Ok (sliced_pick rows))) (search (slice_on-map, leading_cmp-map))
      ∙ then_seen _ (slice_on levels (leading_cmp cmp) lower upper tuples) _ _ (λ rows. refl)

abbrev IsInside : ℕ → Pick → Type 0
IsInside count pick = All (λ row. row < count) pick.rows

pub picked_inside : {L : Type 0} (same : L → L → Bool) (cmp : L → L → Ordering) (levels : ℕ) (tuples : List (List L)) (key : LabelKey (List L)) (pick : Pick) → picked_by_label same cmp levels tuples key ≡ Ok pick → All (λ row. row < length tuples) pick.rows
picked_inside _ _ _ _ all_rows _ e = grind (arith, ok_same, length-range_with_len, get_or-range_with_len)
picked_inside same _ levels _ (one_key key) pick e =
    went_on _ _ _ _
    (λ rows is made. rw (← ok_same (key_pick levels key rows) pick made) (key_inside (leads same) _ key _ is)) e
picked_inside _ _ _ _ (each_key keys) _ e = grind (arith, went_on, ok_same, keys_inside)
picked_inside _ _ _ _ (between lower upper) _ e = grind (arith, went_on, ok_same, slice_on_inside)

pub placed_inside : {K : Type 0} (count : ℕ) (key : PlaceKey) (pick : Pick) → picked_by_place {K = K} count key ≡ Ok pick → All (λ row. row < count) pick.rows
placed_inside {K} _ (one_place z) _ e = grind (arith, went_on, ok_same, at_inside)
placed_inside {K} _ (each_place zs) _ e = grind (arith, went_on, ok_same, rows_at_inside)
placed_inside {K} count (place_slice from to step) _ e =
    went_on _ _ _ _
    (λ rows is made. subst (IsInside count) (ok_same _ _ made) (search (spaced_inside, slice_below))) e
