-- Keys pick the same rows where labels are seen otherwise: with their texts, or as tuples of one label.
use Rattle.{
  meaning_cells.proofs.Common.{◌≡◌, refl, arith, ℕ, suc, ◌+◌, Bool, ◌&&◌, List, [], ◌∷◌, map, All, Option, Result, if◌then◌else◌, length-map, is_eq, ordering_then, Ordering, Equal, pointwise},
  std.specs.Option.{option_map},
  meaning_pick.{specs.{Faults.{PickFault, then_pick, pick_seen}, Leading.{leads, leading_cmp}, Labels.{rows_of_key, rows_of_keys}, Slices.{goes_on_in_order, is_in_order, reaches, stays_within, sorted_slice, row_of_bound, first_row, end_row, label_slice, unfound_slice, slice_on}, Masks.{cell_of_label, kept_by_label, masked_rows}}, proofs.RowLaws.{rows_where-map}},
}

-- steps that are seen otherwise
pub then_seen : {A B K J : Type 0} (f : K → J) (r : Result A (PickFault K)) (go : A → Result B (PickFault K)) (go' : A → Result B (PickFault J)) → ((a : A) → go' a ≡ pick_seen f (go a))
    → then_pick (pick_seen f r) go' ≡ pick_seen f (then_pick r go)
then_seen = grind arith

if_seen : {A K J : Type 0} (f : K → J) (b : Bool) (x y : Result A (PickFault K)) (x' y' : Result A (PickFault J)) → x' ≡ pick_seen f x → y' ≡ pick_seen f y → (if b then x' else y') ≡ pick_seen f (if b then x else y)
if_seen = grind arith

-- the rows of a key, and of several
pub rows_of_key-map : {K J X Y : Type 0} (P : X → Type 0) (meets' : J → Y → Bool) (meets : K → X → Bool) (g : K → J) (f : X → Y) (key : K) → ((x : X) → P x → meets' (g key) (f x) ≡ meets key x)
    → (xs : List X) → All P xs → rows_of_key meets' (map f xs) (g key) ≡ pick_seen g (rows_of_key meets xs key)
rows_of_key-map P meets' meets g f key same xs all = grind (arith, rows_where-map P (meets' (g key)) (meets key) f same 0 xs all)

pub rows_of_keys-map : {K J X Y : Type 0} (Q : K → Type 0) (P : X → Type 0) (meets' : J → Y → Bool) (meets : K → X → Bool) (g : K → J) (f : X → Y) → ((k : K) (x : X) → Q k → P x → meets' (g k) (f x) ≡ meets k x)
    → (xs : List X) → All P xs → (keys : List K) → All Q keys → rows_of_keys meets' (map f xs) (map g keys) ≡ pick_seen g (rows_of_keys meets xs keys)
rows_of_keys-map Q P _ _ g f same xs _ [] given = refl
rows_of_keys-map Q P meets' meets g f same xs all (key ∷ keys) given =
    let one = rows_of_key-map P meets' meets g f key (λ x. same key x (given 0 key (omega arith))) xs all in
    grind (arith, then_seen, rows_of_keys-map Q P meets' meets g f same xs all keys (λ k d lt. given (suc k) d (omega arith)))

-- slices by labels
module _ {X Y : Type 0} (cmp' : Y → Y → Ordering) (cmp : X → X → Ordering) (f : X → Y) (same : (x y : X) → cmp' (f x) (f y) ≡ cmp x y) where
  goes_on-map : (x : X) (xs : List X) → goes_on_in_order cmp' (f x) (map f xs) ≡ goes_on_in_order cmp x xs
  goes_on-map x [] = refl
  goes_on-map x (y ∷ ys) = grind (arith, goes_on-map y ys)

  pub in_order-map : (xs : List X) → is_in_order cmp' (map f xs) ≡ is_in_order cmp xs
  in_order-map = grind (arith, goes_on-map)

  reaches-map : (bound : Option X) (x : X) → reaches cmp' (option_map f bound) (f x) ≡ reaches cmp bound x
  reaches-map = grind arith

  stays-map : (bound : Option X) (x : X) → stays_within cmp' (option_map f bound) (f x) ≡ stays_within cmp bound x
  stays-map = grind arith

  sorted-map : (lower upper : Option X) (xs : List X) → sorted_slice cmp' (option_map f lower) (option_map f upper) (map f xs) ≡ sorted_slice cmp lower upper xs
  sorted-map lower upper xs =
      rows_where-map (λ x. Unit {0}) _ _ f
      (λ x t. λ j. reaches-map lower x j && stays-map upper x j) 0 xs (search)

  bound-map : (xs : List X) (bound : X) → row_of_bound cmp' (map f xs) (f bound) ≡ pick_seen f (row_of_bound cmp xs bound)
  bound-map xs bound = grind (arith, rows_where-map (λ x. Unit {0}) (λ y. is_eq (cmp' y (f bound))) (λ x. is_eq (cmp x bound)) f (λ x t. λ j. is_eq (same x bound j)) 0 xs (search))

  first-map : (xs : List X) (bound : Option X) → first_row cmp' (map f xs) (option_map f bound) ≡ pick_seen f (first_row cmp xs bound)
  first-map = grind (arith, bound-map)

  end-map : (xs : List X) (bound : Option X) → end_row cmp' (map f xs) (option_map f bound) ≡ pick_seen f (end_row cmp xs bound)
  end-map = grind (arith, length-map, bound-map, then_seen)

  pub label_slice-map : (lower upper : Option X) (xs : List X) → label_slice cmp' (option_map f lower) (option_map f upper) (map f xs) ≡ pick_seen f (label_slice cmp lower upper xs)
  label_slice-map = search (in_order-map, if_seen, sorted-map, first-map, then_seen, end-map)

  unfound-map : (lower upper : Option X) (xs : List X) → unfound_slice (option_map f lower) (option_map f upper) (map f xs) ≡ pick_seen f (unfound_slice lower upper xs)
  unfound-map = grind (arith, length-map)

  pub slice_on-map : (levels : ℕ) (lower upper : Option X) (xs : List X) → slice_on levels cmp' (option_map f lower) (option_map f upper) (map f xs) ≡ pick_seen f (slice_on levels cmp lower upper xs)
  slice_on-map = search (if_seen, label_slice-map, in_order-map, sorted-map, unfound-map)

-- masks
module _ {X Y : Type 0} (P : X → Type 0) (same' : Y → Y → Bool) (same : X → X → Bool) (f : X → Y) (alike : (x y : X) → P x → P y → same' (f x) (f y) ≡ same x y) where
  pub pointwise-map : (xs ys : List X) → All P xs → All P ys → pointwise same' (map f xs) (map f ys) ≡ pointwise same xs ys
  pointwise-map [] [] _ _ = refl
  pointwise-map [] (y ∷ ys) _ _ = refl
  pointwise-map (x ∷ xs) [] _ _ = refl
  pointwise-map (x ∷ xs) (y ∷ ys) all given =
      λ j. alike x y (all 0 x (omega arith)) (given 0 y (omega arith)) j && (pointwise-map xs ys (λ k d lt. all (suc k) d (omega arith)) (λ k d lt. given (suc k) d (omega arith))) j

  pub cell_of_label-map : (labels : List X) (mask : List Bool) (x : X) → All P labels → P x → cell_of_label same' (map f labels) mask (f x) ≡ pick_seen f (cell_of_label same labels mask x)
  cell_of_label-map labels _ x given here = grind (arith, rows_where-map P (same' (f x)) (same x) f (λ y there. alike x y here there) 0 labels given)

  pub kept_by_label-map : (labels : List X) (mask : List Bool) (row : ℕ) (xs : List X) → All P labels → All P xs → kept_by_label same' (map f labels) mask row (map f xs) ≡ pick_seen f (kept_by_label same labels mask row xs)
  kept_by_label-map _ _ _ [] given all = refl
  kept_by_label-map labels mask row (x ∷ xs) given all =
      let here = cell_of_label-map _ mask x given (all 0 x (omega arith)) in
      grind (arith, then_seen, kept_by_label-map labels mask (row + 1) xs given (λ k d lt. all (suc k) d (omega arith)))

  pub masked_rows-map : (xs labels : List X) (mask : List Bool) → All P xs → All P labels → masked_rows same' (map f xs) (map f labels) mask ≡ pick_seen f (masked_rows same xs labels mask)
  masked_rows-map = search (pointwise-map, if_seen, kept_by_label-map)

-- tuples of one label
pub leads_single : {L : Type 0} (same : L → L → Bool) (k l : L) → leads same (k ∷ []) (l ∷ []) ≡ same k l
leads_single = grind arith

then_equal : (o : Ordering) → ordering_then o Equal ≡ o
then_equal = grind arith

pub leading_single : {L : Type 0} (cmp : L → L → Ordering) (l b : L) → leading_cmp cmp (l ∷ []) (b ∷ []) ≡ cmp l b
leading_single _ l b = then_equal _

pub single_rows : {L : Type 0} (same : L → L → Bool) (labels : List L) (k : L) → rows_of_key (leads same) (map (λ l. l ∷ []) labels) (k ∷ []) ≡ pick_seen (λ l. l ∷ []) (rows_of_key same labels k)
single_rows same labels k = rows_of_key-map (λ l. Unit {0}) (leads same) same _ _ k (λ l t. leads_single same k l) labels _

pub single_slice : {L : Type 0} (cmp : L → L → Ordering) (lower upper : Option L) (labels : List L)
    → label_slice (leading_cmp cmp) (option_map (λ l. l ∷ []) lower) (option_map (λ l. l ∷ []) upper) (map (λ l. l ∷ []) labels) ≡ pick_seen (λ l. l ∷ []) (label_slice cmp lower upper labels)
single_slice = search (label_slice-map, leading_single)
