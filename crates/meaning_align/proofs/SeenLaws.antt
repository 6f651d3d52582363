-- The same rows meet where keys are seen otherwise, as tuples with their texts.
use Rattle.{
  meaning_pick.{proofs.{cells.Common.{arith, ◌≡◌, ◌∙◌, ap, refl, sym, ℕ, Bool, not, cond, List, [], ◌∷◌, ◌++◌, map, filter, All, Option, Some, Result, Ok, Err, length-map, map-append, All-head, All-tail, flat_map, pointwise, distinct, All-append as all_append}, RowLaws.{rows_where-map}, SeenLaws.{pointwise-map}}, specs.Rows.{rows_where, only_row}},
  std.specs.Option.{option_map},
  meaning_align.{proofs.OrderLaws.{all_distinct, all_in_order, in_order_map}, specs.{Faults.{AlignRefusal, duplicate_labels, too_large}, Targets.{first_where, first_repeated, rows_of_targets, reindexed}, Joins.{Entry, Lists, entry, entries_with, entries_of, keys_in_order, outer_entries, within, outer_within}}},
}

map_map : {A B C D : Type 0} (f : B → C) (g : A → B) (h : D → C) (k : A → D) → ((x : A) → f (g x) ≡ h (k x)) → (xs : List A) → map f (map g xs) ≡ map h (map k xs)
map_map f g h k _ [] = refl
map_map f g h k same (x ∷ xs) = λ i. same x i ∷ map_map f g h k same xs i

module _ {X Y : Type 0} (f : X → Y) where
  -- an entry, lists and a refusal whose keys are seen by f
  abbrev pub entry_seen : Entry X → Entry Y
  entry_seen e = entry (f e.key) e.left e.right

  abbrev pub lists_seen : Lists X → Lists Y
  lists_seen lists = record { keys = map f lists.keys; left = lists.left; right = lists.right }

  abbrev pub refusal_seen : AlignRefusal X → AlignRefusal Y
  refusal_seen (duplicate_labels key) = duplicate_labels (f key)
  refusal_seen too_large = too_large

  abbrev pub answer_seen : Result (Lists X) (AlignRefusal X) → Result (Lists Y) (AlignRefusal Y)
  answer_seen (Ok lists) = Ok (lists_seen lists)
  answer_seen (Err refusal) = Err (refusal_seen refusal)

  abbrev pub gaps_seen : {A : Type 0} → Result A (AlignRefusal X) → Result A (AlignRefusal Y)
  gaps_seen (Ok answer) = Ok answer
  gaps_seen (Err refusal) = Err (refusal_seen refusal)

  module _ (P : X → Type 0) where
    pub first_map : (p : X → Bool) (p' : Y → Bool) → ((x : X) → P x → p' (f x) ≡ p x) → (xs : List X) → All P xs → first_where p' (map f xs) ≡ option_map f (first_where p xs)
    first_map p _ _ [] _ = refl
    first_map p p' agree (x ∷ xs) all =
        (λ i. cond (agree x (All-head P x xs all) i) (Some (f x)) (first_map p p' agree xs (All-tail P x xs all) i))
        ∙ (grind arith)

    pub filter_map : (p : X → Bool) (p' : Y → Bool) → ((x : X) → P x → p' (f x) ≡ p x) → (xs : List X) → All P xs → filter p' (map f xs) ≡ map f (filter p xs)
    filter_map p _ _ [] _ = refl
    filter_map p p' agree (x ∷ xs) all =
        (λ i. cond (agree x (All-head P x xs all) i) (f x ∷ filter_map p p' agree xs (All-tail P x xs all) i) (filter_map p p' agree xs (All-tail P x xs all) i))
        ∙ (grind arith)

    pub distinct_map : (same : X → X → Bool) (same' : Y → Y → Bool) → ((x y : X) → P x → P y → same' (f x) (f y) ≡ same x y) → (xs : List X) → All P xs → distinct same' (map f xs) ≡ map f (distinct same xs)
    distinct_map _ _ _ [] _ = refl
    distinct_map same same' equal (x ∷ xs) all =
        cc (distinct_map same same' equal xs (All-tail P x xs all), filter_map (λ q. not (same q x)) (λ q. not (same' q (f x))) (λ q h. ap not (equal q x h (All-head P x xs all))) (distinct same xs) (all_distinct P same xs (All-tail P x xs all)))

  rows_map : {R : Type 0} (g : Entry X → R) (g' : Entry Y → R) → ((e : Entry X) → g' (entry_seen e) ≡ g e) → (es : List (Entry X)) → map g' (map entry_seen es) ≡ map g es
  rows_map g _ _ [] = refl
  rows_map g g' same (e ∷ es) = λ i. same e i ∷ rows_map g g' same es i

  limit_map : (most : ℕ) (es : List (Entry X)) → within most (map entry_seen es) ≡ answer_seen (within most es)
  limit_map = grind (arith, length-map, map_map, rows_map)

  with_map : (key : X) (rights : List ℕ) (left : Option ℕ) → entries_with (f key) rights left ≡ map entry_seen (entries_with key rights left)
  with_map key _ left = all _
    where
      all : (rows : List (Option ℕ)) → map (entry (f key) left) rows ≡ map entry_seen (map (entry key left) rows)
      all [] = refl
      all (r ∷ rs) = cc (all rs)

  of_map : (key : X) (lefts rights : List ℕ) → entries_of (f key) lefts rights ≡ map entry_seen (entries_of key lefts rights)
  of_map key _ rights = all _
    where
      all : (rows : List (Option ℕ)) → flat_map (entries_with (f key) rights) rows ≡ map entry_seen (flat_map (entries_with key rights) rows)
      all [] = refl
      all (l ∷ ls) = search (with_map, map-append, all ls)

  module _ (P : X → Type 0) (same less : X → X → Bool) (same' less' : Y → Y → Bool) (equal : (x y : X) → P x → P y → same' (f x) (f y) ≡ same x y) (below : (x y : X) → P x → P y → less' (f x) (f y) ≡ less x y) where
    module _ (left right : List X) (lefts : All P left) (rights : All P right) where
      abbrev of_key : X → List (Entry X)
      of_key key = entries_of key (rows_where (same key) 0 left) (rows_where (same key) 0 right)

      abbrev of_key' : Y → List (Entry Y)
      of_key' key = entries_of key (rows_where (same' key) 0 (map f left)) (rows_where (same' key) 0 (map f right))

      key_map : (key : X) → P key → of_key' (f key) ≡ map entry_seen (of_key key)
      key_map key here =
          (λ i. entries_of (f key) (rows_where-map P (same' (f key)) _ f (λ x h. equal key x here h) 0 _ lefts i) (rows_where-map P (same' (f key)) _ f (λ x h. equal key x here h) 0 _ rights i))
          ∙ of_map _ _ _

      entries_map : (keys : List X) → All P keys → flat_map of_key' (map f keys) ≡ map entry_seen (flat_map of_key keys)
      entries_map [] _ = refl
      entries_map (key ∷ keys) all =
          (λ i. key_map key (All-head P key keys all) i ++ entries_map keys (All-tail P key keys all) i) ∙ sym (map-append _ (of_key key) (flat_map of_key keys))

      pub outer_seen : (most : ℕ) → outer_within most same' less' (map f left) (map f right) ≡ answer_seen (outer_within most same less left right)
      outer_seen most =
          let both : All P (left ++ right) = search all_append in
          let keys : keys_in_order same' less' (map f left ++ map f right) ≡ map f (keys_in_order same less (left ++ right))
          = cc (map-append f left right, distinct_map P same same' equal (left ++ right) both, in_order_map P f less less' below (distinct same (left ++ right)) (all_distinct P same (left ++ right) both)) in
          cc (entries_map (keys_in_order same less (left ++ right)) (search (all_in_order, all_distinct)), limit_map most (outer_entries same less left right))

    same_map : (xs ys : List X) → All P xs → All P ys → pointwise same' (map f xs) (map f ys) ≡ pointwise same xs ys
    same_map = search pointwise-map

    module _ (keys : List X) (given : All P keys) where
      rows_of_map : (key : X) → P key → rows_where (same' (f key)) 0 (map f keys) ≡ rows_where (same key) 0 keys
      rows_of_map = search rows_where-map

      targets_map : (targets : List X) → All P targets → rows_of_targets same' (map f keys) (map f targets) ≡ rows_of_targets same keys targets
      targets_map [] _ = refl
      targets_map (t ∷ targets) all = λ i. only_row (rows_of_map t (All-head P t targets all) i) ∷ targets_map targets (All-tail P t targets all) i

      repeated_map : first_repeated same' (map f keys) ≡ option_map f (first_repeated same keys)
      repeated_map = search (first_map, rows_of_map)

      pub reindexed_seen : (targets : List X) → All P targets → reindexed same' (map f keys) (map f targets) ≡ gaps_seen (reindexed same keys targets)
      reindexed_seen = grind (arith, same_map, length-map, repeated_map, targets_map)
