-- Lists that grow, parts of lists, and lists of labels that are put together alike where they are seen otherwise, as with their texts.
use Rattle.{
  frame_parts.proofs.{Common.{subst, All, ◌≡◌, ◌<◌, ◌+◌, ◌-◌, arith, ℕ, List, [], ◌∷◌, ◌++◌, map, length, take, drop, slice_index_or, Option, refl, Bool, true, false, ◌&&◌, Some, nat_lt, length-map, take_all, map-append, take_more, All-nil, All-head, All-tail, All-filter, get_or-map, list_all, list_any, flat_map, option_map, Cell, Na, CellBlock, taken, ColumnOf, no_column, on_rows, columns_of, block_column, first_where, first_repeated, all_flat, all_distinct, first_map, distinct_map}, align.SeenLaws.{filter_map}},
  std.proofs.lemmas.List.{append_assoc},
  multi_index.proofs.pick.{RowLaws.{rows_where-map}, SeenLaws.{pointwise-map}},
  meaning_method.specs.join.Concat.{united, are_equal, repeated_on_any},
}
pub use Rattle.multi_index.proofs.LevelLaws.{maps_alike as map_given}

-- what is left behind the first
pub rest_of : {A : Type 0} (xs : List A) → take (length xs - 1) (drop 1 xs) ≡ drop 1 xs
rest_of = grind (arith, take_all)

-- one more column of a part
pub more_on : (before : List (ColumnOf Cell)) (columns : List (ColumnOf Cell)) (rows : List (Option ℕ)) (place : ℕ) (made made' : List CellBlock) (block : CellBlock) → place < length columns
    → columns_of made ≡ before ++ on_rows Na rows (take place columns) → made' ≡ made ++ block ∷ [] → block_column block ≡ record { kind = (slice_index_or columns place no_column).kind; cells = taken Na (slice_index_or columns place no_column).cells rows }
    → columns_of made' ≡ before ++ on_rows Na rows (take (place + 1) columns)
more_on _ columns _ place _ _ _ lt = grind (arith, map-append, append_assoc, take_more columns place no_column lt)

-- what all of a list's images have, each item has by its image
pub each_of : {A B : Type 0} (P : B → Type 0) (f : A → B) (xs : List A) → All P (map f xs) → All (λ x. P (f x)) xs
each_of P f xs all = λ k d lt. subst P (get_or-map f xs k d) (all k (f d) (omega (arith, length-map xs f, lt)))

-- what is made of images, item by item
pub flat_seen : {X Y A B : Type 0} (f : A → B) (g : X → List A) (h : X → Y) (g' : Y → List B) → ((x : X) → g' (h x) ≡ map f (g x)) → (xs : List X) → flat_map g' (map h xs) ≡ map f (flat_map g xs)
flat_seen _ _ _ _ _ [] = refl
flat_seen f g h g' same (x ∷ xs) = grind (arith, map-append, same, flat_seen f g h g' same xs)

all_seen : {X Y : Type 0} (P : X → Type 0) (f : X → Y) (p : X → Bool) (p' : Y → Bool) → ((x : X) → P x → p' (f x) ≡ p x) → (xs : List X) → All P xs → list_all p' (map f xs) ≡ list_all p xs
all_seen _ _ _ _ _ [] _ = refl
all_seen P f p p' same (x ∷ xs) all = λ i. same x (All-head P x xs all) i && all_seen P f p p' same xs (All-tail P x xs all) i

-- labels that have a property, with it
module _ {X : Type 0} (P : X → Type 0) (same : X → X → Bool) where
  flat : (lists : List (List X)) → All (All P) lists → All P (flat_map (λ list. list) lists)
  flat = all_flat P (All P) (λ list. list) (λ list all. all)

  pub united_all : (inner : Bool) (lists : List (List X)) → All (All P) lists → All P (united same inner lists)
  united_all _ [] _ = All-nil P
  united_all true (first ∷ others) all = All-filter _ P first (All-head (All P) first others all)
  united_all false (first ∷ others) all = all_distinct P same _ (flat (first ∷ others) all)

  first_all : (p : X → Bool) (xs : List X) (x : X) → All P xs → first_where p xs ≡ Some x → P x
  first_all p [] x _ is = cc
  first_all p (y ∷ ys) x all is = grind (arith, All-head P y ys all, first_all p ys x (All-tail P y ys all))

  pub repeated_all : (lists : List (List X)) (x : X) → All (All P) lists → repeated_on_any same lists ≡ Some x → P x
  repeated_all [] x _ is = cc
  repeated_all (list ∷ lists) x all is =
      let first : first_repeated same list ≡ Some x → P x = first_all _ list x (All-head (All P) list lists all) in
      grind (arith, first, repeated_all lists x (All-tail (All P) list lists all))

  -- tests that agree on such labels
  module _ {Y : Type 0} (f : X → Y) (same' : Y → Y → Bool) (equal : (x y : X) → P x → P y → same' (f x) (f y) ≡ same x y) where
    any_seen : (k : X) → P k → (list : List X) → All P list → list_any (same' (f k)) (map f list) ≡ list_any (same k) list
    any_seen k here [] _ = refl
    any_seen k here (x ∷ xs) all = cc (equal k x here (All-head P x xs all), any_seen k here xs (All-tail P x xs all))

    twice_seen : (keys : List X) → All P keys → first_repeated same' (map f keys) ≡ option_map f (first_repeated same keys)
    twice_seen keys all = first_map f P _ _ (λ key here i. nat_lt 1 (length (rows_where-map P (same' (f key)) (same key) f (λ x there. equal key x here there) 0 keys all i))) keys all

    pub united_seen : (inner : Bool) (lists : List (List X)) → All (All P) lists → united same' inner (map (map f) lists) ≡ map f (united same inner lists)
    united_seen _ [] _ = refl
    united_seen true (first ∷ others) all = filter_map f P _ _ (λ k here. all_seen (All P) (map f) _ _ (any_seen k here) others (All-tail (All P) first others all)) first (All-head (All P) first others all)
    united_seen false (first ∷ others) all =
        let lists = first ∷ others in
        cc (flat_seen f (λ list. list) (map f) (λ list. list) (λ list. refl) lists, distinct_map f P same same' equal (flat_map (λ list. list) lists) (flat lists all))

    pub equal_seen : (lists : List (List X)) → All (All P) lists → are_equal same' (map (map f) lists) ≡ are_equal same lists
    equal_seen [] _ = refl
    equal_seen (first ∷ others) all = all_seen (All P) (map f) _ _ (λ list. pointwise-map P same' same f equal first list (All-head (All P) first others all)) others (All-tail (All P) first others all)

    pub repeated_seen : (lists : List (List X)) → All (All P) lists → repeated_on_any same' (map (map f) lists) ≡ option_map f (repeated_on_any same lists)
    repeated_seen [] _ = refl
    repeated_seen (list ∷ lists) all = grind (arith, twice_seen list (All-head (All P) list lists all), repeated_seen lists (All-tail (All P) list lists all))
