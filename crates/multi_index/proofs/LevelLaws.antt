-- Some levels of an axis, by their places.
use Rattle.{index_core.{proofs.cells.Common.{◌≡◌, sym, refl, arith, ℕ, ◌+◌, ◌<◌, List, [], ◌∷◌, ◌++◌, length, map, take, drop, set, remove, swap, slice_index_or, Option, None, All, take_more_set, map_more, map-append, map-id, map-set, take-map, drop-map, get_or-map, All-head, All-tail, fill_by_all, length-range_with_len, get_or-range_with_len, map-range_with_len_more, range_with_len, Label}, specs.Labels.{labels_at}}, cell_core.specs.declared.cell.Label.TheVariants.{Na}, multi_index.specs.Axes.{AxisValue, HaveLevels, at_levels, without_level, without_leading, with_swapped}}

-- all levels
pub levels_below : (n : ℕ) → All (λ level. level < n) (range_with_len 0 n)
levels_below = grind (arith, length-range_with_len, get_or-range_with_len)

pub one_level_more : (levels levels' : List ℕ) (level : ℕ) → levels ≡ range_with_len 0 level → levels' ≡ levels ++ level ∷ [] → levels' ≡ range_with_len 0 (level + 1)
one_level_more _ _ level before pushed = cc (map-id (range_with_len 0 level), map-range_with_len_more (λ n. n) 0 level level (omega arith), map-id (range_with_len 0 (level + 1)))

-- one more of what is read at places
pub one_read_more : {X : Type 0} (f : ℕ → X) (room : List X) (order : List ℕ) (k : ℕ) (x : X) → k < length room → k < length order → x ≡ f (slice_index_or order k 0)
    → take k room ≡ map f (take k order) → take (k + 1) (set room k x) ≡ map f (take (k + 1) order)
one_read_more = grind (arith, take_more_set, map_more)

-- what is read at all places, at those but one, at the later ones, and with two exchanged
swap-map : {X Y : Type 0} (f : X → Y) (xs : List X) (i j : ℕ) → i < length xs → j < length xs → map f (swap xs i j) ≡ swap (map f xs) i j
swap-map = grind (arith, map-set, get_or-map)

module _ {X : Type 0} (xs : List X) (n : ℕ) (d : X) (size : length xs ≡ n) where
  abbrev pub read : ℕ → X
  read k = slice_index_or xs k d

  all_read : map read (range_with_len 0 n) ≡ xs
  all_read = sym (fill_by_all _ xs n d size (λ k lt. refl))

  pub read_removed : (i : ℕ) → map read (remove (range_with_len 0 n) i) ≡ remove xs i
  read_removed = grind (arith, map-append, take-map, drop-map, all_read)

  pub read_dropped : (count : ℕ) → map read (drop count (range_with_len 0 n)) ≡ drop count xs
  read_dropped = grind (arith, drop-map, all_read)

  pub read_swapped : (i j : ℕ) → i < n → j < n → map read (swap (range_with_len 0 n) i j) ≡ swap xs i j
  read_swapped = search (length-range_with_len, swap-map, all_read)

-- the axis of some levels, by what becomes of each tuple and of the names
pub maps_alike : {X Y : Type 0} (P : X → Type 0) (f g : X → Y) → ((x : X) → P x → f x ≡ g x) → (xs : List X) → All P xs → map f xs ≡ map g xs
maps_alike P f g _ [] _ = refl
maps_alike P f g same (x ∷ xs) all = λ j. same x (All-head P x xs all) j ∷ maps_alike P f g same xs (All-tail P x xs all) j

module _ (axis : AxisValue) (n : ℕ) (alike : HaveLevels n axis.tuples) (count : length axis.names ≡ n) where
  levels_are : (order : List ℕ) (labels : List Label → List Label) (names : List (Option Label)) → ((t : List Label) → length t ≡ n → labels_at t order ≡ labels t)
      → map (λ level. slice_index_or axis.names level None) order ≡ names → at_levels axis order ≡ record { tuples = map labels axis.tuples; names = names }
  levels_are _ _ _ same are =
      let tuples = maps_alike _ _ _ same axis.tuples alike in
      search

  pub level_removed : (order : List ℕ) (level : ℕ) → order ≡ remove (range_with_len 0 n) level → at_levels axis order ≡ without_level axis level
  level_removed _ level is = cc (levels_are (remove (range_with_len 0 n) level) (λ t. remove t level) (remove axis.names level) (λ t size. read_removed t n Na size level) (read_removed axis.names n None count level))

  pub levels_dropped : (order : List ℕ) (some : ℕ) → order ≡ drop some (range_with_len 0 n) → at_levels axis order ≡ without_leading axis some
  levels_dropped _ some is = cc (levels_are (drop some (range_with_len 0 n)) (λ t. drop some t) (drop some axis.names) (λ t size. read_dropped t n Na size some) (read_dropped axis.names n None count some))

  pub levels_swapped : (order : List ℕ) (i j : ℕ) → i < n → j < n → order ≡ swap (range_with_len 0 n) i j → at_levels axis order ≡ with_swapped axis i j
  levels_swapped _ i j first second is = cc (levels_are (swap (range_with_len 0 n) i j) (λ t. swap t i j) (swap axis.names i j) (λ t size. read_swapped t n Na size i j first second) (read_swapped axis.names n None count i j first second))

-- a list of one level
pub only_place : (order : List ℕ) → length order ≡ 1 → slice_index_or order 0 0 ∷ [] ≡ order
only_place [] one = search
only_place (level ∷ []) _ = refl
only_place (level ∷ (other ∷ order)) one = search
