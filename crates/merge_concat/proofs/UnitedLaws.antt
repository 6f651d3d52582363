-- Tuples of axes that are put one below the other, level by level.
use Rattle.{
  column_core.proofs.cells.Common.{◌≡◌, sym, All, All-map, option_map, ◌+◌, ◌-◌, ◌<◌, ℕ, zero, suc, true, List, [], ◌∷◌, ◌++◌, length, map, take, drop, replicate, slice_index_or, refl, arith, append_assoc, not, ◌≤◌, ◌&&◌, Bool, false, ◌==◌, slice_get, Some, None, append-nil, get_or-map, length-map, drop_more, drop_all, length-replicate, flat_map-map, All-append, All-tail, filter_more, get_or_from_slice_get, eqb-false, flat_map, list_any, Bor, Label, distinct, Option},
  std.{proofs.lemmas.List.{length-append}, specs.List.{filter}},
  multi_index.specs.Axes.{AxisValue, HaveLevels, nameless_axis, single_tuples, tuples_with, with_level, tuples_at},
  row_keys.{specs.{Keys.{label_in, same_tuple, place_among, codes_of, first_rows}, Partners.{rows_with}}, proofs.{KeyLaws.{position_in, all_known}, RecodeLaws.{drop_none, first_keys}}},
  factorize.proofs.label_align.{EntryLaws.{flat_map_more}, SameLaws.{tuple_decides, tuple_laws}},
  meaning_join.specs.{Concat.{labels_under, united, repeated_on_any}, pick.Rows.{rows_where}, align.Targets.{first_repeated}},
  merge_concat.{specs.{Axes.{tuples_of_each, tuples_in, keys_below}, Codes.{repeated_from}}, proofs.JoinLaws.{repeated_coded}},
}

pub lists_of_axes : (axes : List (Bor AxisValue)) → flat_map (λ tuples. tuples) (tuples_of_each axes) ≡ tuples_in axes
lists_of_axes = search flat_map-map

-- labels of the last level, as tuples
module _ (level levels : ℕ) where
  pub last_level : (tuples : List (List Label)) → level + 1 ≡ levels → HaveLevels levels tuples → single_tuples (map (label_in level) tuples) ≡ map (drop level) tuples
  last_level [] e all = refl
  last_level (t ∷ ts) e all = grind (arith, all 0 t, drop_more, drop_all, last_level ts e (All-tail (λ x. length x ≡ levels) t ts all))

  -- labels of a level in front of those of the levels behind it
  pub next_level : (tuples : List (List Label)) → level < levels → HaveLevels levels tuples → tuples_with true (map (label_in level) tuples) (map (drop (level + 1)) tuples) ≡ map (drop level) tuples
  next_level [] lt all = refl
  next_level (t ∷ ts) lt all = grind (arith, all 0 t, drop_more, next_level ts lt (All-tail (λ x. length x ≡ levels) t ts all))

  -- the axis from the last level on, and with one level more
  pub one_level : (tuples : List (List Label)) → level + 1 ≡ levels → HaveLevels levels tuples → nameless_axis (single_tuples (map (label_in level) tuples)) 1 ≡ nameless_axis (map (drop level) tuples) (levels - level)
  one_level = grind (arith, last_level)

pub level_more : (was level levels : ℕ) (tuples : List (List Label)) (labels : List Label) → was ≡ level + 1 → level < levels → HaveLevels levels tuples → labels ≡ map (label_in level) tuples
    → with_level (nameless_axis (map (drop was) tuples) (levels - was)) labels true ≡ nameless_axis (map (drop level) tuples) (levels - level)
level_more _ level levels tuples _ e lt all told = let f : suc (levels - (level + 1)) ≡ levels - level = omega arith in cc (next_level level levels tuples lt all)

pub no_level : (level levels : ℕ) (tuples : List (List Label)) → level ≡ 0 → nameless_axis (map (drop level) tuples) (levels - level) ≡ nameless_axis tuples levels
no_level _ levels tuples e = let f : levels - 0 ≡ levels = omega arith in cc (drop_none tuples)

-- the tuples of one axis more have as many levels
module _ (axes : List (Bor AxisValue)) (i : ℕ) (axis : Bor AxisValue) where
  pub levels_more : (levels count : ℕ) → i < length axes → axis ≡ slice_index_or axes i axis → HaveLevels levels (tuples_in (take i axes)) → count ≡ levels → HaveLevels count axis.now.tuples
      → HaveLevels levels (tuples_in (take (i + 1) axes))
  levels_more levels _ lt is before same here = rw (flat_map_more (λ a. a.now.tuples) axes i axis lt) (All-append (λ t. length t ≡ levels) _ _ before (grind arith))

  -- an axis of the list
  pub tuples_there : i < length axes → axis ≡ slice_index_or axes i axis → axis.now.tuples ≡ slice_index_or (tuples_of_each axes) i []
  tuples_there = grind (arith, get_or-map)

-- keys, with one list more
pub keys_more : (keys : List Label) (lists : List (List (List Label))) (place : ℕ) (k : Label) (d : List (List Label)) → place < length keys → place < length lists
    → keys_below (take (suc place) keys) (take (suc place) lists) ≡ keys_below (take place keys) (take place lists) ++ replicate (length (slice_index_or lists place d)) (slice_index_or keys place k)
keys_more (key ∷ keys) (list ∷ lists) zero k d lt lr = search append-nil
keys_more (key ∷ keys) (list ∷ lists) (suc place) k d lt lr = search (append_assoc, keys_more keys lists place k d (omega arith) (omega arith))
keys_more keys [] place k d lt lr = absurd (omega arith)
keys_more [] lists place k d lt lr = absurd (omega arith)

-- a key for each tuple
pub keys_counted : (keys : List Label) (lists : List (List (List Label))) → length keys ≡ length lists → length (keys_below keys lists) ≡ length (flat_map (λ tuples. tuples) lists)
keys_counted (key ∷ keys) (list ∷ lists) e = search (length-append, length-replicate, keys_counted keys lists (omega arith))
keys_counted keys [] e = search
keys_counted [] lists e = search

one_key : (key : Label) (list : List (List Label)) (keys : List Label) (tuples : List (List Label)) → tuples_with true (replicate (length list) key ++ keys) (list ++ tuples) ≡ map (λ tuple. key ∷ tuple) list ++ tuples_with true keys tuples
one_key _ [] _ _ = refl
one_key key (t ∷ list) keys tuples = cc (one_key key list keys tuples)

-- the tuples behind their keys
pub behind_keys : (keys : List Label) (lists : List (List (List Label))) → length keys ≡ length lists → tuples_with true (keys_below keys lists) (flat_map (λ tuples. tuples) lists) ≡ labels_under keys lists
behind_keys (key ∷ keys) (list ∷ lists) e = search (one_key, behind_keys keys lists (omega arith))
behind_keys keys [] e = search
behind_keys [] lists e = search

-- an axis behind the keys of its parts
pub keyed : (keys labels : List Label) (axes : List (Bor AxisValue)) (levels : ℕ) → length keys ≡ length axes → labels ≡ keys_below keys (tuples_of_each axes)
    → with_level (nameless_axis (tuples_in axes) levels) labels true ≡ nameless_axis (labels_under keys (tuples_of_each axes)) (levels + 1)
keyed = grind (arith, lists_of_axes, behind_keys, length-map)

-- What stands on any axis, or on all of them.

-- the first list of which a key is told
module _ {K : Type 0} (same : K → K → Bool) where
  pub none_more : (lists : List (List K)) (i : ℕ) (d : List K) → i < length lists → repeated_on_any same (take i lists) ≡ None → first_repeated same (slice_index_or lists i d) ≡ None → repeated_on_any same (take (suc i) lists) ≡ None
  none_more [] i d lt before here = search
  none_more (list ∷ lists) zero d lt before here = cc
  none_more (list ∷ lists) (suc i) d lt before here = grind (arith, none_more lists)

  pub told_at : (lists : List (List K)) (i : ℕ) (d : List K) (key : K) → i < length lists → repeated_on_any same (take i lists) ≡ None → Some key ≡ first_repeated same (slice_index_or lists i d) → Some key ≡ repeated_on_any same lists
  told_at [] i d _ lt before here = absurd (omega arith)
  told_at (list ∷ lists) zero d _ lt before here = cc
  told_at (list ∷ lists) (suc i) d _ lt before here = grind (arith, told_at lists)

-- the first tuple that stands twice, by the numbers of the tuples
module _ (tuples none : List (List Label)) (codes : List ℕ) (coded : codes ≡ codes_of same_tuple (tuples ++ none)) where
  pub codes_counted : (firsts : List ℕ) → firsts ≡ first_rows same_tuple (tuples ++ none) → All (λ code. code < length firsts) codes
  codes_counted _ first =
      let keys = tuples ++ none in
      rw (first, length-map, coded) (All-map (λ code. code < length (distinct same_tuple keys)) (place_among same_tuple (distinct same_tuple keys)) keys (λ k d lt. position_in _ _ (all_known same_tuple tuple_laws keys k d lt)))

  pub repeated_told : none ≡ [] → option_map (λ row. slice_index_or tuples row []) (repeated_from codes 0 codes) ≡ first_repeated same_tuple tuples
  repeated_told empty =
      let alone : codes ≡ codes_of same_tuple tuples = rw (empty, append-nil) at coded in
      rw alone (sym (repeated_coded same_tuple tuple_laws (distinct same_tuple tuples) tuples (all_known same_tuple tuple_laws tuples) []))

  pub none_repeated : none ≡ [] → (found : Option ℕ) → found ≡ repeated_from codes 0 codes → found ≡ None → None ≡ first_repeated same_tuple tuples
  none_repeated empty _ is nothing = cc (repeated_told empty)

-- rows pass a test exactly where an element does
rows_told : {X : Type 0} (p : X → Bool) (at : ℕ) (xs : List X) → (length (rows_where p at xs) == 0) ≡ not (list_any p xs)
rows_told p _ [] = refl
rows_told p at (x ∷ xs) = grind (arith, eqb-false, rows_told p (at + 1) xs)

-- one tuple more of those that stand on an axis
module _ (among tuples : List (List Label)) where
  abbrev pub stands : List Label → Bool
  stands tuple = list_any (same_tuple tuple) among

  module _ (partners : List (List ℕ)) (row : ℕ) (rows : List ℕ) (lt : row < length tuples) (found : partners ≡ map (rows_with among) tuples) (is : rows ≡ slice_index_or partners row []) where
    pub one_kept : (kept kept' : List (List Label)) (tuple : List Label) → kept ≡ filter stands (take row tuples) → (length rows == 0) ≡ false → slice_get tuples row ≡ Some tuple → kept' ≡ kept ++ tuple ∷ []
        → kept' ≡ filter stands (take (row + 1) tuples)
    one_kept kept kept' tuple before some at more = grind (arith, get_or-map, rows_told (same_tuple (slice_index_or tuples row [])) 0 among, filter_more stands tuples row [] lt, get_or_from_slice_get tuples row tuple [] at)

    pub none_kept : (kept : List (List Label)) → kept ≡ filter stands (take row tuples) → (length rows == 0) ≡ true → kept ≡ filter stands (take (row + 1) tuples)
    none_kept kept before none = grind (arith, append-nil, get_or-map, rows_told (same_tuple (slice_index_or tuples row [])) 0 among, filter_more stands tuples row [] lt)

pub both_pass : {X : Type 0} (p q r : X → Bool) → ((x : X) → r x ≡ (p x && q x)) → (xs : List X) → filter q (filter p xs) ≡ filter r xs
both_pass p q r _ [] = refl
both_pass p q r both (x ∷ xs) = grind (arith, both_pass p q r both xs)

-- the tuples at the first rows are the different ones
pub different_at : (keys none : List (List Label)) (firsts : List ℕ) → none ≡ [] → firsts ≡ first_rows same_tuple (keys ++ none) → tuples_at (keys ++ none) firsts ≡ distinct same_tuple keys
different_at keys none _ e first = cc (first_keys same_tuple tuple_decides tuple_laws (keys ++ none) [], append-nil keys)

-- the first axis and the others
module _ (axes : List (Bor AxisValue)) (first : Bor AxisValue) (some : 1 ≤ length axes) (is : first ≡ slice_index_or axes 0 first) where
  pub united_any : distinct same_tuple (tuples_in axes) ≡ united same_tuple false (tuples_of_each axes)
  united_any = grind (arith, lists_of_axes)
