-- Entries, one more at a time, and how many there are.
use Rattle.{
  meaning_align.{proofs.{cells.Common.{◌≡◌, ◌<◌, ◌≤◌, ◌+◌, ◌*◌, ℕ, List, [], ◌∷◌, ◌++◌, ◌∙◌, map, take, length, Option, Some, slice_index_or, arith, max, Ok, Err, suc, Bool, true, false, not, cond, filter, refl, ap, All, sym, ◌-◌, drop, subst, Result, zero, map-map, length-map, append-nil, take_more, map-append, drop-drop, ext_get_or, flat_map-map, flat_map-append, All-tail, All-map, filter-append, All-nil, All-cons, All-head, sum_by-cons, ranks_by, length-map-range_with_len, get_or-map-range_with_len, false≢true, nat_tests, tied_itself, take-append_seam, drop-append_seam, flat_map, list_any, range_with_len, Decides, IsStrictWeakOrder, pointwise, pointwise_decides, lists_total, slice_cmp-IsAntisymmetric, IfOk, All-append as all_append, distinct, Text, Label, AreDistinct, IsGivenLabel, LabelValue, label_datum, label_total}, OrderLaws.{all_flat, all_in_order, all_distinct, all_put_in}, pick.{RowLaws.{rows_where-append}, InsideLaws.{rows_inside}}}, specs.{Faults.{too_large}, Joins.{Entry, or_gap, entry, entries_with, entries_of, lists_of, within, outer_entries, keys_in_order}, OuterJoin.{IsOuterJoin, rows_of_key}, pick.Rows.{rows_where}}},
  std.{proofs.{lemmas.List.{length-append, append_assoc}, Math.ListN.{get_or-map}}, specs.List.Sorted.{ties, IsStableBy}},
  label_align.specs.{declared.{joined.{JoinedRows.{JoinedRows}, Joined.{Joined}}, runs.Run.{Run}, fault.AlignFault.{AlignFault}}, Joined.{HasMore, entries_seen, lists_seen, entries_shown}, Runs.{no_run, with_row, gathered, runs_from, rows_in, total, entries_in, run_entries, count_in, counted, tuple_of_row, label_of_row, same_row, AreGivenTuples}, Tuples.{tuple_seen, tuple_less, labels_of, row_less}, Answers.{AlignsBy}},
  sorting.{specs.Sorting.{put_in, in_order}, proofs.{SortLaws.{irreflexive, Ascends, in_order_ascends, in_order_ties, one_order}, OrderLaws.{in_order_same}}},
  row_keys.{proofs.{KeyLaws.{any_at}, RecodeLaws.{Apart, apart_distinct}}, specs.Keys.{same_tuple, label_in}},
  cell_core.{specs.declared.cell.Label.TheVariants.{Na}, proofs.LabelLaws.{value_same}},
  index_core.proofs.{NumberLaws.{label_decides}, TextLaws.{label_one}},
  multi_index.specs.Axes.{HaveLevels, single_tuples, tuples_at},
}
pub use Rattle.row_keys.proofs.PartnerLaws.{tuple_laws}
pub use Rattle.sorting.proofs.RangeLaws.{below_range}

module _ {K : Type 0} (key : K) where
  pub entries_with_some : (f : ℕ → ℕ) (left : Option ℕ) (rs : List ℕ) → 0 < length rs → map (λ r. entry key left (Some (f r))) rs ≡ entries_with key (map f rs) left
  entries_with_some f _ [] = grind arith
  entries_with_some f _ (r ∷ rs) = grind (arith, map-map)

  pub entries_of_some : (ls rs : List ℕ) → 0 < length ls → flat_map (λ l. entries_with key rs (Some l)) ls ≡ entries_of key ls rs
  entries_of_some = grind (arith, flat_map-map)

length-or_gap : (rs : List ℕ) → length (or_gap rs) ≡ max (length rs) 1
length-or_gap = grind (arith, length-map)

length-flat_map_alike : {X Y : Type 0} (f : X → List Y) (n : ℕ) → ((x : X) → length (f x) ≡ n) → (xs : List X) → length (flat_map f xs) ≡ length xs * n
length-flat_map_alike f n alike [] = omega arith
length-flat_map_alike f n alike (x ∷ xs) = grind (arith, length-append, alike x, length-flat_map_alike f n alike xs)

-- a key that stands p times left and q times right has p times q entries, where none counts as one
pub length-entries_of : {K : Type 0} (key : K) (ls rs : List ℕ) → length (entries_of key ls rs) ≡ max (length ls) 1 * max (length rs) 1
length-entries_of key ls rs = cc (length-flat_map_alike (entries_with key rs) (max (length rs) 1) (λ l. length-map (or_gap rs) (entry key l) ∙ length-or_gap rs) (or_gap ls), length-or_gap ls)

pub flat_map_more : {X C : Type 0} (f : X → List C) (xs : List X) (i : ℕ) (d : X) → i < length xs → flat_map f (take (i + 1) xs) ≡ flat_map f (take i xs) ++ f (slice_index_or xs i d)
flat_map_more f xs i d lt = cc (take_more xs i d lt, flat_map-append f (take i xs) (slice_index_or xs i d ∷ []), append-nil (f (slice_index_or xs i d)))

-- too many entries, and few enough
module _ {K : Type 0} (most : ℕ) (entries : List (Entry K)) (counted : ℕ) (size : counted ≡ length entries) where
  pub too_many : (counted ≤ most → ⊥) → within most entries ≡ Err too_large
  too_many = grind arith

  pub few_enough : counted ≤ most → within most entries ≡ Ok (lists_of entries)
  few_enough = grind arith

-- More entries, and then more.

grown : {X Y : Type 0} (f : X → Y) (a b : List Y) (es fs : List X) → a ≡ map f es → b ≡ a ++ map f fs → b ≡ map f (es ++ fs)
grown f a b es fs p q = cc (map-append f es fs)

pub lists_more : (a b : JoinedRows) (es fs : List (Entry ℕ)) → entries_seen a ≡ lists_of es → HasMore a b fs → entries_seen b ≡ lists_of (es ++ fs)
lists_more = grind (arith, grown)

-- The entries of both sides' keys in order are an outer join.

filter_alike : {X : Type 0} (p : X → Bool) (b : Bool) (xs : List X) → All (λ x. p x ≡ b) xs → filter p xs ≡ cond b xs []
filter_alike p b [] _ = grind arith
filter_alike p b (x ∷ xs) all = grind (arith, all 0 x (omega arith), filter_alike p b xs (All-tail (λ x. p x ≡ b) x xs all))

-- each entry of a key has the key
pub keyed : {K : Type 0} (key : K) (lefts rights : List ℕ) → All (λ e. e.key ≡ key) (entries_of key lefts rights)
keyed key lefts rights =
    all_flat (λ e. e.key ≡ key) (λ l. Unit {0}) _
    (λ l h. All-map (λ e. e.key ≡ key) (entry key l) (or_gap rights) (λ k d lt. refl)) (or_gap lefts) (λ k d lt. tt)

-- none stands before a lesser one
rises_at : {X : Type 0} (less : X → X → Bool) (weak : IsStrictWeakOrder less) (xs : List X) → Ascends less weak xs → (i j : ℕ) (d : X) → i < j → j < length xs → less (slice_index_or xs j d) (slice_index_or xs i d) ≡ false
rises_at less weak (x ∷ xs) up (suc i) (suc j) = grind (arith, rises_at less weak xs up.1)
rises_at _ _ _ up i _ = grind arith

-- the rows that pass a test
module _ {K : Type 0} (p : K → Bool) where
  rows_filtered : (f : ℕ → K) (d : K) (at : ℕ) (xs : List K) → ((k : ℕ) → k < length xs → f (at + k) ≡ slice_index_or xs k d) → filter (λ row. p (f row)) (range_with_len at (length xs)) ≡ rows_where p at xs
  rows_filtered f d _ [] there = refl
  rows_filtered f d at (x ∷ xs) there =
      let here : f at ≡ x = ap f (omega arith) ∙ there 0 (omega arith) in
      search (rows_filtered f d (at + 1) xs (λ k lt. ap f (omega arith) ∙ there (suc k) (omega arith)))

  rows_some : (at : ℕ) (xs : List K) → list_any p xs ≡ true → 0 < length (rows_where p at xs)
  rows_some _ [] h = absurd (false≢true h)
  rows_some at (x ∷ xs) h = grind (arith, rows_some (at + 1) xs)

  rows_none : (at : ℕ) (xs : List K) → list_any p xs ≡ false → rows_where p at xs ≡ []
  rows_none _ [] h = refl
  rows_none at (x ∷ xs) h = grind (arith, rows_none (at + 1) xs)

-- the rows of the right, from a count on
module _ {K : Type 0} (p : K → Bool) (n : ℕ) where
  rows_above : (at : ℕ) (xs : List K) → n ≤ at → All (λ row. n ≤ row) (rows_where p at xs)
  rows_above _ [] le = grind arith
  rows_above at (x ∷ xs) le = grind (arith, rows_above (at + 1) xs (omega arith))

  rows_shifted : (at m : ℕ) (xs : List K) → m ≡ at + n → map (λ row. row - n) (rows_where p m xs) ≡ rows_where p at xs
  rows_shifted _ m [] e = refl
  rows_shifted at m (x ∷ xs) e = grind (arith, rows_shifted (at + 1) (m + 1) xs (omega arith))

-- how many rows of each side are gathered, and which row stands for them
module _ (n : ℕ) where
  gathered_append : (run : Run) (xs ys : List ℕ) → gathered n run (xs ++ ys) ≡ gathered n (gathered n run xs) ys
  gathered_append _ [] _ = refl
  gathered_append run (x ∷ xs) ys = gathered_append (with_row n run x) xs ys

  lefts_gathered : (run : Run) (xs : List ℕ) → All (λ row. row < n) xs → ((gathered n run xs).lefts ≡ run.lefts + length xs) × ((gathered n run xs).rights ≡ run.rights)
  lefts_gathered _ [] all = (omega arith, refl)
  lefts_gathered run (x ∷ xs) all = grind (arith, nat_tests, all 0 x, lefts_gathered (with_row n run x) xs (All-tail (λ row. row < n) x xs all))

  rights_gathered : (run : Run) (xs : List ℕ) → All (λ row. n ≤ row) xs → ((gathered n run xs).lefts ≡ run.lefts) × ((gathered n run xs).rights ≡ run.rights + length xs)
  rights_gathered _ [] all = (refl, omega arith)
  rights_gathered run (x ∷ xs) all = grind (arith, nat_tests, all 0 x, rights_gathered (with_row n run x) xs (All-tail (λ row. n ≤ row) x xs all))

  row_gathered : (P : ℕ → Type 0) (run : Run) (xs : List ℕ) → P run.row → All P xs → P (gathered n run xs).row
  row_gathered P _ [] here _ = here
  row_gathered P run (x ∷ xs) _ all = row_gathered P (with_row n run x) xs (grind (arith, all 0 x)) (All-tail P x xs all)

  some_row : (P : ℕ → Type 0) (xs : List ℕ) → 0 < length xs → All P xs → P (gathered n no_run xs).row
  some_row P [] some all = search
  some_row P (x ∷ xs) _ all = row_gathered P _ xs (grind (arith, all 0 x)) (All-tail P x xs all)

  -- the entries of a run at the head of rows
  module _ (xs ys rest : List ℕ) (run : Run) (lefts : run.lefts ≡ length xs) (rights : run.rights ≡ length ys) where
    behind : drop run.lefts ((xs ++ ys) ++ rest) ≡ ys ++ rest
    behind = grind (arith, append_assoc, drop-append_seam)

    one_entries : entries_in n run ((xs ++ ys) ++ rest) ≡ entries_of run.row xs (map (λ row. row - n) ys)
    one_entries = grind (arith, append_assoc, take-append_seam, behind)

    others_behind : drop (rows_in run) ((xs ++ ys) ++ rest) ≡ rest
    others_behind = grind (arith, drop-append_seam (xs ++ ys) rest, length-append)

  -- entries keep what their runs' rows are
  entries_keep : (P : ℕ → Type 0) (runs : List Run) (rows : List ℕ) → All (λ run. P run.row) runs → All (λ e. P e.key) (run_entries n runs rows)
  entries_keep P [] _ _ = All-nil (λ e. P e.key)
  entries_keep P (run ∷ runs) _ all =
      all_append (λ e. P e.key) _ _
      (λ k d lt. subst P (search keyed) (All-head (λ r. P r.row) run runs all))
      (entries_keep P runs _ (All-tail (λ r. P r.row) run runs all))

  -- the entries of one run more
  run_entries_append : (xs ys : List Run) (rows : List ℕ) → run_entries n (xs ++ ys) rows ≡ run_entries n xs rows ++ run_entries n ys (drop (total xs) rows)
  run_entries_append [] _ _ = refl
  run_entries_append (x ∷ xs) ys rows = search (drop-drop, sum_by-cons, append_assoc, run_entries_append xs ys (drop (rows_in x) rows))

  pub run_more : (runs : List Run) (rows : List ℕ) (k : ℕ) (d : Run) → k < length runs
      → run_entries n (take (k + 1) runs) rows ≡ run_entries n (take k runs) rows ++ entries_in n (slice_index_or runs k d) (drop (total (take k runs)) rows)
  run_more runs rows k d lt = cc (take_more runs k d lt, run_entries_append (take k runs) (slice_index_or runs k d ∷ []) rows, append-nil (entries_in n (slice_index_or runs k d) (drop (total (take k runs)) rows)))

map-flat_map : {A B C : Type 0} (g : B → C) (h : A → List B) (xs : List A) → map g (flat_map h xs) ≡ flat_map (λ x. map g (h x)) xs
map-flat_map g h [] = refl
map-flat_map g h (x ∷ xs) = search (map-append, map-flat_map g h xs)

-- entries with what stands at their rows in place of the rows
module _ {K : Type 0} (f : ℕ → K) where
  abbrev pub rekeyed : Entry ℕ → Entry K
  rekeyed e = entry (f e.key) e.left e.right

  rekeyed_of : (key : ℕ) (ls rs : List ℕ) → map rekeyed (entries_of key ls rs) ≡ entries_of (f key) ls rs
  rekeyed_of = search (map-flat_map, map-map)

module _ {K : Type 0} (same less : K → K → Bool) (decides : (a b : K) → Decides (same a b) (a ≡ b)) (weak : IsStrictWeakOrder less) where
  -- what belongs to keys, key by key
  module _ {E : Type 0} (key_of : E → K) (part : K → List E) (carry : (key : K) → All (λ e. key_of e ≡ key) (part key)) where
    abbrev less_key : E → E → Bool
    less_key e f = less (key_of e) (key_of f)

    pub key_weak : IsStrictWeakOrder less_key
    key_weak = grind arith

    abbrev Rises : List E → Type 0
    Rises es = Ascends less_key key_weak es

    -- the parts of keys that rise
    block_rises : (key : K) (es rest : List E) → All (λ e. key_of e ≡ key) es → All (λ e. less (key_of e) key ≡ false) rest → Rises rest → Rises (es ++ rest)
    block_rises _ [] _ _ _ up = up
    block_rises key (e ∷ es) rest are above up =
        let here : key_of e ≡ key = are 0 e (omega arith) in
        let later = All-tail (λ e. key_of e ≡ key) e es are in (
          all_append (λ f. less (key_of f) (key_of e) ≡ false) es _
              (λ k d lt. (λ i. less (later k d lt i) (here i)) ∙ irreflexive _ weak key)
              (λ k d lt. ap (less (key_of (slice_index_or rest k d))) here ∙ above k d lt),
          block_rises _ es _ later above up,
        )

    pub parts_rise : (keys : List K) → Ascends less weak keys → Rises (flat_map part keys)
    parts_rise [] _ = tt
    parts_rise (key ∷ keys) up =
        block_rises _ _ _ (carry key)
        (all_flat (λ e. less (key_of e) key ≡ false) (λ k. less k key ≡ false) _ (λ k h. λ n d lt. ap (λ x. less x key) (carry k n d lt) ∙ h) keys up.0)
        (parts_rise keys up.1)

    -- what belongs to one key among what belongs to keys
    module _ (key : K) where
      abbrev has_key : E → Bool
      has_key e = same key (key_of e)

      pub parts_apart : (keys : List K) → filter has_key (flat_map part keys) ≡ flat_map part (filter (same key) keys)
      parts_apart [] = refl
      parts_apart (k ∷ keys) =
          grind (arith, filter-append has_key (part k), filter_alike has_key (same key k) (part k) (λ i d lt. ap (same key) (carry k i d lt)), parts_apart keys)

  module _ (key : K) where
    put_in_keeps : (x : K) (ys : List K) → filter (same key) (put_in less x ys) ≡ filter (same key) (x ∷ ys)
    put_in_keeps x [] = refl
    put_in_keeps x (y ∷ ys) = grind (arith, put_in_keeps x ys)

    pub in_order_keeps : (xs : List K) → filter (same key) (in_order less xs) ≡ filter (same key) xs
    in_order_keeps [] = refl
    in_order_keeps (x ∷ xs) = search (put_in_keeps, in_order_keeps xs)

    -- a key that stands is once among the distinct ones
    others_gone : (x : K) (ks : List K) → key ≡ x → filter (same key) (filter (λ q. not (same q x)) ks) ≡ []
    others_gone x [] _ = refl
    others_gone x (k ∷ ks) is = grind (arith, others_gone x ks is)

    others_stay : (x : K) (ks : List K) → same key x ≡ false → filter (same key) (filter (λ q. not (same q x)) ks) ≡ filter (same key) ks
    others_stay x [] h = refl
    others_stay x (k ∷ ks) h = grind (arith, others_stay x ks h)

    pub once : (xs : List K) → list_any (same key) xs ≡ true → filter (same key) (distinct same xs) ≡ key ∷ []
    once [] h = absurd (false≢true h)
    once (x ∷ xs) h = grind (arith, others_gone x (distinct same xs), others_stay x (distinct same xs), once xs)

    -- and one that doesn't stand is not
    pub gone : (xs : List K) → list_any (same key) xs ≡ false → filter (same key) (distinct same xs) ≡ []
    gone [] h = refl
    gone (x ∷ xs) h = grind (arith, others_stay x (distinct same xs), gone xs)

  -- a key stands among keys, as each of these in order does
  abbrev pub Stands : List K → K → Type 0
  Stands keys key = list_any (same key) keys ≡ true

  pub keys_stand : (keys : List K) → All (Stands keys) (in_order less (distinct same keys))
  keys_stand keys =
      all_in_order (Stands keys) _ (distinct same keys)
      (all_distinct (Stands keys) _ _ (λ i d lt. any_at _ _ i d lt ((decides _ _).1 refl)))

  -- the entries of both sides' keys
  module _ (left right : List K) where
    abbrev of_key : K → List (Entry K)
    of_key key = entries_of key (rows_of_key same left key) (rows_of_key same right key)

    entry_keys : (key : K) → All (λ e. e.key ≡ key) (of_key key)
    entry_keys = search keyed

    entries_of_key : (key : K) → list_any (same key) (left ++ right) ≡ true → filter (λ e. same key e.key) (outer_entries same less left right) ≡ of_key key
    entries_of_key key stands = cc (parts_apart (λ e. e.key) of_key entry_keys key (in_order less (distinct same (left ++ right))), in_order_keeps key (distinct same (left ++ right)), once key (left ++ right) stands, append-nil (of_key key))

    pub outer_join : IsOuterJoin same less left right (lists_of (outer_entries same less left right))
    outer_join = record {
      entries = outer_entries same less left right;
      lists = refl;
      in_order = rises_at (λ e f. less e.key f.key) (key_weak (λ e. e.key) of_key entry_keys) (outer_entries same less left right) (parts_rise (λ e. e.key) of_key entry_keys _ (in_order_ascends less weak (distinct same (left ++ right))));
      as_often = grind (arith, entries_of_key, length-entries_of);
      no_others =
          all_flat (λ e. Stands (left ++ right) e.key) _ _
          (λ key stands. λ i d lt. ap (λ k. list_any (same k) (left ++ right)) (entry_keys key i d lt) ∙ stands)
          (in_order less (distinct same (left ++ right))) (keys_stand _);
      rows_in_order = entries_of_key;
    }

  -- Rows in the order of their keys are the rows of one key after the other, and so are their runs.

  back : (x y : K) → not (same x y) ≡ true → not (same y x) ≡ true
  back = grind arith

  -- keys that differ
  put_in_apart : (x : K) (ys : List K) → All (λ y. not (same y x) ≡ true) ys → Apart same ys → Apart same (put_in less x ys)
  put_in_apart x [] here up = search
  put_in_apart x (y ∷ ys) here up = elim (less y x) as (λ b. Apart same (cond b (y ∷ put_in less x ys) (x ∷ y ∷ ys))) [
    | true ↦ (
      all_put_in (λ z. not (same z y) ≡ true) less x ys (back y x (here 0 y (omega arith))) up.0,
      put_in_apart x ys (All-tail (λ z. not (same z x) ≡ true) y ys here) up.1,
    )
    | false ↦ (here, up)
  ]

  order_apart : (xs : List K) → Apart same xs → Apart same (in_order less xs)
  order_apart [] _ = tt
  order_apart (x ∷ xs) up = put_in_apart x (in_order less xs) (search all_in_order) (order_apart xs up.1)

  module _ (all : List K) (d : K) where
    abbrev pub key_at : ℕ → K
    key_at row = slice_index_or all row d

    abbrev pub before : ℕ → ℕ → Bool
    before i j = less (key_at i) (key_at j)

    before_weak : IsStrictWeakOrder before
    before_weak = grind arith

    -- the rows of a key
    abbrev pub part : K → List ℕ
    part k = rows_where (same k) 0 all

    abbrev pub keys : List K
    keys = keys_in_order same less all

    abbrev Carry : K → List ℕ → Type 0
    Carry k rows = All (λ row. key_at row ≡ k) rows

    carried : (k : K) (at : ℕ) (xs : List K) → ((i : ℕ) → i < length xs → key_at (at + i) ≡ slice_index_or xs i d) → Carry k (rows_where (same k) at xs)
    carried k _ [] there = grind arith
    carried k at (x ∷ xs) there =
        let here : key_at at ≡ x = ap key_at (omega arith) ∙ there 0 (omega arith) in
        grind (arith, carried k (at + 1) xs (λ i lt. ap key_at (omega arith) ∙ there (suc i) (omega arith)))

    there : (i : ℕ) → i < length all → key_at (0 + i) ≡ slice_index_or all i d
    there = grind arith

    pub part_carries : (k : K) → Carry k (part k)
    part_carries k = carried k 0 _ there

    one_key : (k : K) → filter (λ row. same k (key_at row)) (flat_map part keys) ≡ part k
    one_key k =
        parts_apart _ _ part_carries k keys
        ∙ ap (flat_map part) (in_order_keeps k (distinct same all))
        ∙ (grind (arith, once, append-nil, gone, rows_none))

    -- rows in order, where ties carry the same key
    module _ (tied : (i j : ℕ) → ties less (key_at i) (key_at j) ≡ same (key_at i) (key_at j)) where
      stable : IsStableBy before (range_with_len 0 (length all)) (flat_map part keys)
      stable x =
          (λ q. filter (λ row. tied x row q) (flat_map part keys))
          ∙ one_key _
          ∙ sym (rows_filtered _ key_at d 0 all there)
          ∙ (λ q. filter (λ row. sym (tied x row) q) (range_with_len 0 (length all)))

      pub rows_are : in_order before (range_with_len 0 (length all)) ≡ flat_map part keys
      rows_are =
          one_order _ before_weak (flat_map part keys) _
          (parts_rise key_at _ part_carries keys (search in_order_ascends))
          (search in_order_ascends)
          (λ x. in_order_ties _ before_weak (range_with_len 0 (length all)) x ∙ sym (stable x))

    -- their runs
    abbrev pub alike : ℕ → ℕ → Bool
    alike i j = same (key_at i) (key_at j)

    abbrev NotFirst : K → List ℕ → Type 0
    NotFirst k [] = Unit {0}
    NotFirst k (row ∷ rows) = same k (key_at row) ≡ false

    one_run : (count : ℕ) (k : K) (run : Run) (row : ℕ) (rows rest : List ℕ) → key_at row ≡ k → Carry k rows → NotFirst k rest
        → runs_from alike count run (row ∷ (rows ++ rest)) ≡ gathered count run (row ∷ rows) ∷ runs_from alike count no_run rest
    one_run _ k _ _ [] _ is carry other = grind arith
    one_run count k run row (next ∷ rows) rest is carry other =
        let here : key_at next ≡ k = carry 0 next (omega arith) in
        grind (arith, one_run count k (with_row count run row) next rows rest here (All-tail (λ r. key_at r ≡ k) next rows carry) other)

    one_part : (count : ℕ) (k : K) (rows rest : List ℕ) → 0 < length rows → Carry k rows → NotFirst k rest → runs_from alike count no_run (rows ++ rest) ≡ gathered count no_run rows ∷ runs_from alike count no_run rest
    one_part _ k [] _ some carry other = grind arith
    one_part _ k (row ∷ rows) _ _ carry other = one_run _ k no_run row _ _ (carry 0 row (omega arith)) (All-tail (λ r. key_at r ≡ k) row rows carry) other

    first_other : (k y : K) (rows rest : List ℕ) → 0 < length rows → Carry y rows → same k y ≡ false → NotFirst k (rows ++ rest)
    first_other k y [] _ some carry other = grind arith
    first_other k y (row ∷ rows) _ some carry other = cc (carry 0 row (omega arith))

    abbrev pub HaveRows : List K → Type 0
    HaveRows ks = All (λ k. 0 < length (part k)) ks

    not_next : (k : K) (ks : List K) → All (λ y. not (same y k) ≡ true) ks → HaveRows ks → NotFirst k (flat_map part ks)
    not_next k [] _ _ = tt
    not_next k (y ∷ ys) other some =
        first_other k y _ _ (some 0 y (omega arith)) (part_carries y) (grind (arith, other 0 y (omega arith)))

    runs_apart : (count : ℕ) (ks : List K) → Apart same ks → HaveRows ks → runs_from alike count no_run (flat_map part ks) ≡ map (λ k. gathered count no_run (part k)) ks
    runs_apart _ [] _ _ = refl
    runs_apart count (k ∷ ks) apart some =
        let later : HaveRows ks = All-tail (λ k. 0 < length (part k)) k ks some in
        cc (one_part count k (part k) (flat_map part ks) (some 0 k (omega arith)) (part_carries k) (not_next k ks apart.0 later), runs_apart count ks apart.1 later)

    pub have_rows : HaveRows keys
    have_rows = grind (arith, rows_some, keys_stand)

    pub runs_are : (count : ℕ) → runs_from alike count no_run (flat_map part keys) ≡ map (λ k. gathered count no_run (part k)) keys
    runs_are = search (runs_apart, order_apart, apart_distinct, have_rows)

  -- The rows of each side in a run, and the entries of runs.

  module _ (a b : List K) (d : K) where
    abbrev part_of_both : K → List ℕ
    part_of_both k = rows_where (same k) 0 (a ++ b)

    abbrev pairs_of_key : K → List (Entry K)
    pairs_of_key k = entries_of k (rows_where (same k) 0 a) (rows_where (same k) 0 b)

    abbrev pub run_at : K → Run
    run_at k = gathered (length a) no_run (part_of_both k)

    abbrev SomeRows : List K → Type 0
    SomeRows ks = HaveRows (a ++ b) d ks

    abbrev at_row : ℕ → K
    at_row = key_at (a ++ b) d

    module _ (k : K) where
      abbrev of_left : List ℕ
      of_left = rows_where (same k) 0 a

      abbrev of_right : List ℕ
      of_right = rows_where (same k) (0 + length a) b

      split : part_of_both k ≡ of_left ++ of_right
      split = rows_where-append _ 0 a b

      sizes : ((run_at k).lefts ≡ length of_left) × ((run_at k).rights ≡ length of_right)
      sizes = grind (arith, gathered_append, lefts_gathered, rights_gathered, rows_inside, rows_above, split)

      shifted : map (λ row. row - length a) of_right ≡ rows_where (same k) 0 b
      shifted = search rows_shifted

      row_of_key : 0 < length (part_of_both k) → at_row (run_at k).row ≡ k
      row_of_key some = some_row _ (λ row. at_row row ≡ k) _ some (part_carries (a ++ b) d k)

      key_entries : (rest : List ℕ) → 0 < length (part_of_both k) → map (rekeyed at_row) (entries_in (length a) (run_at k) (part_of_both k ++ rest)) ≡ pairs_of_key k
      key_entries rest some = grind (arith, split, one_entries (length a) of_left of_right rest (run_at k), sizes, rekeyed_of, row_of_key some, shifted)

      key_counted : count_in (run_at k) ≡ length (pairs_of_key k)
      key_counted = grind (arith, sizes, length-entries_of, shifted, length-map)

      key_rows : rows_in (run_at k) ≡ length (part_of_both k)
      key_rows = grind (arith, length-append, split, sizes.0, sizes.1)

    pub entries_are : (ks : List K) → SomeRows ks → map (rekeyed at_row) (run_entries (length a) (map run_at ks) (flat_map part_of_both ks)) ≡ flat_map pairs_of_key ks
    entries_are [] _ = refl
    entries_are (k ∷ ks) some =
        let rest = flat_map part_of_both ks in
        grind (arith, split k, others_behind (length a) (of_left k) (of_right k) rest (run_at k), sizes k, map-append (rekeyed at_row) (entries_in (length a) (run_at k) (part_of_both k ++ rest)) (run_entries (length a) (map run_at ks) rest), key_entries k rest, some 0 k, entries_are ks (All-tail (λ x. 0 < length (part_of_both x)) k ks some))

    pub counted_is : (ks : List K) → counted (map run_at ks) ≡ length (flat_map pairs_of_key ks)
    counted_is [] = refl
    counted_is (k ∷ ks) = search (sum_by-cons, key_counted, length-append, counted_is ks)

    pub total_is : (ks : List K) → total (map run_at ks) ≡ length (flat_map part_of_both ks)
    total_is [] = refl
    total_is (k ∷ ks) = search (sum_by-cons, key_rows, length-append, total_is ks)

    runs_inside : (ks : List K) → SomeRows ks → All (λ run. run.row < length (a ++ b)) (map run_at ks)
    runs_inside [] some = grind arith
    runs_inside (k ∷ ks) some =
        All-cons (λ run. run.row < length (a ++ b)) (run_at k) (map run_at ks)
        (some_row _ (λ row. row < length (a ++ b)) _ (some 0 k (omega arith)) (rows_inside _ _))
        (runs_inside ks (All-tail (λ x. 0 < length (part_of_both x)) k ks some))

    pub entries_inside : (ks : List K) (rows : List ℕ) → SomeRows ks → All (λ e. e.key < length (a ++ b)) (run_entries (length a) (map run_at ks) rows)
    entries_inside ks _ some = entries_keep _ (λ row. row < length (a ++ b)) _ _ (runs_inside ks some)

-- Tuples are equal by `==` exactly where they are the same.

pub tuple_decides : (a b : List Label) → Decides (same_tuple a b) (a ≡ b)
tuple_decides = pointwise_decides label_decides

pub tuples_decide : (a b : List (List Label)) → Decides (pointwise same_tuple a b) (a ≡ b)
tuples_decide = pointwise_decides tuple_decides

-- tuples of given labels tie in their order exactly where they are the same
module _ (texts : List (List ℕ)) (distinct : AreDistinct texts) where
  abbrev Given : List Label → Type 0
  Given tuple = All (IsGivenLabel texts) tuple

  tuple_one : (x y : List Label) → Given x → Given y → tuple_seen texts x ≡ tuple_seen texts y → x ≡ y
  tuple_one [] [] g h e = refl
  tuple_one (x ∷ xs) (y ∷ ys) g h e =
      cc (label_one texts x y distinct (g 0 x (omega arith)) (h 0 y (omega arith)) cc, tuple_one xs ys (All-tail (IsGivenLabel texts) x xs g) (All-tail (IsGivenLabel texts) y ys h) cc)
  tuple_one _ _ g h e = cc

  pub tuple_tied : (x y : List Label) → Given x → Given y → ties (tuple_less texts) x y ≡ same_tuple x y
  tuple_tied x y g h =
      grind (arith, (lists_total label_total).antisymm (tuple_seen texts y) (tuple_seen texts x), tuple_one x y g h, slice_cmp-IsAntisymmetric value_same (tuple_seen texts x) (tuple_seen texts y), tied_itself (lists_total label_total) (tuple_seen texts x), tuple_decides x y)

-- rows that carry one tuple, and rows that don't
module _ (tuples : List (List Label)) where
  pub rows_differ : (i j level : ℕ) (x y : Label) → x ≡ label_of_row tuples i level → y ≡ label_of_row tuples j level → (x ≡ y → ⊥) → false ≡ same_row tuples i j
  rows_differ = grind (arith, tuple_decides)

  pub rows_agree : (levels i j : ℕ) → HaveLevels levels tuples → i < length tuples → j < length tuples → ((k : ℕ) → k < levels → label_of_row tuples i k ≡ label_of_row tuples j k) → true ≡ same_row tuples i j
  rows_agree levels i j alike hi hj each =
      let x = tuple_of_row tuples i in
      let y = tuple_of_row tuples j in
      let ex : length x ≡ levels = alike i [] hi in
      let ey : length y ≡ levels = alike j [] hj in
      sym ((tuple_decides x y).1 (ext_get_or Na x y (ex ∙ sym ey) (λ k lt. each k (omega arith))))

-- What is answered for an outer join is one.

module _ (texts : List Text) where
  pub tuple_weak : IsStrictWeakOrder (tuple_less texts)
  tuple_weak = ranks_by (lists_total label_total) (tuple_seen texts)

  -- Places in the order of what stands there.

  -- the labels of a row are its tuple's
  module _ (tuples : List (List Label)) (levels : ℕ) where
    row_there : (row : ℕ) → HaveLevels levels tuples → row < length tuples → labels_of texts tuples levels row ≡ tuple_seen texts (slice_index_or tuples row [])
    row_there row alike lt =
        let size = alike row [] lt in
        ext_get_or (label_datum texts Na) _ _ (grind (arith, length-map, length-map-range_with_len))
        (λ i inside. grind (arith, get_or-map-range_with_len, get_or-map (label_datum texts), length-map-range_with_len))

    pub row_agrees : (i j : ℕ) → HaveLevels levels tuples → i < length tuples → j < length tuples
        → row_less texts tuples levels i j ≡ tuple_less texts (slice_index_or tuples i []) (slice_index_or tuples j [])
    row_agrees = search row_there

    -- a row's label at a level
    pub label_there : (row level : ℕ) (d : LabelValue) → level < levels → slice_index_or (labels_of texts tuples levels row) level d ≡ label_datum texts (label_in level (slice_index_or tuples row []))
    label_there = grind (arith, get_or-map-range_with_len)

    pub labels_counted : (row : ℕ) → length (labels_of texts tuples levels row) ≡ levels
    labels_counted = search length-map-range_with_len

  -- The rows of both sides in order, their runs and the entries of these are the outer join.

  given_row : (tuples : List (List Label)) (row : ℕ) → AreGivenTuples texts tuples → All (IsGivenLabel texts) (tuple_of_row tuples row)
  given_row [] _ given = grind arith
  given_row (t ∷ ts) zero given = given 0 t (omega arith)
  given_row (t ∷ ts) (suc row) given = given_row ts _ (All-tail (λ tuple. All (IsGivenLabel texts) tuple) t ts given)

  module _ (a b : List (List Label)) where
    abbrev outer_of_both : List (Entry (List Label))
    outer_of_both = outer_entries same_tuple (tuple_less texts) a b

    pub law_of : (most : ℕ) (result : Result Joined AlignFault) → AlignsBy lists_seen result (within most outer_of_both) → IfOk result (λ joined. IsOuterJoin same_tuple (tuple_less texts) a b (lists_seen joined))
    law_of most (Ok joined) meant = grind (arith, outer_join same_tuple (tuple_less texts) tuple_decides tuple_weak a b)
    law_of _ (Err fault) _ = tt

    module _ (levels : ℕ) (distinct : AreDistinct texts) (alike : HaveLevels levels (a ++ b)) (given : AreGivenTuples texts (a ++ b)) (rows : List ℕ) (sorted : rows ≡ in_order (row_less texts (a ++ b) levels) (range_with_len 0 (length (a ++ b)))) where
      abbrev IsRow : ℕ → Type 0
      IsRow row = row < length (a ++ b)

      pub order_inside : All IsRow rows
      order_inside = subst (All IsRow) (sym sorted) (search (all_in_order, below_range))

      abbrev keys_of_both : List (List Label)
      keys_of_both = keys_in_order same_tuple (tuple_less texts) (a ++ b)

      abbrev rows_of_one : List Label → List ℕ
      rows_of_one key = rows_where (same_tuple key) 0 (a ++ b)

      tied : (i j : ℕ) → ties (tuple_less texts) (tuple_of_row (a ++ b) i) (tuple_of_row (a ++ b) j) ≡ same_row (a ++ b) i j
      tied = search (tuple_tied, given_row)

      rows_by_key : rows ≡ flat_map rows_of_one keys_of_both
      rows_by_key =
          sorted
          ∙ in_order_same _ (row_less texts (a ++ b) levels) (λ i j. tuple_less texts (tuple_of_row (a ++ b) i) (tuple_of_row (a ++ b) j)) (λ i j hi hj. row_agrees _ _ i j alike hi hj)
          (range_with_len 0 (length (a ++ b))) (below_range _)
          ∙ rows_are _ _ tuple_decides tuple_weak _ [] tied

      module _ (runs : List Run) (made : runs ≡ runs_from (same_row (a ++ b)) (length a) no_run rows) where
        abbrev run_of_key : List Label → Run
        run_of_key = run_at same_tuple (tuple_less texts) tuple_decides tuple_weak a b []

        runs_by_key : runs ≡ map run_of_key keys_of_both
        runs_by_key = cc (rows_by_key, runs_are same_tuple (tuple_less texts) tuple_decides tuple_weak (a ++ b) [] (length a))

        pub counted_outer : counted runs ≡ length outer_of_both
        counted_outer = ap counted runs_by_key ∙ counted_is _ _ tuple_decides tuple_weak a b [] keys_of_both

        pub total_outer : total runs ≤ length rows
        total_outer =
            let size : total runs ≡ length rows = cc (runs_by_key, total_is same_tuple (tuple_less texts) tuple_decides tuple_weak a b [] keys_of_both, rows_by_key) in
            omega arith

        abbrev entries : List (Entry ℕ)
        entries = run_entries (length a) runs rows

        entries_outer : map (rekeyed (tuple_of_row (a ++ b))) entries ≡ outer_of_both
        entries_outer =
            (λ i. map (rekeyed (tuple_of_row (a ++ b))) (run_entries (length a) (runs_by_key i) (rows_by_key i)))
            ∙ entries_are _ _ tuple_decides tuple_weak a b [] keys_of_both (search (have_rows, tuple_decides, tuple_weak))

        module _ (out : JoinedRows) (seen : entries_seen out ≡ lists_of entries) where
          pub keys_inside : All IsRow out.rows.items
          keys_inside = grind (arith, seen, All-map IsRow (λ (e : Entry ℕ). e.key) entries (rw runs_by_key (entries_inside same_tuple (tuple_less texts) tuple_decides tuple_weak a b [] keys_of_both rows (have_rows same_tuple (tuple_less texts) tuple_decides tuple_weak (a ++ b) []))))

          lists_outer : entries_shown (a ++ b) out ≡ lists_of outer_of_both
          lists_outer = grind (arith, map-map, entries_outer)

          -- those of few enough are shown
          pub outer_shown : (most : ℕ) → counted runs ≤ most → within most outer_of_both ≡ Ok (entries_shown (a ++ b) out)
          outer_shown = search (few_enough, counted_outer, lists_outer)

-- Rows of one level are their labels.

only_label : (tuple : List Label) → length tuple ≡ 1 → label_in 0 tuple ∷ [] ≡ tuple
only_label (l ∷ []) _ = refl
only_label _ one = search

pub single_rows : (tuples : List (List Label)) (rows : List ℕ) → HaveLevels 1 tuples → All (λ row. row < length tuples) rows → single_tuples (map (λ row. label_of_row tuples row 0) rows) ≡ tuples_at tuples rows
single_rows _ [] alike inside = refl
single_rows tuples (row ∷ rows) alike inside =
    let here = only_label _ (alike row [] (inside 0 0 (omega arith))) in
    search (single_rows tuples rows alike (λ k d lt. inside (suc k) d (omega arith)))
