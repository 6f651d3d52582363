-- The rows of two frames that have equal keys, with texts by number and with texts.
use Rattle.{frame_parts.proofs.Common.{arith, ◌≡◌, ◌∙◌, ◌+◌, ap, refl, sym, ℕ, Bool, true, false, cond, List, [], ◌∷◌, ◌++◌, map, All, Option, Some, None, ◌≤◌, length, Result, Ok, Err, map-append, length-map, All-head, All-tail, All-map, length-range_with_len, nat_tests, IfSome, IfOk, flat_map, Text, first_where, first_repeated, All-append as all_append, all_distinct, first_map, distinct_map, Label, AreDistinct, CellColumn, IsPlaceOf, HaveLevels, tuple_less, IsSettled, NumberedTable, Table, table_value, tuple_value, Entry, same_tuple, tuple_by_number, tuples_settled, labels_value, Refuses, settled_by}, column_core.{proofs.cells.Common.{option_map, Side as MeantSide}, specs.cells.FaultOf.{side_of}}, factorize.specs.group.sorting.Sorting.{in_order}, meaning_join.{specs.{pick.Rows.{rows_where}, align.Joins.{Entry as KeyEntry, entries_of, keys_in_order}, declared.{How.{How, TheVariants.{Outer}}, Validate.{Validate}}, Pairs.{pair, partners, pairs_from, pair_of_entry, key_pairs, RepeatedKey, repeated_on, repeated_key, Pair, JoinRefusal, not_one_to_one, within, joined_within}}, proofs.{pick.RowLaws.{rows_where-map}, align.OrderLaws.{all_in_order, in_order_map}}}, merge_concat.{proofs.CodeLaws.{with_seen}, specs.{declared.{fault.MergeFault.{MergeFault}, pairs.Pairs.{Pairs}}, Pairs.{JoinsBy}, Joining.{IsJoinOf}}}, cell_core.specs.declared.{cell.Side.{Side}, code.Code.TheVariants.{BadMerge}}, factorize.{specs.{row_keys.Keys.{same_tuple as same_numbers}, Keys.{column_keys, levels_of}}, proofs.LabelLaws.{columns_alike}}, frame_labels.{specs.method.{Groups.{row_keys}, Merge.{unless_twice}}, proofs.{IndexingLaws.{all_rows, tuples_seen}, KeyLaws.{numbered_keys}}}, frame_merge.specs.{declared.keys.MergeKeys.{MergeKeys}, Keys.{keys_value}, Rows.{repeated_in, pairs_in, met_result, AreRowsMet, MeetsBy}}}
use Rattle.meaning_join.specs.Pairs as join
use Rattle.merge_concat.specs.declared.fault.MergeFault.TheVariants as fault

abbrev pub repeated_seen : {X Y : Type 0} → (X → Y) → RepeatedKey X → RepeatedKey Y
repeated_seen f k = record { side = k.side; key = f k.key }

abbrev on_side : {X : Type 0} → MeantSide → X → RepeatedKey X
on_side s key = record { side = s; key = key }

module _ {X Y : Type 0} (f : X → Y) (P : X → Type 0) (same : X → X → Bool) (same' : Y → Y → Bool) (equal : (x y : X) → P x → P y → same' (f x) (f y) ≡ same x y) where
  rows_seen : (key : X) (keys : List X) → P key → All P keys → rows_where (same' (f key)) 0 (map f keys) ≡ rows_where (same key) 0 keys
  rows_seen = search rows_where-map

  from_seen : (stays : Bool) (row : ℕ) (left right : List X) → All P left → All P right → pairs_from same' stays row (map f left) (map f right) ≡ pairs_from same stays row left right
  from_seen _ _ [] _ _ _ = refl
  from_seen stays row (key ∷ keys) _ lefts rights = λ i.
      map (pair (Some row)) (partners stays (rows_seen _ _ (All-head P _ _ lefts) rights i)) ++ from_seen stays (row + 1) keys _ (All-tail P _ _ lefts) rights i

  -- a key that stands twice
  twice_seen : (keys : List X) → All P keys → first_repeated same' (map f keys) ≡ option_map f (first_repeated same keys)
  twice_seen = search (first_map, rows_seen)

  on_seen : (s : MeantSide) (b : Bool) (keys : List X) → All P keys → repeated_on s same' b (map f keys) ≡ option_map (repeated_seen f) (repeated_on s same b keys)
  on_seen = grind (arith, twice_seen)

  again_seen : (once : Validate) (left right : List X) → All P left → All P right → repeated_key same' once (map f left) (map f right) ≡ option_map (repeated_seen f) (repeated_key same once left right)
  again_seen = grind (arith, on_seen)

  module _ (less : X → X → Bool) (less' : Y → Y → Bool) (below : (x y : X) → P x → P y → less' (f x) (f y) ≡ less x y) (left right : List X) (lefts : All P left) (rights : All P right) where
    abbrev entries : X → List (KeyEntry X)
    entries key = entries_of key (rows_where (same key) 0 left) (rows_where (same key) 0 right)

    abbrev of_key' : Y → List (KeyEntry Y)
    of_key' key = entries_of key (rows_where (same' key) 0 (map f left)) (rows_where (same' key) 0 (map f right))

    key_seen : (key : X) → P key → map pair_of_entry (of_key' (f key)) ≡ map pair_of_entry (entries key)
    key_seen = search (rows_seen, with_seen)

    keys_seen : (keys : List X) → All P keys
        → map pair_of_entry (flat_map of_key' (map f keys)) ≡ map pair_of_entry (flat_map entries keys)
    keys_seen [] _ = refl
    keys_seen (key ∷ keys) all =
        map-append _ (of_key' (f key)) (flat_map of_key' (map f keys))
        ∙ (λ i. key_seen key (All-head P _ _ all) i ++ keys_seen keys (All-tail P _ _ all) i)
        ∙ sym (map-append _ (entries key) (flat_map entries keys))

    outer_seen : key_pairs same' less' Outer (map f left) (map f right) ≡ key_pairs same less Outer left right
    outer_seen =
        let both : All P (left ++ right) = search all_append in
        let once = all_distinct P _ _ both in
        let keys =
        ap (keys_in_order same' less') (sym (map-append f left right)) ∙ ap (in_order less') (distinct_map f P same same' equal _ both) ∙ in_order_map P f _ _ below _ once in
        cc (keys_seen _ (all_in_order P _ _ once))

    pairs_seen : (how : How) → key_pairs same' less' how (map f left) (map f right) ≡ key_pairs same less how left right
    pairs_seen = grind (arith, from_seen, outer_seen)

-- a key that stands twice is one of a side's
module _ {X : Type 0} (P : X → Type 0) (same : X → X → Bool) where
  first_keeps : (p : X → Bool) (xs : List X) → All P xs → IfSome (first_where p xs) P
  first_keeps p [] _ = tt
  first_keeps p (x ∷ xs) all = elim (p x) as (λ b. IfSome (cond b (Some x) (first_where p xs)) P) [ true ↦ All-head P x _ all | false ↦ first_keeps p xs (All-tail P x _ all) ]

  on_keeps : (s : MeantSide) (b : Bool) (keys : List X) → All P keys → IfSome (repeated_on s same b keys) (λ k. P k.key)
  on_keeps s false _ _ = tt
  on_keeps s true _ all = named _ (search first_keeps)
    where
      named : (o : Option X) → IfSome o P → IfSome (option_map (on_side s) o) (λ k. P k.key)
      named None h = tt
      named (Some key) h = h

  again_keeps : (once : Validate) (left right : List X) → All P left → All P right → IfSome (repeated_key same once left right) (λ k. P k.key)
  again_keeps = grind (arith, on_keeps)

module _ (of_left of_right : List CellColumn) (m n : ℕ) where
  abbrev both : List (List Label)
  both = column_keys of_left m ++ column_keys of_right n

  pub both_fit : (levels : ℕ) → length of_left ≡ levels → length of_right ≡ levels → levels ≤ 4 → HaveLevels (levels_of both) both × (levels_of both ≤ 4)
  both_fit levels lefts rights few =
      let have : HaveLevels levels both = search (all_append, columns_alike) in
      grind arith

module _ {K : Type 0} where
  abbrev unless : Option (RepeatedKey K) → Result (List Pair) (JoinRefusal K) → Result (List Pair) (JoinRefusal K)
  unless again rest = join.unless_repeated again rest

  joined_ok : (most : ℕ) (again : Option (RepeatedKey K)) (ps pairs : List Pair) → unless again (within most ps) ≡ Ok pairs → (again ≡ None) × (pairs ≡ ps) × (length ps ≤ most)
  joined_ok = grind (arith, nat_tests)

  joined_twice : (most : ℕ) (again : Option (RepeatedKey K)) (ps : List Pair) (k : RepeatedKey K) → unless again (within most ps) ≡ Err (not_one_to_one k) → again ≡ Some k
  joined_twice = grind arith

-- the join by numbers is the join by texts
module _ (texts : List Text) (distinct : AreDistinct texts) (l r : NumberedTable) (of_left : IsSettled table_value texts l) (of_right : IsSettled table_value texts r) (keys : MergeKeys) (how : How) (once : Validate) where
  abbrev L : Table
  L = table_value texts l

  abbrev R : Table
  R = table_value texts r

  abbrev kl : List (List Label)
  kl = numbered_keys l keys.left

  abbrev kr : List (List Label)
  kr = numbered_keys r keys.right

  keys_settled : (t : NumberedTable) (places : List ℕ) → IsSettled table_value texts t → All (IsSettled tuple_value texts) (numbered_keys t places)
  keys_settled t places given = tuples_settled _ _ (settled_by table_value labels_value (λ v. row_keys v places) _ t _ (λ ts. sym (tuples_seen _ t _)) given)

  kl_settled : All (IsSettled tuple_value texts) kl
  kl_settled = keys_settled l _ of_left

  kr_settled : All (IsSettled tuple_value texts) kr
  kr_settled = keys_settled r _ of_right

  equal : (x y : List Label) → IsSettled tuple_value texts x → IsSettled tuple_value texts y → same_tuple (tuple_value texts x) (tuple_value texts y) ≡ same_numbers x y
  equal = search tuple_by_number

  abbrev again : Option (RepeatedKey (List Label))
  again = repeated_key same_numbers once kl kr

  abbrev pairs : List Pair
  pairs = key_pairs same_numbers (tuple_less texts) how kl kr

  pairs_are : pairs_in how L R (keys_value keys) ≡ pairs
  pairs_are =
      rw (← tuples_seen texts l keys.left, ← tuples_seen texts r keys.right) (pairs_seen _ _ _ _ equal _ _ (λ x y f g. refl) _ _ kl_settled kr_settled _)

  again_is : repeated_in once L R (keys_value keys) ≡ option_map (repeated_seen (tuple_value texts)) again
  again_is =
      rw (← tuples_seen texts l keys.left, ← tuples_seen texts r keys.right) (again_seen _ _ _ _ equal _ _ _ kl_settled kr_settled)

  none_again : again ≡ None → repeated_in once L R (keys_value keys) ≡ None
  none_again is = cc again_is

  twice : (side : Side) (key : List Label) → again ≡ Some record { side = side_of side; key = key } → (rest : Result Entry _) → Refuses texts (BadMerge side key) (unless_twice (repeated_in once L R (keys_value keys)) rest)
  twice _ _ is rest = (
    grind (arith, again_is),
    λ more. cc ((rw is at (again_keeps (IsSettled tuple_value texts) same_numbers once kl kr kl_settled kr_settled)) more),
  )

  module _ (lks rks : List (List Label)) (lks_are : lks ≡ kl) (rks_are : rks ≡ kr) where
    abbrev by_numbers : ℕ → Result (List Pair) (JoinRefusal (List Label))
    by_numbers most = joined_within most same_numbers (tuple_less texts) how once lks rks

    by_rows : (most : ℕ) → by_numbers most ≡ joined_within most same_numbers (tuple_less texts) how once kl kr
    by_rows most = λ i. joined_within most same_numbers (tuple_less texts) how once (lks_are i) (rks_are i)

    pub joins_meet : (most : ℕ) (made : Result Pairs MergeFault) → JoinsBy made (by_numbers most) → MeetsBy texts most (met_result made) (repeated_in once L R (keys_value keys)) (pairs_in how L R (keys_value keys))
    joins_meet most (Ok made) is =
        let h = joined_ok _ _ _ _ (sym (by_rows most) ∙ is.are) in
        (none_again h.0, search pairs_are)
    joins_meet most (Err (fault.NotOneToOne side key)) is = twice _ _ (joined_twice _ _ _ _ (sym (by_rows most) ∙ is))
    joins_meet _ (Err (fault.DuplicateLabels key)) is = absurd is
    joins_meet _ (Err fault.MixedKinds) is = absurd is
    joins_meet most (Err fault.TooLarge) is = grind (arith, nat_tests, by_rows most, again_is, pairs_are)
    joins_meet _ (Err fault.NoMemory) is = tt

-- the rows that are joined are those of their sides
module _ (l r : NumberedTable) (keys : MergeKeys) (how : How) where
  rows_of : (t : NumberedTable) (places : List ℕ) → length (numbered_keys t places) ≡ length t.labels
  rows_of = search (length-map, all_rows, length-range_with_len)

  rows_met : (made : Pairs) → IsJoinOf same_numbers how (numbered_keys l keys.left) (numbered_keys r keys.right) made → AreRowsMet l r made
  rows_met _ is =
      record {
        left = rw is.seen.left (All-map (IsPlaceOf (length l.labels)) (λ p. p.left) _ (rw (rows_of l keys.left) at is.join.left_rows));
        right = rw is.seen.right (All-map (IsPlaceOf (length r.labels)) (λ p. p.right) _ (rw (rows_of r keys.right) at is.join.right_rows));
        same = grind (arith, length-map);
      }

  pub joins_inside : (lks rks : List (List Label)) → lks ≡ numbered_keys l keys.left → rks ≡ numbered_keys r keys.right → (made : Result Pairs MergeFault)
      → IfOk made (IsJoinOf same_numbers how lks rks) → IfOk (met_result made) (λ met. IfSome met (AreRowsMet l r))
  joins_inside = grind (arith, rows_met)
