-- How often a pair stands among pairs.
use Rattle.{
  column_core.{proofs.cells.Common.{rules, ◌≡◌, ◌<◌, ◌+◌, ◌*◌, ◌&&◌, ◌++◌, refl, arith, ℕ, zero, suc, Bool, not, cond, List, [], ◌∷◌, map, filter, length, length-append, slice_index_or, nat_eq, Option, Some, None, ◌∙◌, ◌≤◌, sym, true, All, inl, inr, take, ap, max, Result, Ok, Err, slice_index, set, min, nat_lt, subst, false, drop, ne_eqb, eq-eqb, false≢true, eqb-true, cases_lt, eqb-false, map-id, map-append, append-nil, take_more, length-take-le, length-map, length-set, get_or-set_same, get_or-set_other, filter-append, All-head, All-tail, All-map, All-take, All-drop, sum_by-cons, flat_map-map, list_any-append, flat_map-append, length-flat_map, map-range_with_len_more, length-range_with_len, get_or-range_with_len, fill_by_all, length-map-range_with_len, map-map, take-append_seam, drop-append_seam, list_any, flat_map, range_with_len, position_or_len, option_map, IfOk, IsEquivalence, IsStrictWeakOrder, Decides, All-append as all_append, Label, Text, distinct, Side}, specs.Moves.{IsPlaceOf}},
  std.{proofs.{Common.{lt-ltb, le-ltb}, lemmas.List.{append_assoc, Sums.{sum_by_more_le, sum_by-le-sum_by, sum_by_push}, FromFn.{take-map-range_with_len}}}, specs.List.{sum_by}},
  meaning_join.{specs.{align.{Joins.{or_gap, Entry, entries_with, entries_of, keys_in_order}, Targets.{first_where, first_repeated}}, pick.Rows.{rows_where}, Pairs.{Pair, pair, exchanged, partners, pairs_from, JoinRefusal, within, too_large, pair_of_entry, key_pairs, RepeatedKey, repeated_key, unless_repeated, joined_within, not_one_to_one, repeated_on, or_else}, declared.{How.{How, TheVariants.{Inner, Left, Right, Outer}}, Validate.{Validate}}}, proofs.{align.OrderLaws.{all_flat, all_in_order}, pick.{RowLaws.{rows_where-map}, InsideLaws.{rows_inside}}}},
  merge_concat.specs.{Joining.{same_row, how_often, once_if, same_pair, turned, AreAlike, IsJoin, IsJoinOf, JoinsAreAlike, SidesExchange, ExchangeChangesOrder, keeps_left, keeps_right}, declared.{pairs.{Pairs.{Pairs}, PairLists.{PairLists}}, fault.MergeFault.{MergeFault}}, Codes.{pairs_with, pairs_of, pairs_at, outer_pairs, count_of, count_with, counted_by_row, counted_by_key, repeated_from, AreCounts, keys_of, is_outer, code_pairs, repeated_in}, Pairs.{AreListed, HasMore, IsJoined, JoinsBy}},
  cell_core.specs.declared.cell.Label.TheVariants.{Na},
  row_keys.{specs.{Keys.{same_tuple, place_among}, Buckets.{rows_of_code, buckets_of}}, proofs.{PartnerLaws.{tuple_laws}, KeyLaws.{place_tells, position_in, any_at}, FillLaws.{rows_more}, RecodeLaws.{All-distinct}}},
  factorize.{specs.{Keys.{seen_rules, levels_of}, label_align.Tuples.{tuple_less}}, proofs.{LawOfGroups.{keys_there}, label_align.{OrderLaws.{below_range}, SameLaws.{tuple_decides}, LawOfJoins.{tuple_weak}, OuterJoinLaws.{in_order_keeps, once}}}},
  multi_index.specs.Axes.{HaveLevels},
}
use Rattle.factorize.proofs.KeyNumberLaws as numbers
use Rattle.column_core.specs.cells.Fault as side

module _ {X : Type 0} where
  abbrev pub count : (X → Bool) → List X → ℕ
  count p xs = length (filter p xs)

  pub count_append : (p : X → Bool) (xs ys : List X) → count p (xs ++ ys) ≡ count p xs + count p ys
  count_append = search (filter-append, length-append)

  pub count_cons : (p : X → Bool) (x : X) (xs : List X) → count p (x ∷ xs) ≡ cond (p x) 1 0 + count p xs
  count_cons = grind arith

abbrev pub row_often : Option ℕ → List (Option ℕ) → ℕ
row_often r rows = length (filter (same_row r) rows)

-- a row with rows of the other side
pub with_row : (a b l : Option ℕ) (rows : List (Option ℕ)) → how_often (pair a b) (map (pair l) rows) ≡ cond (same_row a l) (row_often b rows) 0
with_row a b l [] = grind arith
with_row a b l (r ∷ rows) = grind (arith, with_row a b l rows)

-- a row among the rows that pass
module _ {X : Type 0} (p : X → Bool) where
  abbrev among : ℕ → ℕ → List X → ℕ
  among j at xs = row_often (Some j) (map Some (rows_where p at xs))

  before : (j at : ℕ) (xs : List X) → j < at → among j at xs ≡ 0
  before j _ [] _ = refl
  before j at (x ∷ xs) lt = grind (arith, nat_eq, ne_eqb, before j (at + 1) xs (omega (arith, lt)))

  pub row_there : (at k : ℕ) (d : X) (xs : List X) → k < length xs → among (at + k) at xs ≡ once_if (p (slice_index_or xs k d))
  row_there _ k d [] lt = grind arith
  row_there _ zero d (x ∷ xs) lt = grind (arith, nat_eq, eq-eqb, before)
  row_there at (suc k) d (x ∷ xs) lt = grind (arith, nat_eq, ne_eqb, row_there (at + 1) k d xs (omega (arith, lt)))

  no_gap : (rows : List ℕ) → row_often None (map Some rows) ≡ 0
  no_gap [] = refl
  no_gap (r ∷ rows) = no_gap rows

  some_or_gap : (j : ℕ) (rows : List ℕ) → row_often (Some j) (or_gap rows) ≡ row_often (Some j) (map Some rows)
  some_or_gap = grind arith

  pub gap_there : (at : ℕ) (xs : List X) → row_often None (or_gap (rows_where p at xs)) ≡ once_if (not (list_any p xs))
  gap_there _ [] = refl
  gap_there at (x ∷ xs) = grind (arith, no_gap, gap_there (at + 1) xs)

  -- and with a gap where none passes
  pub or_gap_there : (k : ℕ) (d : X) (xs : List X) → k < length xs → row_often (Some k) (or_gap (rows_where p 0 xs)) ≡ once_if (p (slice_index_or xs k d))
  or_gap_there k d _ lt =
      let same : k ≡ 0 + k = omega arith in
      grind (arith, some_or_gap, row_there)

  pub partner_there : (stays : Bool) (k : ℕ) (d : X) (xs : List X) → k < length xs → row_often (Some k) (partners stays (rows_where p 0 xs)) ≡ once_if (p (slice_index_or xs k d))
  partner_there = grind (arith, or_gap_there, some_or_gap)

  pub partner_gap : (stays : Bool) (xs : List X) → row_often None (partners stays (rows_where p 0 xs)) ≡ once_if (stays && not (list_any p xs))
  partner_gap = grind (arith, gap_there, no_gap)

-- a pair among the pairs of a side's rows
module _ {K : Type 0} (same : K → K → Bool) (stays : Bool) (right : List K) (b : Option ℕ) where
  abbrev met : K → List (Option ℕ)
  met key = partners stays (rows_where (same key) 0 right)

  abbrev often : Option ℕ → ℕ → List K → ℕ
  often a at left = how_often (pair a b) (pairs_from same stays at left right)

  pub never : (at : ℕ) (keys : List K) → often None at keys ≡ 0
  never _ [] = refl
  never at (key ∷ keys) = grind (arith, count_append, with_row, never (at + 1) keys)

  earlier : (i at : ℕ) (keys : List K) → i < at → often (Some i) at keys ≡ 0
  earlier i _ [] _ = refl
  earlier i at (key ∷ keys) lt = grind (arith, nat_eq, ne_eqb, count_append, with_row, earlier i (at + 1) keys (omega (arith, lt)))

  pub met_there : (at k : ℕ) (d : K) (keys : List K) → k < length keys → often (Some (at + k)) at keys ≡ row_often b (met (slice_index_or keys k d))
  met_there _ k d [] lt = grind arith
  met_there _ zero d (key ∷ keys) lt = grind (arith, nat_eq, eq-eqb, count_append, with_row, earlier)
  met_there at (suc k) d (key ∷ keys) lt = grind (arith, nat_eq, ne_eqb, count_append, with_row, met_there (at + 1) k d keys (omega (arith, lt)))

-- the sides exchanged
pub often_exchanged : (p : Pair) (ps : List Pair) → how_often p (map exchanged ps) ≡ how_often (exchanged p) ps
often_exchanged p [] = refl
often_exchanged p (q ∷ ps) = grind (arith, often_exchanged p ps)

-- each of some left rows with each of some right rows
pub often_product : (a b : Option ℕ) (lefts rights : List (Option ℕ)) → how_often (pair a b) (flat_map (λ l. map (pair l) rights) lefts) ≡ row_often a lefts * row_often b rights
often_product a b [] _ = omega arith
often_product a b (l ∷ ls) rights = search (rules, count_append, with_row, count_cons, often_product a b ls rights)

pub often_parts : {X : Type 0} (p : Pair) (f : X → List Pair) (xs : List X) → how_often p (flat_map f xs) ≡ sum_by (λ x. how_often p (f x)) xs
often_parts p f [] = refl
often_parts p f (x ∷ xs) = search (count_append, sum_by-cons, often_parts p f xs)

-- The sides of a join exchanged, and two joins of the same sides.

pub sides_exchange : {K : Type 0} (same : K → K → Bool) → ((a b : K) → same a b ≡ same b a) → SidesExchange same
sides_exchange _ symmetric how left right pairs join = record {
  together = grind (arith, often_exchanged);
  left_alone = grind (arith, often_exchanged);
  right_alone = grind (arith, often_exchanged);
  no_gaps = search often_exchanged;
  left_rows = All-map (λ p. IsPlaceOf (length right) p.left) exchanged pairs join.right_rows;
  right_rows = All-map (λ p. IsPlaceOf (length left) p.right) exchanged pairs join.left_rows;
}

same_pair_is : (p q : Pair) → same_pair p q ≡ true → p ≡ q
same_pair_is = grind (arith, false≢true, eqb-true)

never_there : (P : Pair → Type 0) (p : Pair) → (P p → ⊥) → (ps : List Pair) → All P ps → how_often p ps ≡ 0
never_there P p _ [] _ = refl
never_there P p none (q ∷ ps) all = grind (arith, same_pair_is, All-head P q ps all, never_there P p none ps (All-tail P q ps all))

element : {K : Type 0} (xs : List K) (i : ℕ) → i < length xs → K
element [] i lt = grind arith
element (x ∷ xs) i _ = x

module _ {K : Type 0} (same : K → K → Bool) where
  module _ (how : How) (left right : List K) (ps qs : List Pair) (one : IsJoin same how left right ps) (other : IsJoin same how left right qs) where
    abbrev IsAlike : Option ℕ → Option ℕ → Type 0
    IsAlike a b = how_often (pair a b) ps ≡ how_often (pair a b) qs

    behind_left : (i : ℕ) (b : Option ℕ) → length left ≤ i → IsAlike (Some i) b
    behind_left i b le = grind (arith, never_there (λ p. IsPlaceOf (length left) p.left) (pair (Some i) b) (grind arith) ps one.left_rows, never_there (λ p. IsPlaceOf (length left) p.left) (pair (Some i) b) (grind arith) qs other.left_rows)

    behind_right : (a : Option ℕ) (j : ℕ) → length right ≤ j → IsAlike a (Some j)
    behind_right a j le = grind (arith, never_there (λ p. IsPlaceOf (length right) p.right) (pair a (Some j)) (grind arith) ps one.right_rows, never_there (λ p. IsPlaceOf (length right) p.right) (pair a (Some j)) (grind arith) qs other.right_rows)

    with_left : (i : ℕ) → i < length left → (b : Option ℕ) → IsAlike (Some i) b
    with_left i lt None = cc (one.left_alone i (element left i lt) lt, other.left_alone i (element left i lt) lt)
    with_left i lt (Some j) = grind (arith, cases_lt, one.together i j (element left i lt) lt, other.together i j (element left i lt) lt, behind_right)

    alike : (a b : Option ℕ) → IsAlike a b
    alike None None = search
    alike None (Some j) = elim (cases_lt j (length right)) as (λ w. IsAlike None (Some j)) [
      | inl lt ↦ let k = element _ j lt in one.right_alone j k lt ∙ sym (other.right_alone j k lt)
      | inr le ↦ behind_right None j le
    ]
    alike (Some i) b = grind (arith, cases_lt, with_left, behind_left)

  pub joins_alike : JoinsAreAlike same
  joins_alike _ _ _ ps qs one other p = alike _ _ _ ps qs one other p.left _

  pub exchange_changes_order : ((a b : K) → same a b ≡ same b a) → ExchangeChangesOrder same
  exchange_changes_order = search (joins_alike, sides_exchange)

-- what is made of the keys of two tables and of the same tables exchanged has the same pairs
pub made_alike : (how : How) (left right : List (List Label)) (one other : Pairs) (a : IsJoinOf same_tuple how left right one) (b : IsJoinOf same_tuple (turned how) right left other) → AreAlike (map exchanged a.pairs) b.pairs
made_alike _ _ _ _ _ a b = search (exchange_changes_order, tuple_laws.symm)

-- More pairs, and then more.

step : {X Y : Type 0} (f : X → Y) (a b c : List Y) (es fs : List X) → b ≡ a ++ map f es → c ≡ b ++ map f fs → c ≡ a ++ map f (es ++ fs)
step = grind (arith, append_assoc, map-append)

pub pairs_more : (a b : PairLists) (es fs : List Pair) → AreListed a es → HasMore a b fs → AreListed b (es ++ fs)
pairs_more a b es fs p q = record {
  left = step _ [] _ _ es fs p.left q.left;
  right = step _ [] _ _ es fs p.right q.right;
}

pub of_some : (ls rs : List ℕ) → 0 < length ls → flat_map (λ l. pairs_with rs (Some l)) ls ≡ pairs_of ls rs
of_some = grind (arith, flat_map-map)

module _ {K : Type 0} (same : K → K → Bool) (stays : Bool) (others : List K) where
  abbrev pub pairs_in : ℕ → K → List Pair
  pairs_in row key = map (pair (Some row)) (partners stays (rows_where (same key) 0 others))

  from_append : (row : ℕ) (xs : List K) (x : K) → pairs_from same stays row (xs ++ x ∷ []) others ≡ pairs_from same stays row xs others ++ pairs_in (row + length xs) x
  from_append _ [] x = grind (arith, append-nil)
  from_append row (y ∷ ys) x = grind (arith, append_assoc, from_append (row + 1) ys x)

  pub from_more : (xs : List K) (i : ℕ) (d : K) → i < length xs → pairs_from same stays 0 (take (i + 1) xs) others ≡ pairs_from same stays 0 (take i xs) others ++ pairs_in i (slice_index_or xs i d)
  from_more xs i d lt =
      let at : 0 + length (take i xs) ≡ i = omega (arith, length-take-le i xs (omega (arith, lt))) in
      cc (take_more xs i d lt, from_append 0 (take i xs) (slice_index_or xs i d))

-- one number more
pub range_more : (n : ℕ) → range_with_len 0 (n + 1) ≡ range_with_len 0 n ++ n ∷ []
range_more n = cc (map-id (range_with_len 0 (n + 1)), map-range_with_len_more (λ k. k) 0 n n (omega arith), map-id (range_with_len 0 n))

pub outer_more : (n : ℕ) (left right : List ℕ) → outer_pairs (n + 1) left right ≡ outer_pairs n left right ++ pairs_at left right n
outer_more = search (range_more, flat_map-append, append-nil)

-- How many pairs there are.

length-or_gap : (rs : List ℕ) → length (or_gap rs) ≡ max (length rs) 1
length-or_gap = grind (arith, length-map)

sum_by_alike : {X : Type 0} (n : ℕ) (xs : List X) → sum_by (λ x. n) xs ≡ length xs * n
sum_by_alike n [] = omega arith
sum_by_alike n (x ∷ xs) = search (rules, sum_by-cons, sum_by_alike n xs)

pub sum_by_same : {X : Type 0} (f g : X → ℕ) (xs : List X) → ((x : X) → f x ≡ g x) → sum_by f xs ≡ sum_by g xs
sum_by_same f g xs same = omega (arith, sum_by-le-sum_by f g xs (grind arith), sum_by-le-sum_by g f xs (grind arith))

length-pairs_of : (ls rs : List ℕ) → length (pairs_of ls rs) ≡ count_of ls rs
length-pairs_of ls rs = grind (arith, length-flat_map (pairs_with rs) (or_gap ls), sum_by_same (λ l. length (pairs_with rs l)) (λ l. max (length rs) 1) (or_gap ls) (grind (arith, length-map, length-or_gap)), sum_by_alike (max (length rs) 1) (or_gap ls), length-or_gap)

pub length-outer : (n : ℕ) (left right : List ℕ) → length (outer_pairs n left right) ≡ counted_by_key n left right
length-outer = grind (arith, length-flat_map, sum_by_same, length-pairs_of)

length-partners : (stays : Bool) (rs : List ℕ) → length (partners stays rs) ≡ count_with stays rs
length-partners = grind (arith, length-or_gap, length-map)

pub length-from : (stays : Bool) (row : ℕ) (left right : List ℕ) → length (pairs_from nat_eq stays row left right) ≡ counted_by_row stays left right
length-from _ _ [] _ = refl
length-from stays row (code ∷ codes) right = search (nat_eq, length-append, length-map, length-partners, sum_by-cons, length-from stays (row + 1) codes right)

pub counted_more : (n : ℕ) (left right : List ℕ) → counted_by_key (n + 1) left right ≡ counted_by_key n left right + count_of (rows_of_code n left) (rows_of_code n right)
counted_more = grind (arith, range_more, sum_by_push)

pub counted_within : (n count : ℕ) (left right : List ℕ) → n < count → counted_by_key n left right + count_of (rows_of_code n left) (rows_of_code n right) ≤ counted_by_key count left right
counted_within n count left right lt =
    let size : ℕ → ℕ = λ code. count_of (rows_of_code code left) (rows_of_code code right) in
    let numbers = range_with_len 0 count in
    let first : take n numbers ≡ range_with_len 0 n = cc (map-id numbers, map-id (range_with_len 0 n), take-map-range_with_len (λ k. k) 0 count n (omega arith)) in
    let here : slice_index_or numbers n 0 ≡ n = omega (arith, get_or-range_with_len 0 count n 0 lt) in
    omega (arith, sum_by_more_le size numbers n 0 (omega (arith, length-range_with_len 0 count)), ap (sum_by size) first, ap size here)

-- too many pairs, and few enough
module _ {K : Type 0} (most : ℕ) (pairs : List Pair) (counted : ℕ) (size : length pairs ≡ counted) where
  abbrev meant : Result (List Pair) (JoinRefusal K)
  meant = within most pairs

  pub too_many : most < counted → meant ≡ Err too_large
  too_many = grind (arith, lt-ltb)

  pub few_enough : counted ≤ most → meant ≡ Ok pairs
  few_enough = grind (arith, le-ltb)

pub exchanged_joined : (most : ℕ) (made turned : Pairs) (ps : List Pair) → turned.left ≡ made.right → turned.right ≡ made.left → IsJoined made (within most ps) → IsJoined turned (within most (map exchanged ps))
exchanged_joined = grind (arith, length-map, map-map)

-- Rows meet by their keys as they meet by the numbers of the keys.

-- a list in which one element passes
module _ {X : Type 0} (p : X → Bool) where
  none_passes : (xs : List X) (g : ℕ) (d : X) → filter p xs ≡ [] → g < length xs → p (slice_index_or xs g d) ≡ true → ⊥
  none_passes [] g d h lt e = omega (arith, lt)
  none_passes (y ∷ ys) zero d h lt e = grind (arith, false≢true)
  none_passes (y ∷ ys) (suc g) d h lt e = grind (arith, none_passes ys g d)

  pub only_place : (xs : List X) (x : X) (g : ℕ) (d : X) → filter p xs ≡ x ∷ [] → g < length xs → p (slice_index_or xs g d) ≡ true → position_or_len p xs ≡ g
  only_place [] x g d h lt e = search
  only_place (y ∷ ys) x zero d h lt e = cc
  only_place (y ∷ ys) x (suc g) d h lt e = grind (arith, none_passes, only_place ys x g d)

-- the entries of a key as pairs
pub with_seen : {K : Type 0} (key : K) (rights : List ℕ) (lefts : List (Option ℕ)) → map pair_of_entry (flat_map (entries_with key rights) lefts) ≡ flat_map (pairs_with rights) lefts
with_seen _ _ [] = refl
with_seen key rights (l ∷ ls) = search (map-append, map-map, with_seen key rights ls)

module _ {K : Type 0} (same : K → K → Bool) (laws : IsEquivalence same) (keys : List K) where
  abbrev pub rank : K → ℕ
  rank = place_among same keys

  abbrev pub IsKnown : K → Type 0
  IsKnown x = list_any (same x) keys ≡ true

  rows_coded : (k : K) (xs : List K) → All IsKnown xs → rows_where (same k) 0 xs ≡ rows_of_code (rank k) (map rank xs)
  rows_coded k xs known = sym (rows_where-map IsKnown _ _ _ (grind (arith, place_tells)) 0 xs known)

  -- a row with the rows that it meets
  pub pairs_coded : (stays : Bool) (row : ℕ) (left right : List K) → All IsKnown right → pairs_from same stays row left right ≡ pairs_from nat_eq stays row (map rank left) (map rank right)
  pairs_coded _ _ [] _ _ = refl
  pairs_coded stays row (k ∷ ks) right known = search (rows_coded, pairs_coded stays (row + 1) ks right known)

  -- the first key that stands twice
  module _ (rows : List K) (known : All IsKnown rows) (d : K) where
    abbrev twice : K → Bool
    twice key = nat_lt 1 (length (rows_where (same key) 0 rows))

    repeats : (row : ℕ) (xs : List K) → ((j : ℕ) → slice_index_or rows (row + j) d ≡ slice_index_or xs j d)
        → first_where twice xs ≡ option_map (λ r. slice_index_or rows r d) (repeated_from (map rank rows) row (map rank xs))
    repeats _ [] at = refl
    repeats row (x ∷ xs) at =
        let start : row ≡ row + 0 = omega arith in
        grind (arith, rows_coded, repeats (row + 1) xs (λ j. let next : row + 1 + j ≡ row + suc j = omega arith in rw next (at (suc j))))

    pub repeated_coded : first_repeated same rows ≡ option_map (λ r. slice_index_or rows r d) (repeated_from (map rank rows) 0 (map rank rows))
    repeated_coded = grind (arith, repeats)

  -- key after key, where no two keys are the same
  module _ (d : K) (apart : (g : ℕ) → g < length keys → rank (slice_index_or keys g d) ≡ g) (left right : List K) (left_known : All IsKnown left) (right_known : All IsKnown right) where
    abbrev key_at : ℕ → K
    key_at g = slice_index_or keys g d

    abbrev part : K → List (Entry K)
    part key = entries_of key (rows_where (same key) 0 left) (rows_where (same key) 0 right)

    rows_here : (n : ℕ) (xs : List K) → n < length keys → All IsKnown xs → rows_where (same (key_at n)) 0 xs ≡ rows_of_code n (map rank xs)
    rows_here n xs lt known = cc (rows_coded (key_at n) xs known, apart n lt)

    here : (n : ℕ) → n < length keys → map pair_of_entry (part (key_at n)) ≡ pairs_at (map rank left) (map rank right) n
    here = search (with_seen, rows_here)

    outer_on : (ns : List ℕ) → All (λ n. n < length keys) ns → map pair_of_entry (flat_map part (map key_at ns)) ≡ flat_map (pairs_at (map rank left) (map rank right)) ns
    outer_on [] _ = refl
    outer_on (n ∷ ns) all = grind (arith, map-append, here n (All-head (λ m. m < length keys) n ns all), outer_on ns (All-tail (λ m. m < length keys) n ns all))

    pub outer_coded : map pair_of_entry (flat_map part keys) ≡ outer_pairs (length keys) (map rank left) (map rank right)
    outer_coded = cc (fill_by_all key_at keys (length keys) d refl (λ k lt. refl), outer_on (range_with_len 0 (length keys)) (below_range (length keys)))

-- the rows of a number
module _ (count code : ℕ) (codes : List ℕ) (rows : List (List ℕ)) (made : rows ≡ buckets_of count codes) (lt : code < count) where
  pub bucket_there : code < length rows
  bucket_there = omega (arith, ap length made, length-map-range_with_len (λ c. rows_of_code c codes) 0 count, lt)

-- one row more is counted, as far as a byte counts
pub counts_more : (codes counts : List ℕ) (count i code n : ℕ) → i < length codes → code ≡ slice_index codes i → code < count → n ≡ min (slice_index counts code + 1) 255
    → AreCounts (take i codes) count counts → AreCounts (take (i + 1) codes) count (set counts code n)
counts_more codes counts _ i code n lt at below is so_far = (
  search length-set,
  λ c inside. let were = so_far.1 c inside in grind (arith, rows_more c _ i _ lt (sym at), length-append, eqb-true, slice_index, get_or-set_same, get_or-set_other, eqb-false),
)

-- The keys of both sides, each once: each row's key is among them, and no two of them are the same.

module _ {X : Type 0} (P : X → Type 0) (xs ys : List X) where
  pub all_left : All P (xs ++ ys) → All P xs
  all_left all = subst (All P) (take-append_seam xs ys) (All-take P (length xs) _ all)

  pub all_right : All P (xs ++ ys) → All P ys
  all_right all = subst (All P) (drop-append_seam xs ys) (All-drop P (length xs) _ all)

module _ (texts : List Text) where
  module _ (sorted : Bool) (left right : List (List Label)) where
    abbrev rows : List (List Label)
    rows = left ++ right

    abbrev pub keys : List (List Label)
    keys = keys_of texts sorted left right

    abbrev pub number_of : List Label → ℕ
    number_of = place_among same_tuple keys

    abbrev pub IsKeyOf : List Label → Type 0
    IsKeyOf key = list_any (same_tuple key) keys ≡ true

    stands_once : (key : List Label) → list_any (same_tuple key) rows ≡ true → filter (same_tuple key) keys ≡ key ∷ []
    stands_once key stands = grind (arith, numbers.keys_are texts sorted rows, in_order_keeps same_tuple (tuple_less texts) tuple_decides (tuple_weak texts) key (distinct same_tuple rows), once same_tuple (tuple_less texts) tuple_decides (tuple_weak texts) key rows stands)

    rows_known : All IsKeyOf rows
    rows_known = numbers.rows_known texts sorted _

    pub left_known : All IsKeyOf left
    left_known = all_left IsKeyOf _ _ rows_known

    pub right_known : All IsKeyOf right
    right_known = all_right IsKeyOf _ _ rows_known

    pub apart : (g : ℕ) → g < length keys → number_of (slice_index_or keys g []) ≡ g
    apart g lt = let key = slice_index_or keys g [] in only_place _ keys key g [] (stands_once key (keys_there (seen_rules texts) tuple_laws sorted false rows g [] lt)) lt (tuple_laws.refl key)

    -- the numbers of either side
    module _ (codes part : List ℕ) (n : ℕ) (coded : codes ≡ map number_of rows) (size : n ≡ length left) where
      pub left_is : part ≡ take n codes → part ≡ map number_of left
      left_is = grind (arith, length-map, map-append number_of left right, take-append_seam (map number_of left) (map number_of right))

      pub right_is : part ≡ drop n codes → part ≡ map number_of right
      right_is = grind (arith, length-map, map-append number_of left right, drop-append_seam (map number_of left) (map number_of right))

    pub below : (part : List ℕ) (m : ℕ) (side : List (List Label)) → All IsKeyOf side → part ≡ map number_of side → m ≡ length keys → All (λ c. c < m) part
    below _ m side known are counted = grind (arith, All-map (λ c. c < length keys) number_of side (λ k d lt. position_in (same_tuple (slice_index_or side k d)) keys (known k d lt)))

    -- the first key that stands twice
    pub repeats_are : (b : Bool) (side : List (List Label)) (part : List ℕ) → All IsKeyOf side → part ≡ map number_of side → repeated_in b side part ≡ cond b (first_repeated same_tuple side) None
    repeats_are true side _ known are = cc (repeated_coded same_tuple tuple_laws keys side known [])
    repeats_are false _ _ _ _ = refl

  -- the pairs of keys are those of their numbers
  pub pairs_are : (how : How) (left right : List (List Label)) → key_pairs same_tuple (tuple_less texts) how left right
      ≡ code_pairs how (length (keys_of texts (is_outer how) left right)) (map (number_of (is_outer how) left right) left) (map (number_of (is_outer how) left right) right)
  pairs_are Inner _ _ = search (pairs_coded, tuple_laws, right_known)
  pairs_are Left _ _ = search (pairs_coded, tuple_laws, right_known)
  pairs_are Right _ _ = ap (map _) (search (pairs_coded, tuple_laws, left_known))
  pairs_are Outer left right = cc (numbers.keys_are texts true (left ++ right), outer_coded same_tuple tuple_laws (keys_of texts true left right) [] (apart true left right) left right (left_known true left right) (right_known true left right))

-- What is meant by a join is one.

abbrev AreInside : ℕ → ℕ → Pair → Type 0
AreInside n m p = IsPlaceOf n p.left × IsPlaceOf m p.right

gaps_inside : (n : ℕ) (rows : List ℕ) → All (λ row. row < n) rows → All (IsPlaceOf n) (or_gap rows)
gaps_inside n [] inside = grind arith
gaps_inside n (r ∷ rows) inside = All-map (IsPlaceOf n) Some (r ∷ rows) inside

partners_inside : (stays : Bool) (n : ℕ) (rows : List ℕ) → All (λ row. row < n) rows → All (IsPlaceOf n) (partners stays rows)
partners_inside = grind (arith, gaps_inside)

module _ {K : Type 0} (same : K → K → Bool) (stays : Bool) (right : List K) where
  from_inside : (n at : ℕ) (keys_in : List K) → at + length keys_in ≡ n → All (AreInside n (length right)) (pairs_from same stays at keys_in right)
  from_inside n _ [] size = grind arith
  from_inside n at (key ∷ keys_in) size =
      all_append (AreInside n (length right)) _ _
      (All-map (AreInside n (length right)) (pair (Some at)) (partners stays (rows_where (same key) 0 right)) (λ k d lt. (omega (arith, size), search (partners_inside, rows_inside))))
      (from_inside n (at + 1) keys_in (omega (arith, size)))

  -- each row of a side with the rows that it meets
  module _ (left : List K) where
    abbrev pairs : List Pair
    pairs = pairs_from same stays 0 left right

    met_by : (b : Option ℕ) (i : ℕ) (d : K) → i < length left → how_often (pair (Some i) b) pairs ≡ row_often b (partners stays (rows_where (same (slice_index_or left i d)) 0 right))
    met_by b i d lt = let at : i ≡ 0 + i = omega arith in grind (arith, met_there)

    pub together : (i j : ℕ) (d : K) → i < length left → j < length right → how_often (pair (Some i) (Some j)) pairs ≡ once_if (same (slice_index_or left i d) (slice_index_or right j d))
    together i j d lt inside = met_by (Some j) i d lt ∙ partner_there _ stays j d _ inside

    pub alone : (i : ℕ) (d : K) → i < length left → how_often (pair (Some i) None) pairs ≡ once_if (stays && not (list_any (same (slice_index_or left i d)) right))
    alone i d lt = met_by None i d lt ∙ partner_gap _ stays right

    pub nothing : (b : Option ℕ) → how_often (pair None b) pairs ≡ 0
    nothing = search never

    pub inside : All (AreInside (length left) (length right)) pairs
    inside = from_inside _ 0 _ (omega arith)

    -- rows of the left side that meet none stay, or they do not
    pub kept_is : (how : How) → keeps_left how ≡ stays → keeps_right how ≡ false → IsJoin same how left right pairs
    kept_is _ some none = record {
      together = together;
      left_alone = grind (arith, alone);
      right_alone = grind (arith, nothing);
      no_gaps = nothing None;
      left_rows = λ k d lt. (inside k d lt).0;
      right_rows = λ k d lt. (inside k d lt).1;
    }

-- the pairs of a key, key by key
module _ {K : Type 0} (same less : K → K → Bool) (laws : IsEquivalence same) (decides : (a b : K) → Decides (same a b) (a ≡ b)) (weak : IsStrictWeakOrder less) (left right : List K) where
  abbrev pub keys_in : List K
  keys_in = keys_in_order same less (left ++ right)

  abbrev lefts : K → List (Option ℕ)
  lefts key = or_gap (rows_where (same key) 0 left)

  abbrev rights : K → List (Option ℕ)
  rights key = or_gap (rows_where (same key) 0 right)

  abbrev pub of_key : K → List Pair
  of_key key = pairs_of (rows_where (same key) 0 left) (rows_where (same key) 0 right)

  abbrev pub outer : List Pair
  outer = flat_map of_key keys_in

  often_outer : (a b : Option ℕ) → how_often (pair a b) outer ≡ sum_by (λ key. row_often a (lefts key) * row_often b (rights key)) keys_in
  often_outer a b = often_parts _ of_key keys_in ∙ sum_by_same _ _ keys_in (λ key. often_product a b _ _)

  abbrev pub IsThere : K → Type 0
  IsThere key = list_any (same key) (left ++ right) ≡ true

  pub key_once : (key : K) → IsThere key → filter (same key) keys_in ≡ key ∷ []
  key_once = grind (arith, in_order_keeps, once)

  -- what is counted at one key alone
  at_one : (key : K) (f g : K → ℕ) → ((k : K) → f k ≡ cond (same key k) (g k) 0) → (ks : List K) → sum_by f ks ≡ sum_by g (filter (same key) ks)
  at_one _ f g e [] = refl
  at_one key f g e (k ∷ ks) = grind (arith, sum_by-cons, at_one key f g e ks)

  at_key : (key : K) (f g : K → ℕ) → IsThere key → ((k : K) → f k ≡ cond (same key k) (g k) 0) → sum_by f keys_in ≡ g key
  at_key key f g there e = grind (arith, at_one key f g e keys_in, key_once key there, sum_by-cons g key [])

  module _ (i : ℕ) (d : K) (lt : i < length left) where
    abbrev left_key : K
    left_key = slice_index_or left i d

    left_there : IsThere left_key
    left_there = grind (arith, list_any-append, any_at, laws.refl)

    left_only : (b : Option ℕ) → how_often (pair (Some i) b) outer ≡ row_often b (rights left_key)
    left_only b = often_outer (Some i) b ∙ at_key _ _ (λ key. row_often b (rights key)) left_there (λ k. grind (arith, or_gap_there (same k) i d left lt, laws.symm k left_key))

  module _ (j : ℕ) (d : K) (lt : j < length right) where
    abbrev right_key : K
    right_key = slice_index_or right j d

    right_there : IsThere right_key
    right_there = grind (arith, list_any-append, any_at, laws.refl)

    right_only : how_often (pair None (Some j)) outer ≡ row_often None (lefts right_key)
    right_only = often_outer None (Some j) ∙ at_key _ _ (λ key. row_often None (lefts key)) right_there (λ k. grind (arith, or_gap_there (same k) j d right lt, laws.symm k right_key))

  pub keys_stand : All IsThere keys_in
  keys_stand = all_in_order IsThere _ (distinct same (left ++ right)) (All-distinct IsThere same _ (λ k d lt. any_at _ _ k d lt (laws.refl (slice_index_or (left ++ right) k d))))

  -- a key of either side has a row
  no_gaps_at : (key : K) → IsThere key → row_often None (lefts key) * row_often None (rights key) ≡ 0
  no_gaps_at key there = grind (arith, gap_there, list_any-append)

  no_gaps : how_often (pair None None) outer ≡ 0
  no_gaps = often_outer None None ∙ none _ keys_stand
    where
      none : (ks : List K) → All IsThere ks → sum_by (λ key. row_often None (lefts key) * row_often None (rights key)) ks ≡ 0
      none [] _ = refl
      none (k ∷ ks) all = grind (arith, sum_by-cons, no_gaps_at k (All-head IsThere k ks all), none ks (All-tail IsThere k ks all))

  outer_inside : All (AreInside (length left) (length right)) outer
  outer_inside =
      all_flat (AreInside (length left) (length right)) (λ key. Unit {0}) _
      (λ key _. all_flat (AreInside (length left) (length right)) (IsPlaceOf (length left)) _
      (λ l there. All-map (AreInside (length left) (length right)) (pair l) (rights key) (λ k d lt. (search (gaps_inside, rows_inside))))
      (lefts key) (search (gaps_inside, rows_inside)))
      keys_in _

  pub outer_is : IsJoin same Outer left right outer
  outer_is = record {
    together = grind (arith, left_only, or_gap_there);
    left_alone = λ i d lt. left_only i d lt None ∙ gap_there _ 0 right;
    right_alone = λ j d lt. right_only j d lt ∙ gap_there _ 0 left;
    no_gaps = no_gaps;
    left_rows = λ k d lt. (outer_inside k d lt).0;
    right_rows = λ k d lt. (outer_inside k d lt).1;
  }

  pub seen : (ks : List K) → map pair_of_entry (flat_map (λ key. entries_of key (rows_where (same key) 0 left) (rows_where (same key) 0 right)) ks) ≡ flat_map of_key ks
  seen [] = refl
  seen (k ∷ ks) = search (map-append, with_seen, seen ks)

  -- whichever rows stay
  pub pairs_are_join : (how : How) → IsJoin same how left right (key_pairs same less how left right)
  pairs_are_join Inner = kept_is same false right left Inner refl refl
  pairs_are_join Left = kept_is same true right left Left refl refl
  pairs_are_join Right = sides_exchange same laws.symm Left right left _ (kept_is same true left right Left refl refl)
  pairs_are_join Outer = rw seen outer_is

  -- what a join answers is one
  module _ (how : How) (once : Validate) where
    abbrev pairs_meant : List Pair
    pairs_meant = key_pairs same less how left right

    abbrev pairs_answered : Result (List Pair) (JoinRefusal K) → List Pair
    pairs_answered (Ok pairs) = pairs
    pairs_answered (Err refusal) = pairs_meant

    kept : (most : ℕ) (repeated : Option (RepeatedKey K)) → pairs_answered (unless_repeated repeated (within most pairs_meant)) ≡ pairs_meant
    kept = grind arith

    pub answer_is_join : (most : ℕ) (pairs : List Pair) → joined_within most same less how once left right ≡ Ok pairs → IsJoin same how left right pairs
    answer_is_join most = grind (arith, kept most (repeated_key same once left right), pairs_are_join how)

-- What is meant, by the numbers of the keys.

module _ (texts : List Text) (how : How) (once : Validate) (left right : List (List Label)) where
  abbrev meant_join : ℕ → Result (List Pair) (JoinRefusal (List Label))
  meant_join most = joined_within most same_tuple (tuple_less texts) how once left right

  abbrev repeated : Side → List Label → RepeatedKey (List Label)
  repeated s key = record { side = s; key = key }

  on_side : (s : Side) (b : Bool) (rows : List (List Label)) (found : Option (List Label)) → found ≡ cond b (first_repeated same_tuple rows) None → repeated_on s same_tuple b rows ≡ option_map (repeated s) found
  on_side = grind arith

  -- the numbers of the keys, cut behind those of the left side
  module _ (b : Bool) (is : b ≡ is_outer how) (count : ℕ) (counted : count ≡ length (keys_of texts b left right)) (codes : List ℕ) (coded : codes ≡ map (number_of texts b left right) (left ++ right))
      (n : ℕ) (size : n ≡ length left) (of_left of_right : List ℕ) (front : of_left ≡ take n codes) (back : of_right ≡ drop n codes) where
    numbers_left : of_left ≡ map (number_of texts b left right) left
    numbers_left = search left_is

    numbers_right : of_right ≡ map (number_of texts b left right) right
    numbers_right = search right_is

    pub left_below : All (λ c. c < count) of_left
    left_below = search (below, left_known, numbers_left)

    pub right_below : All (λ c. c < count) of_right
    right_below = search (below, right_known, numbers_right)

    abbrev pub found_left : Option (List Label)
    found_left = repeated_in once.left left of_left

    abbrev pub found_right : Option (List Label)
    found_right = repeated_in once.right right of_right

    meant_is : (most : ℕ) → meant_join most ≡ unless_repeated (or_else (option_map (repeated side.left) found_left) (option_map (repeated side.right) found_right)) (within most (key_pairs same_tuple (tuple_less texts) how left right))
    meant_is most = λ i. unless_repeated
        (or_else (on_side side.left once.left left found_left (search (repeats_are, left_known, numbers_left)) i)
        (on_side side.right once.right right found_right (search (repeats_are, right_known, numbers_right)) i))
        (within most (key_pairs same_tuple (tuple_less texts) how left right))

    pub refused_left : (most : ℕ) (key : List Label) → found_left ≡ Some key → meant_join most ≡ Err (not_one_to_one (repeated side.left key))
    refused_left most _ e = cc (meant_is most)

    pub refused_right : (most : ℕ) (key : List Label) → found_left ≡ None → found_right ≡ Some key → meant_join most ≡ Err (not_one_to_one (repeated side.right key))
    refused_right most _ none e = search (meant_is most)

    pub allowed : (most : ℕ) → found_left ≡ None → found_right ≡ None → meant_join most ≡ within most (code_pairs how count of_left of_right)
    allowed most none_left none_right = grind (arith, meant_is most, pairs_are, numbers_left, numbers_right)

-- keys of both sides have four labels at most
module _ (left right : List (List Label)) (alike : HaveLevels (levels_of (left ++ right)) (left ++ right)) where
  abbrev IsAlikeKey : List Label → Type 0
  IsAlikeKey key = length key ≡ levels_of (left ++ right)

  pub few_left : levels_of (left ++ right) ≤ 4 → All (λ key. length key ≤ 4) left
  few_left few k d lt = omega (arith, all_left IsAlikeKey left right alike k d lt, few)

  pub few_right : levels_of (left ++ right) ≤ 4 → All (λ key. length key ≤ 4) right
  few_right few k d lt = omega (arith, all_right IsAlikeKey left right alike k d lt, few)

  pub alike_right : HaveLevels (levels_of right) right
  alike_right k d lt = all_right IsAlikeKey _ _ alike k d lt ∙ sym (all_right IsAlikeKey left _ alike 0 (Na ∷ []) (omega (arith, lt)))

-- what is answered is a join
pub law_of : (most : ℕ) (texts : List Text) (how : How) (once : Validate) (left right : List (List Label)) (result : Result Pairs MergeFault)
    → JoinsBy result (joined_within most same_tuple (tuple_less texts) how once left right) → IfOk result (IsJoinOf same_tuple how left right)
law_of _ _ _ _ _ _ (Ok made) answer = search (answer_is_join, tuple_laws, tuple_decides, tuple_weak)
law_of _ _ _ _ _ _ (Err fault) _ = tt
