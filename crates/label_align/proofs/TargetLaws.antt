-- The row of each target, by codes.
use Rattle.{
  meaning_align.{proofs.cells.Common.{◌≡◌, ◌∙◌, ◌<◌, ◌≤◌, ◌==◌, ◌+◌, ℕ, zero, suc, Bool, true, false, cond, List, [], ◌∷◌, map, length, refl, ap, sym, slice_index_or, arith, All, Option, Some, None, Ok, Err, nat_lt, map-map, nat_tests, get_or-map, length-map, get_or-map-range_with_len, All-map, Decides, range_with_len, Label}, specs.{pick.Rows.{rows_where, only_row}, Faults.{duplicate_labels}, Targets.{first_where, first_repeated, unless_repeated, rows_of_targets, reindexed}}},
  std.proofs.Common.{le-ltb},
  multi_index.proofs.LevelLaws.{maps_alike},
  row_keys.{specs.{Keys.{same_tuple}, Buckets.{buckets_of}}, proofs.{KeyLaws.{position_in}, JoinLaws.{rank, count, left_known, right_known, bucket_of_key}}},
  label_align.{specs.Targets.{repeats_at, IsFirstRepeat, NoneBefore, NoneRepeats, row_below}, proofs.OuterJoinLaws.{tuples_decide, tuple_laws}},
}

-- the first that passes, by its place
module _ {X : Type 0} (p : X → Bool) where
  first_there : (xs : List X) (place : ℕ) (d : X) → place < length xs → p (slice_index_or xs place d) ≡ true → ((i : ℕ) → i < place → p (slice_index_or xs i d) ≡ false) → first_where p xs ≡ Some (slice_index_or xs place d)
  first_there [] _ d lt passes before = grind arith
  first_there (x ∷ xs) zero d lt passes before = cc
  first_there (x ∷ xs) (suc place) d lt passes before = cc (before 0 (omega arith), first_there xs place d (omega arith) passes (λ i below. before (suc i) (omega arith)))

  none_there : (xs : List X) (d : X) → ((i : ℕ) → i < length xs → p (slice_index_or xs i d) ≡ false) → first_where p xs ≡ None
  none_there [] d _ = refl
  none_there (x ∷ xs) d before = cc (before 0 (omega arith), none_there xs d (λ i below. before (suc i) (omega arith)))

not_behind : (c at m : ℕ) → c < at → rows_where (λ d. c == d) at (range_with_len at m) ≡ []
not_behind c _ zero _ = refl
not_behind c at (suc m) lt = grind (arith, not_behind c (at + 1) m (omega (arith, lt)))

found_at : (c at m : ℕ) → at ≤ c → rows_where (λ d. c == d) at (range_with_len at m) ≡ cond (nat_lt c (at + m)) (c ∷ []) []
found_at c _ zero le = grind arith
found_at c at (suc m) le = grind (arith, nat_tests, not_behind c (at + 1) m, found_at c (at + 1) m)

module _ (keys targets : List (List Label)) where
  -- where the targets are the keys
  pub as_they_are : (told : Bool) (rows : List (Option ℕ)) → Decides told (keys ≡ targets) → told ≡ true → rows ≡ map Some (range_with_len 0 (length keys)) → reindexed same_tuple keys targets ≡ Ok rows
  as_they_are = grind (arith, tuples_decide)

  -- and where they are others
  others : (told : Bool) → Decides told (keys ≡ targets) → told ≡ false → reindexed same_tuple keys targets ≡ unless_repeated (first_repeated same_tuple keys) (rows_of_targets same_tuple keys targets)
  others = grind (arith, tuples_decide)

  abbrev of_key : List Label → ℕ
  of_key = rank same_tuple tuple_laws keys targets

  abbrev how_many : ℕ
  how_many = count same_tuple tuple_laws keys targets

  target_below : All (λ x. of_key x < how_many) targets
  target_below k d lt = position_in _ _ (right_known _ tuple_laws keys _ k d lt)

  key_below : All (λ x. of_key x < how_many) keys
  key_below k d lt = position_in _ _ (left_known _ tuple_laws _ targets k d lt)

  bucket : (x : List Label) → of_key x < how_many → slice_index_or (buckets_of how_many (map of_key keys)) (of_key x) [] ≡ rows_where (same_tuple x) 0 keys
  bucket = search (bucket_of_key, tuple_laws, left_known)

  module _ (rows : List (List ℕ)) (codes : List ℕ) (made : rows ≡ buckets_of how_many (map of_key keys)) (coded : codes ≡ map of_key keys) where
    size : length codes ≡ length keys
    size = grind (arith, length-map)

    rows_at : (place : ℕ) → place < length keys → repeats_at rows codes place ≡ length (rows_where (same_tuple (slice_index_or keys place [])) 0 keys)
    rows_at place lt = grind (arith, get_or-map of_key keys place [] 0 lt, bucket (slice_index_or keys place []), key_below place [] lt)

    abbrev is_repeated : List Label → Bool
    is_repeated key = nat_lt 1 (length (rows_where (same_tuple key) 0 keys))

    once : (end : ℕ) → end ≤ length keys → NoneBefore rows codes end → (i : ℕ) → i < end → is_repeated (slice_index_or keys i []) ≡ false
    once _ le none i lt = le-ltb 1 _ (omega (arith, rows_at i (omega (arith, lt, le))))

    -- the first that repeats is refused
    pub repeated : (told : Bool) (place : ℕ) (key : List Label) → Decides told (keys ≡ targets) → told ≡ false → IsFirstRepeat rows codes place → key ≡ slice_index_or keys place [] → reindexed same_tuple keys targets ≡ Err (duplicate_labels key)
    repeated told place _ is unlike first here =
        let inside : place < length keys = omega (arith, size) in
        let twice : is_repeated (slice_index_or keys place []) ≡ true = grind (arith, rows_at) in
        cc (others told is unlike, first_there is_repeated keys place [] inside twice (once place (omega arith) first.before))

    -- the row of each target, where none repeats
    pub found : (told : Bool) (asked : List ℕ) (gaps : List (Option ℕ)) → Decides told (keys ≡ targets) → told ≡ false → NoneRepeats rows codes → asked ≡ map of_key targets → gaps ≡ map (λ code. only_row (slice_index_or rows code [])) asked → reindexed same_tuple keys targets ≡ Ok gaps
    found told asked gaps is unlike none of_targets looked =
        let look : ℕ → Option ℕ = λ code. only_row (slice_index_or (buckets_of how_many (map of_key keys)) code []) in
        let rows_found = maps_alike (λ x. of_key x < how_many) (λ x. look (of_key x)) (λ target. only_row (rows_where (same_tuple target) 0 keys)) (λ x lt. ap only_row (bucket x lt)) targets target_below in
        cc (others told is unlike, none_there is_repeated keys [] (grind (arith, once, size)), rw (made, of_targets) at looked, map-map look of_key targets, rows_found)

  -- where the codes of the keys are the numbers from 0 on, none repeats, and each is its row
  module _ (codes : List ℕ) (coded : codes ≡ map of_key keys) (in_sequence : codes ≡ range_with_len 0 (length codes)) where
    abbrev rows : List (List ℕ)
    rows = buckets_of how_many (map of_key keys)

    one_row : (code : ℕ) → code < how_many → slice_index_or rows code [] ≡ cond (nat_lt code (length keys)) (code ∷ []) []
    one_row = grind (arith, get_or-map-range_with_len, found_at, size)

    none_repeats : NoneRepeats rows codes
    none_repeats place lt =
        let inside : place < length keys = omega (arith, size rows codes refl coded) in
        grind (arith, get_or-map of_key keys place [] 0 inside, key_below place [] inside, one_row (of_key (slice_index_or keys place [])))

    row_of : (b : Bool) (code : ℕ) → only_row (cond b (code ∷ []) []) ≡ cond b (Some code) None
    row_of = grind arith

    pub found_in_sequence : (told : Bool) (asked : List ℕ) (gaps : List (Option ℕ)) → Decides told (keys ≡ targets) → told ≡ false → asked ≡ map of_key targets → gaps ≡ map (row_below (length keys)) asked → reindexed same_tuple keys targets ≡ Ok gaps
    found_in_sequence told asked gaps is unlike of_targets looked =
        let below : All (λ code. code < how_many) asked = rw of_targets (All-map (λ code. code < how_many) of_key targets target_below) in
        found _ _ refl coded told asked gaps is unlike none_repeats of_targets
        (looked ∙ maps_alike (λ code. code < how_many) (row_below (length keys)) (λ code. only_row (slice_index_or rows code [])) (λ code lt. sym (row_of (nat_lt code (length keys)) code) ∙ ap only_row (sym (one_row code lt))) asked below)
