-- The codes of two sides that are numbered together, and the partners of a key by its code.
use Rattle.{
  multi_index.proofs.{cells.Common.{◌≡◌, ◌<◌, ◌++◌, ℕ, List, map, take, drop, length, arith, All, map-append, take_at, length-map, length-map-range_with_len, map-map, IsEquivalence, lists_equiv, Label, laws-law}, LevelLaws.{maps_alike}},
  std.proofs.lemmas.List.{drop_at},
  row_keys.{specs.{Keys.{same_tuple, codes_of, first_rows}, Buckets.{buckets_of}, Partners.{rows_with, rows_coded, AreCodesBelow}}, proofs.{KeyLaws.{position_in}, JoinLaws.{rank, count, IsKnown, left_known, right_known, codes_below, bucket_of_key}}},
}

pub tuple_laws : IsEquivalence same_tuple
tuple_laws = lists_equiv laws-law

module _ (a b : List (List Label)) where
  abbrev pub code_of : List Label → ℕ
  code_of = rank same_tuple tuple_laws a b

  abbrev pub how_many : ℕ
  how_many = count same_tuple tuple_laws a b

  pub firsts_counted : (firsts : List ℕ) → firsts ≡ first_rows same_tuple (a ++ b) → length firsts ≡ how_many
  firsts_counted = grind (arith, length-map)

  -- the codes of either side
  module _ (codes part : List ℕ) (n : ℕ) (coded : codes ≡ codes_of same_tuple (a ++ b)) (size : n ≡ length a) where
    pub left_is : part ≡ take n codes → part ≡ map code_of a
    left_is = grind (arith, map-append, take_at, length-map)

    pub right_is : part ≡ drop n codes → part ≡ map code_of b
    right_is = grind (arith, map-append, drop_at, length-map)

  module _ (part : List ℕ) (m : ℕ) where
    pub left_below : part ≡ map code_of a → m ≡ how_many → All (λ c. c < m) part
    left_below are same = rw (are, same) (codes_below _ tuple_laws a b a (left_known _ tuple_laws a b))

    pub right_below : part ≡ map code_of b → m ≡ how_many → All (λ c. c < m) part
    right_below are same = rw (are, same) (codes_below _ tuple_laws a b b (right_known _ tuple_laws a b))

  pub buckets_counted : (m : ℕ) (codes : List ℕ) (rows : List (List ℕ)) → rows ≡ buckets_of m codes → length rows ≡ m
  buckets_counted = grind (arith, length-map-range_with_len)

  -- the partners of each key of the left
  module _ (m : ℕ) (of_keys of_rows : List ℕ) (rows : List (List ℕ)) (same : m ≡ how_many) (keys : of_keys ≡ map code_of a) (among : of_rows ≡ map code_of b) (made : rows ≡ buckets_of m of_rows) where
    pub partners_are : rows_coded of_keys rows ≡ map (rows_with b) a
    partners_are = rw (keys, map-map, made, same, among) (maps_alike (IsKnown same_tuple tuple_laws a b) _ _ (λ k known. bucket_of_key _ tuple_laws a b k b (right_known _ tuple_laws a b) (position_in _ _ known)) a (left_known _ tuple_laws a b))

    pub partners_below : AreCodesBelow of_keys rows
    partners_below = left_below _ _ keys (grind (arith, length-map-range_with_len))
