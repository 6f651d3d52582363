-- Numbers of labels packed with the numbers beside them.
use Rattle.{
  multi_index.{proofs.cells.Common.{◌≡◌, ◌<◌, ◌≤◌, ◌+◌, ◌*◌, ◌==◌, ◌&&◌, ℕ, List, map, take, max, ap, length, slice_index_or, arith, All, nat_tests, length-map, get_or-map, All-more, length-map-range_with_len, get_or-map-range_with_len, slice_index, range_with_len, Label}, specs.index_core.Labels.{same_number}},
  std.proofs.{Math.Nat.{mul-le-mul_right}, lemmas.Nat.{same_from_place}},
  cell_core.specs.declared.cell.Label.TheVariants.{Na},
  row_keys.specs.{Keys.{same_pair}, Numbers.{StandFor}},
}

-- two packed numbers are equal exactly where both parts are
pub packed_tell : (s a b c d : ℕ) → b < s → d < s → ((a == c) && (b == d)) ≡ (a * s + b == c * s + d)
packed_tell s a b c d = grind (arith, nat_tests, same_from_place a b c d s)

-- the number of a row's label and the number beside it in one
abbrev pub pair_number : List ℕ → List (Label × ℕ) → ℕ → ℕ → ℕ
pair_number labels keys scale i = slice_index labels i * scale + (slice_index_or keys i (Na, 0)).1

-- the greatest so far
pub greatest_more : (keys : List (Label × ℕ)) (i most most' : ℕ) (pair : Label × ℕ) → i < length keys → slice_index_or keys i pair ≡ pair → most' ≡ max most pair.1 → All (λ (p : Label × ℕ). p.1 ≤ most) (take i keys) → All (λ (p : Label × ℕ). p.1 ≤ most') (take (i + 1) keys)
greatest_more keys i _ most' pair lt here is within = All-more (λ (p : Label × ℕ). p.1 ≤ most') keys i pair lt (λ k d below. omega (arith, within k d below)) (omega (arith, ap (λ (p : Label × ℕ). p.1) here))

module _ (keys : List (Label × ℕ)) (labels : List ℕ) (first second scale most : ℕ) (stand : StandFor same_number Na (map (λ (pair : Label × ℕ). pair.0) keys) labels)
    (below : All (λ n. n ≤ first) labels) (within : All (λ (pair : Label × ℕ). pair.1 ≤ second) keys) (is : scale ≡ second + 1) (room : most ≡ first * (second + 1) + second) where
  pub as_many : length labels ≡ length keys
  as_many = grind (arith, length-map)

  pub pair_below : (i : ℕ) → i < length keys → pair_number labels keys scale i ≤ most
  pair_below = grind (arith, mul-le-mul_right, as_many)

  module _ (numbers : List ℕ) (made : numbers ≡ map (pair_number labels keys scale) (range_with_len 0 (length keys))) where
    here : (i : ℕ) → i < length keys → slice_index numbers i ≡ pair_number labels keys scale i
    here = grind (arith, get_or-map-range_with_len)

    pub pairs_below : All (λ n. n ≤ most) numbers
    pairs_below k = grind (arith, get_or-map-range_with_len, length-map-range_with_len, pair_below k)

    pub pairs_stand : StandFor (same_pair same_number) (Na, 0) keys numbers
    pairs_stand =
        record {
          count = grind (arith, length-map-range_with_len);
          tells = search (labels_alike, packed_tell, part, here);
        }
      where
        part : (i : ℕ) → i < length keys → (slice_index_or keys i (Na, 0)).1 < scale
        part i lt = omega (arith, within i (Na, 0) lt, is)

        labels_alike : (i j : ℕ) → i < length keys → j < length keys → same_number (slice_index_or keys i (Na, 0)).0 (slice_index_or keys j (Na, 0)).0 ≡ (slice_index labels i == slice_index labels j)
        labels_alike i j hi hj = grind (arith, stand.tells i j, get_or-map (λ (pair : Label × ℕ). pair.0) keys i (Na, 0) Na, get_or-map (λ (pair : Label × ℕ). pair.0) keys j (Na, 0) Na, length-map)
