-- What is found for targets: a row or a gap for each, rows that are there, and a repeated key that is one of the keys.
use Rattle.{
  meaning_pick.{proofs.{cells.Common.{◌≡◌, ◌∙◌, refl, arith, ℕ, ◌<◌, Bool, true, false, if◌then◌else◌, List, [], ◌∷◌, map, length, All, Option, Some, None, Result, Ok, Err, length-map, length-map-range_with_len, length-range_with_len, get_or-range_with_len, All-head, All-tail, All-map, IfOk, IfSome, range_with_len, pointwise, as_long}, InsideLaws.{rows_inside}}, specs.Rows.{rows_where, only_row}},
  meaning_align.specs.{Faults.{AlignRefusal, duplicate_labels}, Targets.{first_where, first_repeated, unless_repeated, rows_of_targets, reindexed}},
}

unless_keeps : {K A : Type 0} (P : A → Type 0) (repeated : Option K) (answer : A) → P answer → IfOk (unless_repeated repeated answer) P
unless_keeps P = grind arith

only_keeps : (P : ℕ → Type 0) (rows : List ℕ) → All P rows → IfSome (only_row rows) P
only_keeps P = grind arith

first_among : {K : Type 0} (P : K → Type 0) (p : K → Bool) (xs : List K) → All P xs → IfSome (first_where p xs) P
first_among P p [] _ = tt
first_among P p (x ∷ xs) all =
    elim (p x) as (λ b. IfSome (if b then Some x else first_where p xs) P) [ true ↦ All-head P x xs all | false ↦ first_among P p xs (All-tail P x xs all) ]

abbrev key_or : {K : Type 0} → K → AlignRefusal K → K
key_or d (duplicate_labels key) = key
key_or d other = d

abbrev refusal_or : {K A : Type 0} → AlignRefusal K → Result A (AlignRefusal K) → AlignRefusal K
refusal_or d (Ok answer) = d
refusal_or d (Err refusal) = refusal

module _ {K : Type 0} (same : K → K → Bool) (keys targets : List K) where
  -- the rows that are found, where the targets are the keys and where they aren't
  abbrev found_if : Bool → Result (List (Option ℕ)) (AlignRefusal K)
  found_if b = if b then Ok (map Some (range_with_len 0 (length keys))) else unless_repeated (first_repeated same keys) (rows_of_targets same keys targets)

  -- for each target
  pub reindexed_count : IfOk (reindexed same keys targets) (λ rows. length rows ≡ length targets)
  reindexed_count = by _ refl
    where
      by : (b : Bool) → pointwise same keys targets ≡ b → IfOk (found_if b) (λ rows. length rows ≡ length targets)
      by true e = length-map-range_with_len _ 0 _ ∙ as_long same keys targets e
      by false e = search (unless_keeps, length-map)

  -- among the keys
  abbrev IsThere : Option ℕ → Type 0
  IsThere row = IfSome row (λ place. place < length keys)

  pub reindexed_below : IfOk (reindexed same keys targets) (All IsThere)
  reindexed_below = by _
    where
      in_order : All (λ k. k < length keys) (range_with_len 0 (length keys))
      in_order = grind (arith, length-range_with_len, get_or-range_with_len)

      by : (b : Bool) → IfOk (found_if b) (All IsThere)
      by true = All-map IsThere Some (range_with_len 0 (length keys)) in_order
      by false =
          unless_keeps (All IsThere) (first_repeated same keys) _
          (All-map IsThere (λ target. only_row (rows_where (same target) 0 keys)) targets
          (λ k d lt. only_keeps _ _ (rows_inside (same _) keys)))

  -- a key that is refused
  pub repeat_given : (P : K → Type 0) (key : K) → All P keys → reindexed same keys targets ≡ Err (duplicate_labels key) → P key
  repeat_given P key all is = by _ is
    where
      of : (o : Option K) → IfSome o P → unless_repeated o (rows_of_targets same keys targets) ≡ Err (duplicate_labels key) → P key
      of None h e = cc
      of (Some other) h e = grind arith

      by : (b : Bool) → found_if b ≡ Err (duplicate_labels key) → P key
      by true e = cc
      by false e = search (of, first_among)
