-- Laws of lists of rows.
use Rattle.{
  meaning_cells.proofs.Common.{◌≡◌, ◌∙◌, ap, refl, arith, ℕ, zero, suc, ◌+◌, ◌-◌, ◌<◌, ◌≤◌, Bool, true, false, List, [], ◌∷◌, ◌++◌, length, take, map, slice_index_or, All, Ok, if◌then◌else◌, take_more, length-take-le, append-nil, map-id, range_with_len},
  meaning_pick.specs.{Rows.{rows_where, are_some}, Labels.{unless_none}},
}

-- a test that is known
pub when_so : {A : Type 0} (b : Bool) (x y : A) → b ≡ true → (if b then x else y) ≡ x
when_so b x y e = search

pub when_not : {A : Type 0} (b : Bool) (x y : A) → b ≡ false → (if b then x else y) ≡ y
when_not b x y e = search

-- rows of two lists, one behind the other
joined : (b : Bool) (row : ℕ) (whole front back : List ℕ) → whole ≡ front ++ back → (if b then row ∷ whole else whole) ≡ (if b then row ∷ front else front) ++ back
joined = grind arith

pub rows_where-append : {X : Type 0} (p : X → Bool) (row : ℕ) (xs ys : List X) → rows_where p row (xs ++ ys) ≡ rows_where p row xs ++ rows_where p (row + length xs) ys
rows_where-append p _ [] _ = grind arith
rows_where-append p row (x ∷ xs) ys = grind (arith, joined, rows_where-append p (row + 1) xs ys)

-- one row more
pub rows_more : {X : Type 0} (p : X → Bool) (xs : List X) (k : ℕ) (d : X) → k < length xs
    → rows_where p 0 (take (k + 1) xs) ≡ rows_where p 0 (take k xs) ++ (if p (slice_index_or xs k d) then k ∷ [] else [])
rows_more p xs k d lt =
    let few : k ≤ length xs = omega arith in
    let at : 0 + length (take k xs) ≡ k = omega (arith, length-take-le k xs few) in
    cc (take_more xs k d lt, rows_where-append p 0 (take k xs) (slice_index_or xs k d ∷ []))

pub rows_more_yes : {X : Type 0} (p : X → Bool) (xs : List X) (k : ℕ) (d : X) (rows rows' : List ℕ) → k < length xs → rows ≡ rows_where p 0 (take k xs) → p (slice_index_or xs k d) ≡ true → rows' ≡ rows ++ k ∷ []
    → rows' ≡ rows_where p 0 (take (k + 1) xs)
rows_more_yes p xs k d _ _ lt before passes pushed = cc (when_so (p (slice_index_or xs k d)) (k ∷ []) [] passes, rows_more p xs k d lt)

pub rows_more_no : {X : Type 0} (p : X → Bool) (xs : List X) (k : ℕ) (d : X) (rows : List ℕ) → k < length xs → rows ≡ rows_where p 0 (take k xs) → p (slice_index_or xs k d) ≡ false
    → rows ≡ rows_where p 0 (take (k + 1) xs)
rows_more_no p xs k d _ lt before fails = cc (append-nil (rows_where p 0 (take k xs)), when_not (p (slice_index_or xs k d)) (k ∷ []) [] fails, rows_more p xs k d lt)

-- rows of a list that is seen otherwise
pub rows_where-map : {X Y : Type 0} (P : X → Type 0) (p : Y → Bool) (q : X → Bool) (f : X → Y) → ((x : X) → P x → p (f x) ≡ q x) → (row : ℕ) (xs : List X) → All P xs
    → rows_where p row (map f xs) ≡ rows_where q row xs
rows_where-map P p q f _ _ [] _ = refl
rows_where-map P p q f same row (x ∷ xs) all =
    let later = rows_where-map P p q f same (row + 1) xs (λ k d lt. all (suc k) d (omega arith)) in
    λ j. if same x (all 0 x (omega arith)) j then row ∷ later j else later j

-- rows that pass two tests that agree on them
pub rows_where-same : {X : Type 0} (P : X → Type 0) (p q : X → Bool) → ((x : X) → P x → p x ≡ q x) → (row : ℕ) (xs : List X) → All P xs → rows_where p row xs ≡ rows_where q row xs
rows_where-same P p q same row xs all = cc (map-id xs, rows_where-map P p q (λ x. x) same row xs all)

-- a list whose elements pass just from one place up to another
pub rows_in_interval : {X : Type 0} (p : X → Bool) (d : X) (row low high : ℕ) (xs : List X) → high ≤ length xs
    → ((k : ℕ) → k < low → k < length xs → p (slice_index_or xs k d) ≡ false)
    → ((k : ℕ) → low ≤ k → k < high → p (slice_index_or xs k d) ≡ true)
    → ((k : ℕ) → high ≤ k → k < length xs → p (slice_index_or xs k d) ≡ false)
    → rows_where p row xs ≡ range_with_len (row + low) (high - low)
rows_in_interval p d _ _ _ [] within before inside behind = grind arith
rows_in_interval p d _ zero zero (x ∷ xs) within before inside behind =
    when_not _ _ _ (behind 0 (omega arith) (omega arith))
    ∙ rows_in_interval p d _ 0 0 xs (omega arith) (λ k lt in'. absurd (omega arith)) (λ k le lt. absurd (omega arith)) (λ k le lt. behind (suc k) (omega arith) (omega arith))
rows_in_interval p d row zero (suc high) (x ∷ xs) within before inside behind =
    let first : row + 1 + 0 ≡ row + 1 = omega arith in
    let start : row ≡ row + 0 = omega arith in
    when_so _ _ _ (inside 0 (omega arith) (omega arith))
    ∙ ap (λ l. row ∷ l)
    (rows_in_interval p d _ 0 _ xs (omega arith) (λ k lt in'. absurd (omega arith)) (λ k le lt. inside (suc k) (omega arith) (omega arith)) (λ k le lt. behind (suc k) (omega arith) (omega arith))
    ∙ counted first high)
    ∙ counted_on start high
  where
    counted : {m n : ℕ} → m ≡ n → (high : ℕ) → range_with_len m (high - 0) ≡ range_with_len n high
    counted {m} {n} e high = grind arith

    counted_on : {m n : ℕ} → m ≡ n → (high : ℕ) → range_with_len m (suc high) ≡ range_with_len n (suc high - 0)
    counted_on {m} {n} e high = let same : suc high ≡ suc high - 0 = omega arith in cc
rows_in_interval p d row (suc low) high (x ∷ xs) within before inside behind =
    let start : row + 1 + low ≡ row + suc low = omega arith in
    let count : high - 1 - low ≡ high - suc low = omega arith in
    cc (when_not (p x) (row ∷ rows_where p (row + 1) xs) (rows_where p (row + 1) xs) (before 0 (omega arith) (omega arith)), rows_in_interval p d (row + 1) low (high - 1) xs (omega arith) (λ k lt in'. before (suc k) (omega arith) (omega arith)) (λ k le lt. inside (suc k) (omega arith) (omega arith)) (λ k le lt. behind (suc k) (omega arith) (omega arith)))

-- a key without a row, and one with some

pub some_there : {K : Type 0} (key : K) (rows : List ℕ) → are_some rows ≡ true → unless_none key rows ≡ Ok rows
some_there = grind arith
