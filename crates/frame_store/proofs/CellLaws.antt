-- How many cells new columns have, and columns that are named.
use Rattle.{meaning_tables.{proofs.cells.Common.{◌≡◌, ◌≢◌, ◌∙◌, refl, sym, ap, arith, ℕ, zero, suc, ◌+◌, ◌*◌, ◌++◌, Bool, true, false, ◌||◌, not, cond, ◌==◌, List, [], ◌∷◌, length, map, sum, filter, All, All-tail, All-filter, sum_by-cons, cases_eq, inl, inr, eq-eqb, nat_eq, slice_index_or}, specs.{Table.{ColumnOf, NumberedTable, column_at, no_column}, cells.Reduce.{distinct}}}, std.proofs.lemmas.{Bool.{ne_eqb}, List.{Filters.{length-filter_both}, Sums.{length-filter}}}, std.specs.List.{list_any}, cell_core.specs.declared.cell.Cell.{Cell}, block_pool.specs.Pools.{cells_of}, block_manager.{specs.Managed.{times, cells_named}, proofs.TimesLaws.{times-cons, same, same_one, same_none}}, frame_store.{specs.{Parts.{AreBelow, HaveRows, columns_of}, Derivations.{CanExtend}, declared.derivations.Extension.{Extension}}, proofs.KeptLaws.{cells_of_blocks}}}

all_first : {X : Type 0} (P : X → Type 0) (xs ys : List X) → All P (xs ++ ys) → All P xs
all_first P [] ys all k d lt = absurd (omega (arith, lt))
all_first P (x ∷ xs) ys all zero d lt = all 0 x (omega arith)
all_first P (x ∷ xs) ys all (suc k) d lt = all_first P xs ys (All-tail P x (xs ++ ys) all) k d (omega (arith, lt))

-- new columns before those of a table
pub cells_of_extension : (t : NumberedTable) (e : Extension) → CanExtend t e → sum (map cells_of e.first) ≡ length e.axis.tuples * length e.first
cells_of_extension t e fits = cells_of_blocks e.first (length e.axis.tuples) fits.single (all_first (λ c. length c.cells ≡ length e.axis.tuples) (columns_of e.first) t.columns fits.whole.filled)

sum_even : (f : ℕ → ℕ) (n : ℕ) (xs : List ℕ) → All (λ x. f x ≡ n) xs → sum (map f xs) ≡ n * length xs
sum_even f n [] even = omega arith
sum_even f n (x ∷ xs) even =
    omega (arith, sum_by-cons (λ (y : ℕ). y) (f x) (map f xs), even 0 x (omega arith), sum_even f n xs (All-tail (λ y. f y ≡ n) x xs even))

all_distinct : (P : ℕ → Type 0) (xs : List ℕ) → All P xs → All P (distinct ◌==◌ xs)
all_distinct P [] all k d lt = absurd (omega (arith, lt))
all_distinct P (x ∷ xs) all zero d lt = all 0 x (omega arith)
all_distinct P (x ∷ xs) all (suc k) d lt = All-filter (λ y. not (y == x)) P (distinct ◌==◌ xs) (all_distinct P xs (All-tail P x xs all)) k d (omega (arith, lt))

-- columns of so many rows, each counted once
pub cells_of_named : (columns : List (ColumnOf Cell)) (rows : ℕ) (places : List ℕ) → HaveRows rows columns → AreBelow (length columns) places → cells_named columns places ≡ rows * length (distinct ◌==◌ places)
cells_of_named columns rows places filled below =
    sum_even (λ place. length (column_at columns place).cells) rows (distinct ◌==◌ places)
    (all_distinct (λ place. length (column_at columns place).cells ≡ rows) places (λ k d lt. filled (slice_index_or places k d) no_column (below k d lt)))

-- how often a number stands among others, without some of them
without_it : (n : ℕ) (xs : List ℕ) → times n (filter (λ y. not (y == n)) xs) ≡ 0
without_it n [] = refl
without_it n (x ∷ xs) = elim (cases_eq x n) [
  | inl e ↦ rw (eq-eqb x n e) (without_it n xs)
  | inr ne ↦ rw (ne_eqb x n ne) (omega (arith, times-cons n x (filter (λ y. not (y == n)) xs), same_none n x ne, without_it n xs))
]

without_another : (n m : ℕ) → m ≢ n → (xs : List ℕ) → times n (filter (λ y. not (y == m)) xs) ≡ times n xs
without_another n m apart [] = refl
without_another n m apart (x ∷ xs) = elim (cases_eq x m) [
  | inl e ↦ rw (eq-eqb x m e) (omega (arith, times-cons n x xs, same_none n x (λ z. apart (sym e ∙ z)), without_another n m apart xs))
  | inr ne ↦ rw (ne_eqb x m ne) (omega (arith, times-cons n x (filter (λ y. not (y == m)) xs), times-cons n x xs, without_another n m apart xs))
]

times_distinct : (n : ℕ) (xs : List ℕ) → times n (distinct ◌==◌ xs) ≡ cond {A = ℕ} (list_any (nat_eq n) xs) 1 0
times_distinct n [] = refl
times_distinct n (x ∷ xs) =
    let split : times n (distinct ◌==◌ (x ∷ xs)) ≡ same n x + times n (filter (λ y. not (y == x)) (distinct ◌==◌ xs)) = times-cons n x (filter (λ y. not (y == x)) (distinct ◌==◌ xs)) in
    elim (cases_eq x n) [
      | inl e ↦
          let none : times n (filter (λ y. not (y == x)) (distinct ◌==◌ xs)) ≡ 0 = ap (λ m. times n (filter (λ y. not (y == m)) (distinct ◌==◌ xs))) e ∙ without_it n (distinct ◌==◌ xs) in
          let one : times n (distinct ◌==◌ (x ∷ xs)) ≡ 1 = omega (arith, split, none, same_one n x e) in
          one ∙ sym (ap (λ b. cond {A = ℕ} (b || list_any (nat_eq n) xs) 1 0) (eq-eqb n x (sym e)))
      | inr ne ↦
          let rest : times n (distinct ◌==◌ (x ∷ xs)) ≡ times n (distinct ◌==◌ xs) = omega (arith, split, same_none n x ne, without_another n x ne (distinct ◌==◌ xs)) in
          rest ∙ times_distinct n xs ∙ sym (ap (λ b. cond {A = ℕ} (b || list_any (nat_eq n) xs) 1 0) (ne_eqb n x (λ z. ne (sym z))))
    ]

more_or_same : (b : Bool) (m k d : ℕ) → m + k ≡ d → m ≡ cond b 1 0 → suc k ≡ cond b d (suc d)
more_or_same true m k d both there = omega (arith, both, there)
more_or_same false m k d both there = omega (arith, both, there)

-- one number more, counted once
pub distinct_more : (n : ℕ) (xs : List ℕ) → length (distinct ◌==◌ (n ∷ xs)) ≡ cond (list_any (nat_eq n) xs) (length (distinct ◌==◌ xs)) (suc (length (distinct ◌==◌ xs)))
distinct_more n xs =
    more_or_same (list_any (nat_eq n) xs) (length (filter (λ y. y == n) (distinct ◌==◌ xs))) (length (filter (λ y. not (y == n)) (distinct ◌==◌ xs))) (length (distinct ◌==◌ xs))
    (length-filter_both (λ y. y == n) (λ y. not (y == n)) (λ y. refl) (distinct ◌==◌ xs))
    (length-filter (λ y. y == n) (distinct ◌==◌ xs) ∙ times_distinct n xs)
