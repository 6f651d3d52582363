-- The one row that has a key and a label.
use Rattle.meaning_join.{proofs.{cells.Common.{◌≡◌, ◌∙◌, nil_from_length, ◌+◌, ◌<◌, ◌≤◌, ◌&&◌, ◌↔◌, ℕ, zero, suc, Bool, true, false, cond, List, [], ◌∷◌, ◌++◌, refl, sym, arith, length, Some, None, slice_index_or, nat_lt, false≢true, ltb-false, All, list_any, pointwise, IsEquivalence, ◌||◌}, pick.RowLaws.{rows_where-same}}, specs.{pick.Rows.{rows_where, only_row}, align.Targets.{first_where, first_repeated}}}

-- lists behind equally long ones
pub pointwise-append : {A : Type 0} (same : A → A → Bool) (a b c d : List A) → length a ≡ length b → pointwise same (a ++ c) (b ++ d) ≡ (pointwise same a b && pointwise same c d)
pointwise-append same [] [] c d e = refl
pointwise-append same [] (y ∷ b) c d e = grind arith
pointwise-append same (x ∷ a) [] c d e = grind arith
pointwise-append same (x ∷ a) (y ∷ b) c d e = grind (arith, pointwise-append same a b c d)

-- lists of one row at most
first_only : (row : ℕ) (rows : List ℕ) → length (row ∷ rows) ≤ 1 → only_row (row ∷ rows) ≡ Some row
first_only row [] few = refl
first_only row (other ∷ rows) few = absurd (omega (arith, few))

first_behind : (at : ℕ) (rows : List ℕ) → only_row rows ≡ Some at → All (λ row. at + 1 ≤ row) rows → ⊥
first_behind at [] e all = grind arith
first_behind at (row ∷ []) e all = grind (arith, all 0 row)
first_behind at (row ∷ (other ∷ rows)) e all = grind arith

not_first : (n at : ℕ) (rows : List ℕ) → length (at ∷ rows) ≤ 1 → only_row (at ∷ rows) ≡ Some n → at < n → ⊥
not_first n at [] few e lt = grind arith
not_first n at (other ∷ rows) few e lt = grind arith

-- what passes, if one element does
module _ {X : Type 0} (p : X → Bool) where
  pub none_where : (xs : List X) → first_where p xs ≡ None → (i : ℕ) (d : X) → i < length xs → p (slice_index_or xs i d) ≡ false
  none_where [] none i d lt = grind arith
  none_where (x ∷ xs) none zero d lt = grind arith
  none_where (x ∷ xs) none (suc i) d lt = grind (arith, none_where xs)

  pub no_rows : (at : ℕ) (xs : List X) → list_any p xs ≡ false → rows_where p at xs ≡ []
  no_rows at [] none = refl
  no_rows at (x ∷ xs) none = grind (arith, no_rows (at + 1) xs)

  pub fails_at : (at : ℕ) (xs : List X) → rows_where p at xs ≡ [] → (i : ℕ) (d : X) → i < length xs → p (slice_index_or xs i d) ≡ false
  fails_at at [] none i d lt = grind arith
  fails_at at (x ∷ xs) none zero d lt = grind arith
  fails_at at (x ∷ xs) none (suc i) d lt = grind (arith, fails_at (at + 1) xs)

  rows_from : (at : ℕ) (xs : List X) → All (λ row. at ≤ row) (rows_where p at xs)
  rows_from at [] = grind arith
  rows_from at (x ∷ xs) = grind (arith, rows_from (at + 1) xs)

  -- where one element at most passes, its row is the only one
  module _ (at : ℕ) (x : X) (xs : List X) where
    abbrev later : List ℕ
    later = rows_where p (at + 1) xs

    first_tells : length (rows_where p at (x ∷ xs)) ≤ 1 → (only_row (rows_where p at (x ∷ xs)) ≡ Some at) ↔ (p x ≡ true)
    first_tells few = elim (p x) as (λ b. length (cond b (at ∷ later) later) ≤ 1 → (only_row (cond b (at ∷ later) later) ≡ Some at) ↔ (b ≡ true)) [
      | true ↦ λ few. (λ e. refl, λ e. first_only at later few)
      | false ↦ λ few. (λ e. absurd (first_behind at later e (rows_from (at + 1) xs)), λ e. absurd (false≢true e))
    ] few

    later_tells : (n : ℕ) (b : Bool) → at < n → (later ≡ [] → b ≡ false) → length (rows_where p at (x ∷ xs)) ≤ 1 → (length later ≤ 1 → (only_row later ≡ Some n) ↔ (b ≡ true)) → (only_row (rows_where p at (x ∷ xs)) ≡ Some n) ↔ (b ≡ true)
    later_tells n b above none few tells = elim (p x) as (λ c. length (cond c (at ∷ later) later) ≤ 1 → (only_row (cond c (at ∷ later) later) ≡ Some n) ↔ (b ≡ true)) [
      | true ↦ λ few. let empty : later ≡ [] = nil_from_length later (omega (arith, few)) in
          (λ e. absurd (not_first n at later few e above), λ e. absurd (false≢true (sym (none empty) ∙ e)))
      | false ↦ tells
    ] few

  pub only_tells : (at : ℕ) (xs : List X) → length (rows_where p at xs) ≤ 1 → (i : ℕ) (d : X) → i < length xs → (only_row (rows_where p at xs) ≡ Some (at + i)) ↔ (p (slice_index_or xs i d) ≡ true)
  only_tells at [] few i d lt = grind arith
  only_tells at (x ∷ xs) few zero d lt = let here : at + 0 ≡ at = omega arith in rw here (first_tells at x xs few)
  only_tells at (x ∷ xs) few (suc i) d lt =
      let here : at + suc i ≡ at + 1 + i = omega arith in
      rw here (later_tells at x xs (at + 1 + i) (p (slice_index_or xs i d)) (omega arith) (λ none. fails_at (at + 1) xs none i d (omega (arith, lt))) few (λ few. only_tells (at + 1) xs few i d (omega (arith, lt))))

-- an element that passes
pub passing : {X : Type 0} (p : X → Bool) (xs : List X) → list_any p xs ≡ true → (i : ℕ) × ((i < length xs) × ((d : X) → p (slice_index_or xs i d) ≡ true))
passing p [] none = absurd (false≢true none)
passing {X = X} p (x ∷ xs) some = elim (p x) as (λ b. p x ≡ b → (b || list_any p xs) ≡ true → (i : ℕ) × ((i < length (x ∷ xs)) × ((d : X) → p (slice_index_or (x ∷ xs) i d) ≡ true))) [
  | true ↦ λ here some. (0, (omega arith, λ d. here))
  | false ↦ λ here some. let later = passing p xs some in (suc later.0, (omega (arith, later.1.0), later.1.1))
] refl some

-- where no key stands twice
module _ {K : Type 0} (same : K → K → Bool) (laws : IsEquivalence same) (keys : List K) (once : first_repeated same keys ≡ None) where
  pub few_rows : (key : K) → length (rows_where (same key) 0 keys) ≤ 1
  few_rows key = by _ refl
    where
      by : (b : Bool) → list_any (same key) keys ≡ b → length (rows_where (same key) 0 keys) ≤ 1
      by false none = rw (no_rows (same key) 0 keys none) (omega arith)
      by true some =
          let found = passing (same key) keys some in
          let other = slice_index_or keys found.0 key in
          let alike = rows_where-same (λ k. Unit {0}) (same key) (same other) (λ x h. laws.congr key other x (found.1.1 key)) 0 keys (λ k d lt. tt) in
          rw alike (ltb-false 1 _ (none_where (λ k. nat_lt 1 (length (rows_where (same k) 0 keys))) keys once found.0 key found.1.0))
