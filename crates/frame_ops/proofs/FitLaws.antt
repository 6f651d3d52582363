-- Columns of one label are of one kind where each is of the kind of the first one of the other side.
use Rattle.{
  frame_parts.{proofs.Common.{◌≡◌, ◌≢◌, ◌<◌, ◌+◌, ◌&&◌, ℕ, zero, suc, Bool, true, false, List, [], ◌∷◌, length, slice_index_or, refl, sym, ◌∙◌, arith, if◌then◌else◌, All, All-nil, All-cons, All-head, Kind, ColumnOf, column_at, no_column, list_all, same_kind, labels_fit}, specs.form.Infix.{pairs_fit}},
  std.{specs.Bool.{Decides}, proofs.lemmas.List.Folds.{list_all_at}},
  label_align.specs.pick.Rows.{rows_where},
  frame_ops.specs.Fitting.{is_of_kind, of_one_kind, fits_first, firsts_fit},
}

pub kind_same : (a b : Kind) → Decides (same_kind a b) (a ≡ b)
kind_same = grind arith

module _ {K C : Type 0} (same : K → K → Bool) where
  -- a column of a label is of the kind that it meets
  fit_at : (kind : Kind) (key : K) (others : List K) (columns : List (ColumnOf C)) (q : ℕ) (d : K) → length others ≡ length columns → labels_fit same kind (key ∷ []) others columns ≡ true
      → q < length others → same (slice_index_or others q d) key ≡ true → (column_at columns q).kind ≡ kind
  fit_at kind key (o ∷ os) (c ∷ cs) zero d many fit lt met = grind (arith, kind_same)
  fit_at kind key (o ∷ os) (c ∷ cs) (suc q) d many fit lt met = grind (arith, fit_at kind key os cs q d)
  fit_at kind key [] columns q d many fit lt met = grind arith
  fit_at kind key (o ∷ os) [] q d many fit lt met = grind arith

  fit_all : (kind : Kind) (key : K) (others : List K) (columns : List (ColumnOf C)) → ((q : ℕ) (d : K) → q < length others → same (slice_index_or others q d) key ≡ true → (column_at columns q).kind ≡ kind)
      → labels_fit same kind (key ∷ []) others columns ≡ true
  fit_all kind key (o ∷ os) (c ∷ cs) each =
      let rest = fit_all kind key os cs (λ q d lt met. each (suc q) d (grind arith) met) in
      let first = each 0 o (grind arith) in
      grind (arith, kind_same)
  fit_all kind key [] columns each = refl
  fit_all kind key (o ∷ os) [] each = refl

  abbrev pub Met : List K → List (ColumnOf C) → List K → List (ColumnOf C) → Type 0
  Met keys cs others columns = (p q : ℕ) (d e : K) → p < length keys → q < length others → same (slice_index_or others q e) (slice_index_or keys p d) ≡ true → (column_at columns q).kind ≡ (column_at cs p).kind

  pub pair_at : (keys : List K) (cs : List (ColumnOf C)) (others : List K) (columns : List (ColumnOf C)) → length keys ≡ length cs → length others ≡ length columns → pairs_fit same keys cs others columns ≡ true → Met keys cs others columns
  pair_at (key ∷ keys) (c ∷ cs) others columns many many' fit zero q d e lt lt' met = grind (arith, fit_at c.kind key others columns q e)
  pair_at (key ∷ keys) (c ∷ cs) others columns many many' fit (suc p) q d e lt lt' met = grind (arith, pair_at keys cs others columns)
  pair_at [] cs others columns many many' fit p q d e lt lt' met = grind arith
  pair_at (key ∷ keys) [] others columns many many' fit p q d e lt lt' met = grind arith

  pub pair_all : (keys : List K) (cs : List (ColumnOf C)) (others : List K) (columns : List (ColumnOf C)) → Met keys cs others columns → pairs_fit same keys cs others columns ≡ true
  pair_all (key ∷ keys) (c ∷ cs) others columns each =
      let rest = pair_all keys cs others columns (λ p q d e lt lt' met. each (suc p) q d e (grind arith) lt' met) in
      let first = fit_all c.kind key others columns (λ q d lt met. each zero q key d (grind arith) lt met) in
      cc
  pair_all [] cs others columns each = refl
  pair_all (key ∷ keys) [] others columns each = refl

  -- where all columns are of one kind
  kind_at : (cs : List (ColumnOf C)) (kind : Kind) (k : ℕ) → list_all (is_of_kind kind) cs ≡ true → k < length cs → (column_at cs k).kind ≡ kind
  kind_at cs kind k all lt = grind (arith, kind_same, list_all_at (is_of_kind kind) cs k no_column lt)

  pub one_kind_fits : (keys : List K) (cs : List (ColumnOf C)) (others : List K) (columns : List (ColumnOf C)) → length keys ≡ length cs → length others ≡ length columns → of_one_kind cs columns ≡ true → pairs_fit same keys cs others columns ≡ true
  one_kind_fits keys cs others columns many many' alike =
      let kind = (column_at cs 0).kind in
      let left : list_all (is_of_kind kind) cs ≡ true = grind arith in
      let right : list_all (is_of_kind kind) columns ≡ true = grind arith in
      pair_all keys cs others columns (λ p q d e lt lt' met. kind_at columns kind q right (omega (arith, lt', many')) ∙ sym (kind_at cs kind p left (omega (arith, lt, many))))

  abbrev FirstMet : List K → List (ColumnOf C) → List K → List (ColumnOf C) → Type 0
  FirstMet keys cs others columns = (p : ℕ) (d : K) → p < length keys → fits_first (column_at cs p).kind columns (rows_where (same (slice_index_or keys p d)) 0 others) ≡ true

  first_at : (keys : List K) (cs : List (ColumnOf C)) (others : List K) (columns : List (ColumnOf C)) → length keys ≡ length cs → firsts_fit same keys cs others columns ≡ true → FirstMet keys cs others columns
  first_at (key ∷ keys) (c ∷ cs) others columns many fit zero d lt = grind arith
  first_at (key ∷ keys) (c ∷ cs) others columns many fit (suc p) d lt = grind (arith, first_at keys cs others columns)
  first_at [] cs others columns many fit p d lt = grind arith
  first_at (key ∷ keys) [] others columns many fit p d lt = grind arith

  first_all : (keys : List K) (cs : List (ColumnOf C)) (others : List K) (columns : List (ColumnOf C)) → FirstMet keys cs others columns → firsts_fit same keys cs others columns ≡ true
  first_all (key ∷ keys) (c ∷ cs) others columns each =
      let rest = first_all keys cs others columns (λ p d lt. each (suc p) d (grind arith)) in
      let first = each zero key (grind arith) in
      cc
  first_all [] cs others columns each = refl
  first_all (key ∷ keys) [] others columns each = refl

-- the rows that pass
module _ {K : Type 0} (test : K → Bool) where
  -- a row that passes, where the first one has this number
  abbrev HasRow : ℕ → List K → ℕ → Type 0
  HasRow n xs row = (k : ℕ) × (row ≡ n + k) × (k < length xs) × ((d : K) → test (slice_index_or xs k d) ≡ true)

  one_later : (n : ℕ) (x : K) (xs : List K) (row : ℕ) → HasRow (n + 1) xs row → HasRow n (x ∷ xs) row
  one_later n x xs row found = (suc found.0, omega (arith, found.1), grind (arith, found.2), found.3)

  all_rows : (n : ℕ) (xs : List K) → All (HasRow n xs) (rows_where test n xs)
  all_rows n [] = All-nil (HasRow n [])
  all_rows n (x ∷ xs) = by (test x) refl (λ k d lt. one_later n x xs _ (all_rows (n + 1) xs k d lt))
    where
      by : (b : Bool) → test x ≡ b → All (HasRow n (x ∷ xs)) (rows_where test (n + 1) xs) → All (HasRow n (x ∷ xs)) (if b then n ∷ rows_where test (n + 1) xs else rows_where test (n + 1) xs)
      by true e later = All-cons (HasRow n (x ∷ xs)) n (rows_where test (n + 1) xs) (0, omega arith, grind arith, λ d. e) later
      by false e later = later

  -- a row of a list
  abbrev pub IsRow : List K → ℕ → Type 0
  IsRow xs row = (row < length xs) × ((d : K) → test (slice_index_or xs row d) ≡ true)

  pub rows_pass : (xs : List K) → All (IsRow xs) (rows_where test 0 xs)
  rows_pass xs = λ i e lt. let found : HasRow 0 xs (slice_index_or (rows_where test 0 xs) i e) = all_rows 0 xs i e lt in
      let same : slice_index_or (rows_where test 0 xs) i e ≡ found.0 = omega (arith, found.1) in
      rw same (found.2, found.3)

  first_row : (xs : List K) (row : ℕ) (rows : List ℕ) → rows_where test 0 xs ≡ row ∷ rows → IsRow xs row
  first_row xs row rows is = All-head (IsRow xs) row rows (rw is at (rows_pass xs))

  pub no_row : (n : ℕ) (xs : List K) (k : ℕ) (d : K) → rows_where test n xs ≡ [] → k < length xs → test (slice_index_or xs k d) ≢ true
  no_row n [] k d none lt = grind arith
  no_row n (x ∷ xs) zero d none lt = grind arith
  no_row n (x ∷ xs) (suc k) d none lt = grind (arith, no_row (n + 1) xs k d)

module _ {K C : Type 0} (same : K → K → Bool) (decides : (a b : K) → Decides (same a b) (a ≡ b)) (keys : List K) (cs : List (ColumnOf C)) (others : List K) (columns : List (ColumnOf C)) (many : length keys ≡ length cs) (many' : length others ≡ length columns) where
  abbrev fit : Bool
  fit = pairs_fit same keys cs others columns

  abbrev first : Bool
  first = firsts_fit same keys cs others columns

  abbrev first' : Bool
  first' = firsts_fit same others columns keys cs

  firsts_of : fit ≡ true → first ≡ true
  firsts_of is = first_all same keys cs others columns (λ p d lt. by p d lt (rows_where (same (slice_index_or keys p d)) 0 others) refl)
    where
      by : (p : ℕ) (d : K) → p < length keys → (rows : List ℕ) → rows_where (same (slice_index_or keys p d)) 0 others ≡ rows → fits_first (column_at cs p).kind columns rows ≡ true
      by p d lt [] e = refl
      by p d lt (q ∷ qs) e =
          let row = first_row (same (slice_index_or keys p d)) others q qs e in
          let at = pair_at same keys cs others columns many many' is p q d d lt row.0 in
          grind (arith, kind_same, decides, row.1 d)

  firsts_of' : fit ≡ true → first' ≡ true
  firsts_of' is = first_all same others columns keys cs (λ q d lt. by q d lt (rows_where (same (slice_index_or others q d)) 0 keys) refl)
    where
      by : (q : ℕ) (d : K) → q < length others → (rows : List ℕ) → rows_where (same (slice_index_or others q d)) 0 keys ≡ rows → fits_first (column_at columns q).kind cs rows ≡ true
      by q d lt [] e = refl
      by q d lt (p ∷ ps) e =
          let row = first_row (same (slice_index_or others q d)) keys p ps e in
          let at = pair_at same keys cs others columns many many' is p q d d row.0 lt in
          grind (arith, kind_same, row.1 d)

  pairs_of : first ≡ true → first' ≡ true → fit ≡ true
  pairs_of is is' = pair_all same keys cs others columns (λ p q d e lt lt' met. by p q d e lt lt' met (rows_where (same (slice_index_or keys p d)) 0 others) refl (rows_where (same (slice_index_or others q e)) 0 keys) refl)
    where
      by : (p q : ℕ) (d e : K) → p < length keys → q < length others → same (slice_index_or others q e) (slice_index_or keys p d) ≡ true
          → (rows : List ℕ) → rows_where (same (slice_index_or keys p d)) 0 others ≡ rows → (rows' : List ℕ) → rows_where (same (slice_index_or others q e)) 0 keys ≡ rows' → (column_at columns q).kind ≡ (column_at cs p).kind
      by p q d e lt lt' met [] none _ _ =
          let not = no_row (same (slice_index_or keys p d)) 0 others q e none lt' in
          grind (arith, decides)
      by p q d e lt lt' met (_ ∷ _) _ [] none = absurd (no_row (same (slice_index_or others q e)) 0 keys p d none lt met)
      by p q d e lt lt' met (q0 ∷ qs) is-q (p0 ∷ ps) is-p =
          let row = first_row (same (slice_index_or others q e)) keys p0 ps is-p in
          let one : slice_index_or keys p0 d ≡ slice_index_or keys p d = grind (arith, decides, row.1 d) in
          let left = first_at same keys cs others columns many is p d lt in
          let left' = first_at same keys cs others columns many is p0 d row.0 in
          let right = first_at same others columns keys cs many' is' q e lt' in
          let rows : rows_where (same (slice_index_or keys p0 d)) 0 others ≡ q0 ∷ qs = rw one is-q in
          grind (arith, kind_same)

  by_cases : (b f g : Bool) → (b ≡ true → f ≡ true) → (b ≡ true → g ≡ true) → (f ≡ true → g ≡ true → b ≡ true) → b ≡ (f && g)
  by_cases true f g x y z = cc (x refl, y refl)
  by_cases false true true x y z = z refl refl
  by_cases false false g x y z = refl
  by_cases false true false x y z = refl

  pub pairs_by_firsts : fit ≡ (first && first')
  pairs_by_firsts = by_cases fit first first' firsts_of firsts_of' pairs_of
