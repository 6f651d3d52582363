-- Setting cells leaves in each the last value given for it, and else the old cell.
use Rattle.{meaning_tables.{proofs.cells.Common.{◌≡◌, ◌≢◌, ◌∙◌, refl, sym, subst, ap, arith, ℕ, zero, suc, ◌+◌, ◌-◌, ◌*◌, ◌/◌, ◌%◌, ◌<◌, ◌≤◌, List, [], ◌∷◌, length, slice_set, slice_index, slice_index_or, Some, All, cases_eq, inl, inr, length-set, get_or-set_same, get_or-set_other, get_or_from_slice_get, slice_get_within, slice_get-get_or, div-mul-add, div-add-mod', div_below, Cell}, specs.{Table.{ColumnOf, NumberedTable, column_at, no_column}, Change.{with_cell_at, with_cell, with_values_from}, Valid.{IsWhole}}}, std.proofs.lemmas.Nat.{mod-mul-add, mul-add-lt}, frame_store.specs.{Parts.{AreRowsOf, AreColumnsOf}, Setting.{IsGivenFor, cell_in, AreSet}}}

some_wide : (n a b : ℕ) → n < a * b → 0 < b
some_wide n a zero lt = absurd (omega (arith, lt))
some_wide n a (suc b) lt = omega arith

module _ {C : Type 0} where
  -- a column that f tells as the one that was there
  column_seen : {Y : Type 0} (f : ColumnOf C → Y) (columns : List (ColumnOf C)) (p q : ℕ) (c : ColumnOf C) → f c ≡ f (column_at columns p) → f (column_at (slice_set columns p c) q) ≡ f (column_at columns q)
  column_seen f [] p q c h = refl
  column_seen f (x ∷ xs) zero zero c h = h
  column_seen f (x ∷ xs) zero (suc q) c h = refl
  column_seen f (x ∷ xs) (suc p) zero c h = refl
  column_seen f (x ∷ xs) (suc p) (suc q) c h = column_seen f xs p q c h

  module _ (columns : List (ColumnOf C)) (p r : ℕ) (x : C) where
    kind_kept : (q : ℕ) → (column_at (with_cell columns p r x) q).kind ≡ (column_at columns q).kind
    kind_kept q = column_seen (λ c. c.kind) columns p q (with_cell_at (column_at columns p) r x) refl

    as_long : (q : ℕ) → length (column_at (with_cell columns p r x) q).cells ≡ length (column_at columns q).cells
    as_long q = column_seen (λ c. length c.cells) columns p q (with_cell_at (column_at columns p) r x) (length-set (column_at columns p).cells r x)

    other_row : (q s : ℕ) (d : C) → s ≢ r → cell_in (with_cell columns p r x) q s d ≡ cell_in columns q s d
    other_row q s d other = column_seen (λ c. slice_index_or c.cells s d) columns p q (with_cell_at (column_at columns p) r x) (get_or-set_other (column_at columns p).cells r s x d other)

    other_column : (q s : ℕ) (d : C) → q ≢ p → cell_in (with_cell columns p r x) q s d ≡ cell_in columns q s d
    other_column q s d other = ap (λ (c : ColumnOf C). slice_index_or c.cells s d) (get_or-set_other columns p q (with_cell_at (column_at columns p) r x) no_column other)

    this_cell : (d : C) → p < length columns → r < length (column_at columns p).cells → cell_in (with_cell columns p r x) p r d ≡ x
    this_cell d lt inside =
        ap (λ (c : ColumnOf C). slice_index_or c.cells r d) (get_or-set_same columns p (with_cell_at (column_at columns p) r x) no_column lt)
        ∙ get_or-set_same (column_at columns p).cells r x d inside

    other_cell : (q s : ℕ) (d : C) → ((p ≡ q) × (r ≡ s) → ⊥) → cell_in (with_cell columns p r x) q s d ≡ cell_in columns q s d
    other_cell q s d other = elim (cases_eq p q) [
      | inl same ↦ other_row q s d (λ e. other (same, sym e))
      | inr apart ↦ other_column q s d (λ e. apart (sym e))
    ]

  module _ (rows places : List ℕ) (column row : ℕ) (d : C) where
    -- the value of a number goes to the cell
    abbrev pub Goes : ℕ → Type 0
    Goes n = (slice_index places (n % length places) ≡ column) × (slice_index rows (n / length places) ≡ row)

    kept_from : (k : ℕ) (columns : List (ColumnOf C)) (xs : List C) → ((n : ℕ) → k ≤ n → n < k + length xs → Goes n → ⊥) → cell_in (with_values_from k columns rows places xs) column row d ≡ cell_in columns column row d
    kept_from k columns [] none = refl
    kept_from k columns (x ∷ xs) none =
        kept_from (suc k) (with_cell columns (slice_index places (k % length places)) (slice_index rows (k / length places)) x) xs
        (λ n le lt goes. none n (omega (arith, le)) (omega (arith, lt)) goes)
        ∙ other_cell columns (slice_index places (k % length places)) (slice_index rows (k / length places)) x column row d (none k (omega arith) (omega arith))

    put_from : (k n : ℕ) (columns : List (ColumnOf C)) (xs : List C) → k ≤ n → n < k + length xs → Goes n → ((m : ℕ) → n < m → m < k + length xs → Goes m → ⊥)
        → column < length columns → row < length (column_at columns column).cells → cell_in (with_values_from k columns rows places xs) column row d ≡ slice_index_or xs (n - k) d
    put_from k n columns [] le lt goes last there inside = absurd (omega (arith, lt, le))
    put_from k n columns (x ∷ xs) le lt goes last there inside =
        let p = slice_index places (k % length places) in
        let r = slice_index rows (k / length places) in
        let now = with_cell columns p r x in
        elim (cases_eq k n) [
          | inl same ↦
              let here : Goes k = subst Goes (sym same) goes in
              let first : 0 ≡ n - k = omega (arith, same) in
              let at : p < length columns = subst (λ (q : ℕ). q < length columns) (sym here.0) there in
              let below : r < length (column_at columns p).cells = subst (λ (s : ℕ). s < length (column_at columns p).cells) (sym here.1) (subst (λ (q : ℕ). row < length (column_at columns q).cells) (sym here.0) inside) in
              kept_from (suc k) now xs (λ m low high again. last m (omega (arith, low, same)) (omega (arith, high)) again)
              ∙ subst (λ (q : ℕ). cell_in now q row d ≡ x) here.0 (subst (λ (s : ℕ). cell_in now p s d ≡ x) here.1 (this_cell columns p r x d at below))
              ∙ ap (λ (i : ℕ). slice_index_or (x ∷ xs) i d) first
          | inr other ↦
              let later : suc (n - suc k) ≡ n - k = omega (arith, le, other) in
              put_from (suc k) n now xs (omega (arith, le, other)) (omega (arith, lt)) goes (λ m low high again. last m low (omega (arith, high)) again)
              (omega (arith, there, length-set columns p (with_cell_at (column_at columns p) r x)))
              (omega (arith, inside, as_long columns p r x column))
              ∙ ap (λ (i : ℕ). slice_index_or (x ∷ xs) i d) later
        ]

    -- the value is given for the cell
    module _ (n : ℕ) where
      pub goes : IsGivenFor rows places column row n → Goes n
      goes given =
          let lt : given.j < length places = slice_get_within places given.j column given.column_there in
          let quotient : n / length places ≡ given.i = ap (λ (m : ℕ). m / length places) given.is ∙ div-mul-add given.i (length places) given.j lt in
          let rest : n % length places ≡ given.j = ap (λ (m : ℕ). m % length places) given.is ∙ mod-mul-add given.i (length places) given.j lt in
          (ap (slice_index places) rest ∙ get_or_from_slice_get places given.j column 0 given.column_there, ap (slice_index rows) quotient ∙ get_or_from_slice_get rows given.i row 0 given.row_there)

      pub given : n < length rows * length places → Goes n → IsGivenFor rows places column row n
      given lt there =
          let some : 0 < length places = some_wide n (length rows) (length places) lt in
          record {
            i = n / length places;
            j = n % length places;
            row_there = slice_get-get_or rows (n / length places) 0 (div_below n (length places) (length rows) some lt) ∙ ap Some there.1;
            column_there = slice_get-get_or places (n % length places) 0 (omega (arith, some)) ∙ ap Some there.0;
            is = sym (div-add-mod' n (length places));
          }

  pub kinds_from : (rows places : List ℕ) (k : ℕ) (columns : List (ColumnOf C)) (xs : List C) (q : ℕ) → (column_at (with_values_from k columns rows places xs) q).kind ≡ (column_at columns q).kind
  kinds_from rows places k columns [] q = refl
  kinds_from rows places k columns (x ∷ xs) q = kinds_from rows places (suc k) (with_cell columns (slice_index places (k % length places)) (slice_index rows (k / length places)) x) xs q ∙ kind_kept columns _ _ x q

  pub lengths_from : (rows places : List ℕ) (k : ℕ) (columns : List (ColumnOf C)) (xs : List C) (q : ℕ) → length (column_at (with_values_from k columns rows places xs) q).cells ≡ length (column_at columns q).cells
  lengths_from rows places k columns [] q = refl
  lengths_from rows places k columns (x ∷ xs) q = lengths_from rows places (suc k) (with_cell columns (slice_index places (k % length places)) (slice_index rows (k / length places)) x) xs q ∙ as_long columns _ _ x q

  pub count_from : (rows places : List ℕ) (k : ℕ) (columns : List (ColumnOf C)) (xs : List C) → length (with_values_from k columns rows places xs) ≡ length columns
  count_from rows places k columns [] = refl
  count_from rows places k columns (x ∷ xs) =
      let p = slice_index places (k % length places) in
      let r = slice_index rows (k / length places) in
      count_from rows places (suc k) (with_cell columns p r x) xs ∙ length-set columns p (with_cell_at (column_at columns p) r x)

  pub are_set : (count : ℕ) (columns : List (ColumnOf C)) (rows places : List ℕ) (values : List C) → All (λ row. row < count) rows → All (λ place. place < length columns) places → All (λ c. length c.cells ≡ count) columns
      → length values ≡ length rows * length places → AreSet rows places values columns (with_values_from 0 columns rows places values)
  are_set count columns rows places values rows_in places_in filled many = record {
    as_many = count_from rows places 0 columns values;
    kinds = kinds_from rows places 0 columns values;
    as_long = lengths_from rows places 0 columns values;
    set = λ column row n none last.
        let g = last.given in
        let place_in : g.j < length places = slice_get_within places g.j column g.column_there in
        let row_in : g.i < length rows = slice_get_within rows g.i row g.row_there in
        let there : column < length columns = subst (λ (q : ℕ). q < length columns) (get_or_from_slice_get places g.j column 0 g.column_there) (places_in g.j 0 place_in) in
        let below : row < count = subst (λ (r : ℕ). r < count) (get_or_from_slice_get rows g.i row 0 g.row_there) (rows_in g.i 0 row_in) in
        let inside : row < length (column_at columns column).cells = omega (arith, filled column no_column there, below) in
        let lt : n < 0 + length values = omega (arith, mul-add-lt g.i (length places) g.j (length rows) row_in place_in, g.is, many) in
        let at : n - 0 ≡ n = omega arith in
        put_from rows places column row none 0 n columns values (omega arith) lt (goes rows places column row none n g)
        (λ m low high again. last.last m low (given rows places column row none m (omega (arith, high, many)) again))
        there inside
        ∙ ap (λ (i : ℕ). slice_index_or values i none) at;
    kept = λ column row none never.
        kept_from rows places column row none 0 columns values (λ n low high again. never n (given rows places column row none n (omega (arith, high, many)) again));
  }

-- of a table that is kept
pub kept_is_set : (kept old : NumberedTable) (rows places : List ℕ) (values : List Cell) (new : List (ColumnOf Cell)) → kept ≡ old → IsWhole kept → new ≡ with_values_from 0 kept.columns rows places values
    → AreRowsOf old rows → AreColumnsOf old places → length values ≡ length rows * length places → AreSet rows places values old.columns new
kept_is_set kept old rows places values new is whole made rows_in places_in many =
    subst (λ (t : NumberedTable). AreSet rows places values t.columns new) is
    (subst (AreSet rows places values kept.columns) (sym made)
    (are_set (length kept.labels) kept.columns rows places values (subst (λ (t : NumberedTable). AreRowsOf t rows) (sym is) rows_in) (subst (λ (t : NumberedTable). AreColumnsOf t places) (sym is) places_in) whole.filled many))
