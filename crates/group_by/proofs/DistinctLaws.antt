-- How many different cells each group has, with one cell more.
use Rattle.{
  column_core.{proofs.cells.Common.{◌≡◌, ◌∙◌, ◌+◌, ◌<◌, ◌≤◌, ◌^◌, refl, arith, ℕ, Bool, true, false, not, ◌&&◌, ◌||◌, cond, List, [], ◌∷◌, ◌++◌, filter, take, length, slice_index_or, All, Option, Some, None, length-append, false≢true, eqb-true, length-map, get_or_default, filter-append, list_any-append, list_any, IsEquivalence, nat_eq_equiv, Cell, CellValue, na_cell, datum, AreDistinct, IsGiven, is_present, present, same_cell, distinct, distinct_count}, specs.Moves.{IsPlaceOf}},
  std.{proofs.Common.{append-nil}, specs.Cmp.{on_equiv, and_equiv}},
  indexmap.specs.IndexSet.{insert_key},
  cell_core.specs.contracts.cell.CellEq.TheImpl.Laws.{laws-law},
  nullable_array.proofs.DistinctLaws.{numbers_apart, truths_apart, texts_apart},
  factorize.{proofs.row_keys.DistinctLaws.{covers_more}, specs.group.Rows.{is_in, rows_of_group, cells_of_group}},
  group_by.{specs.{Distincts.{is_missing, same_by_number, same_member, noted, new_in}, Counted.{IsCounted}}, proofs.{RowLaws.{is_in_some, cells_more, cells_same}, NumberLaws.{rows_few}}},
}

-- one more at the end, which is new or not
distinct_push : {X : Type 0} (eq : X → X → Bool) (xs : List X) (x : X) → distinct eq (xs ++ x ∷ []) ≡ distinct eq xs ++ cond (list_any (eq x) xs) [] (x ∷ [])
distinct_push _ [] x = refl
distinct_push eq (k ∷ ks) x = grind (arith, filter-append, distinct_push eq ks x)

counted_push : {X : Type 0} (eq : X → X → Bool) (xs : List X) (x : X) → length (distinct eq (xs ++ x ∷ [])) ≡ length (distinct eq xs) + cond (list_any (eq x) xs) 0 1
counted_push = grind (arith, distinct_push, length-append)

filter_few : {X : Type 0} (p : X → Bool) (xs : List X) → length (filter p xs) ≤ length xs
filter_few p [] = omega arith
filter_few p (x ∷ xs) = grind (arith, filter_few p xs)

distinct_few : {X : Type 0} (eq : X → X → Bool) (xs : List X) → length (distinct eq xs) ≤ length xs
distinct_few _ [] = omega arith
distinct_few eq (x ∷ xs) = omega (arith, filter_few (λ q. not (eq q x)) (distinct eq xs), distinct_few eq xs)

pub few_distinct : (cells : List CellValue) → distinct_count cells ≤ length cells
few_distinct cells = omega (arith, distinct_few same_cell (present cells), filter_few is_present cells)

-- a cell that is missing is not present, and the others are
missing_value : (texts : List (List ℕ)) (c : Cell) → is_present (datum texts c) ≡ not (is_missing c)
missing_value = grind arith

-- given cells that are present are told apart by number as they are by what they hold
cells_apart : (texts : List (List ℕ)) → AreDistinct texts → (x y : Cell) → IsGiven texts x → IsGiven texts y → is_missing x ≡ false → is_missing y ≡ false → same_cell (datum texts x) (datum texts y) ≡ same_by_number x y
cells_apart = grind (arith, false≢true, numbers_apart, truths_apart, texts_apart)

member_laws : IsEquivalence same_member
member_laws = and_equiv (on_equiv _ nat_eq_equiv) (on_equiv (λ (p : ℕ × Cell). p.1) laws-law)

member_more : (seen : List (ℕ × Cell)) (k q : ℕ × Cell) → list_any (same_member q) (insert_key same_member seen k) ≡ (list_any (same_member q) seen || (same_member q k || false))
member_more seen k q = covers_more _ member_laws k _ _ (λ p. refl) q ∙ list_any-append _ seen _

module _ (texts : List (List ℕ)) (apart : AreDistinct texts) (codes : List (Option ℕ)) (cells : List CellValue) (row count : ℕ) (inside : row < length codes) (cell : Cell) (given : IsGiven texts cell) (here : slice_index_or cells row na_cell ≡ datum texts cell) (seen : List (ℕ × Cell)) where
  -- the present cells of a group in the rows below this one
  abbrev pub so_far : ℕ → ℕ → List CellValue
  so_far below group = present (cells_of_group group (take below codes) cells)

  -- a cell was seen in a group exactly where it is among the group's cells
  abbrev pub AreSeen : List (ℕ × Cell) → ℕ → Type 0
  AreSeen members below = (group : ℕ) (c : Cell) → IsGiven texts c → is_missing c ≡ false → list_any (same_member (group, c)) members ≡ list_any (same_cell (datum texts c)) (so_far below group)

  abbrev code : Option ℕ
  code = slice_index_or codes row None

  so_far_more : (g : ℕ) → so_far (row + 1) g ≡ so_far row g ++ cond (is_in g code && not (is_missing cell)) (datum texts cell ∷ []) []
  so_far_more g = elim (is_in g code) as (λ b. is_in g code ≡ b → so_far (row + 1) g ≡ so_far row g ++ cond (b && not (is_missing cell)) (datum texts cell ∷ []) []) [
    | true ↦ λ e. cc (cells_more codes row inside cells g (is_in_some g code e), here, filter-append is_present (cells_of_group g (take row codes) cells) (datum texts cell ∷ []), missing_value texts cell)
    | false ↦ λ e. cc (cells_same codes row inside cells g e, append-nil (so_far row g))
  ] refl

  module _ (were : AreSeen seen row) where
    pub seen_more : (o : Option ℕ) → code ≡ o → AreSeen (noted seen o cell) (row + 1)
    seen_more None is g c hc pc = grind (arith, so_far_more g, append-nil)
    seen_more (Some group) is g c hc pc = grind (arith, so_far_more g, append-nil, list_any-append, member_more seen (group, cell) (g, c), were g c hc pc, cells_apart texts apart c cell hc given pc)

    -- how many different cells a group has after it
    count_more : (o : Option ℕ) → code ≡ o → (g : ℕ) → length (distinct same_cell (so_far (row + 1) g)) ≡ length (distinct same_cell (so_far row g)) + cond (is_in g (new_in seen o cell)) 1 0
    count_more None is g = grind (arith, so_far_more g, append-nil)
    count_more (Some group) is g = grind (arith, so_far_more g, append-nil, counted_push, were g cell given, eqb-true)

    pub distinct_more : (before after : List ℕ) (new : Option ℕ) → new ≡ new_in seen code cell → IsCounted new before after → length before ≡ count
        → ((g : ℕ) → g < count → slice_index_or before g 0 ≡ distinct_count (cells_of_group g (take row codes) cells)) → (g : ℕ) → g < count → slice_index_or after g 0 ≡ distinct_count (cells_of_group g (take (row + 1) codes) cells)
    distinct_more = grind (arith, count_more)

-- what is noted of a cell
module _ (seen : List (ℕ × Cell)) (group : Option ℕ) (cell : Cell) (g : ℕ) (is : group ≡ Some g) where
  pub noted_there : is_missing cell ≡ false → noted seen group cell ≡ insert_key same_member seen (g, cell)
  noted_there there = cc is

  pub noted_missing : is_missing cell ≡ true → noted seen group cell ≡ seen
  noted_missing missing = cc is

  pub new_there : is_missing cell ≡ false → new_in seen group cell ≡ cond (list_any (same_member (g, cell)) seen) None (Some g)
  new_there there = cc is

-- there is room to count a cell more
pub room : (codes : List (Option ℕ)) (cells : List CellValue) (row count : ℕ) (counts : List ℕ) → row < length codes → length codes < 2 ^ 64 → length counts ≡ count → ((g : ℕ) → g < count → slice_index_or counts g 0 ≡ distinct_count (cells_of_group g (take row codes) cells))
    → All (λ n. n + 1 < 2 ^ 64) counts
room codes cells row _ counts inside small size are k d lt =
    let here : slice_index_or counts k d ≡ distinct_count (cells_of_group k (take row codes) cells) = grind (arith, get_or_default) in
    let long : length (cells_of_group k (take row codes) cells) ≡ length (rows_of_group k (take row codes)) = search length-map in
    omega (arith, here, few_distinct (cells_of_group k (take row codes) cells), long, rows_few k row codes (omega (arith, inside)), inside, small)

pub new_below : (seen : List (ℕ × Cell)) (count : ℕ) (code new : Option ℕ) (cell : Cell) → new ≡ new_in seen code cell → IsPlaceOf count code → IsPlaceOf count new
new_below = grind arith
