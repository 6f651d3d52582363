-- Rows of a label that are found from the first one to the next.
use Rattle.{
  meaning_pick.{proofs.cells.Common.{rules, ◌≡◌, ap, sym, refl, arith, ℕ, ◌+◌, ◌-◌, ◌<◌, ◌≤◌, Bool, true, cond, List, [], ◌∷◌, ◌++◌, length, drop, slice_index_or, Option, Some, None, same_from_decides, drop-drop, drop_more, length-drop, get_or-drop, get_or_default, position_from, lookup, Label}, specs.Rows.{rows_where, only_row, are_some}},
  std.{proofs.lemmas.List.{append_assoc}, specs.Option.{is_some}},
  index_core.specs.{Labels.{same_number, places_in}, Found.{HaveFirstRows, HaveNextRows}},
}

-- the first row from one on that passes
abbrev pub first_from : {X : Type 0} → (X → Bool) → List X → ℕ → Option ℕ
first_from p xs k = position_from p k (drop k xs)

-- a row, and those behind it that pass
abbrev pub rest_from : {X : Type 0} → (X → Bool) → List X → Option ℕ → List ℕ
rest_from p xs None = []
rest_from p xs (Some row) = row ∷ rows_where p (row + 1) (drop (row + 1) xs)

module _ {X : Type 0} (p : X → Bool) (xs : List X) where
  -- the list behind an element
  behind : (ys : List X) (y : X) (k : ℕ) → drop k xs ≡ y ∷ ys → drop (k + 1) xs ≡ ys
  behind _ y k e = cc (drop-drop 1 k xs)

  go_rows : (ys : List X) (k : ℕ) → drop k xs ≡ ys → rows_where p k ys ≡ rest_from p xs (position_from p k ys)
  go_rows [] k e = refl
  go_rows (y ∷ ys) k e = grind (arith, behind, go_rows ys (k + 1) (behind ys y k e))

  -- the rows from one on: the first that passes, and those behind it
  pub rows_from : (k : ℕ) → rows_where p k (drop k xs) ≡ rest_from p xs (first_from p xs k)
  rows_from = search go_rows

  pub record Passes (k row : ℕ) (d : X) : Type 0 where
    pub behind : k ≤ row
    pub inside : row < length xs
    pub passes : p (slice_index_or xs row d) ≡ true

  go_place : (ys : List X) (k row : ℕ) (d : X) → drop k xs ≡ ys → position_from p k ys ≡ Some row → Passes k row d
  go_place [] k _ d e found = cc
  go_place (y ∷ ys) k row d e found =
      let count = ap length e in
      let inside : k < length xs = omega (arith, length-drop k xs, count) in
      let same : k ≡ k + 0 = omega arith in
      let here : slice_index_or xs k d ≡ y = cc (get_or-drop k xs 0 d) in
      grind (arith, go_place ys (k + 1) row d (behind ys y k e))

  pub place_found : (k row : ℕ) (d : X) → first_from p xs k ≡ Some row → Passes k row d
  place_found k _ d found = go_place _ k _ d refl found

same_swapped : (a b : Label) → same_number a b ≡ same_number b a
same_swapped = grind (arith, same_from_decides)

-- one row more, from the last one on
pub first_more : (labels : List Label) (p : ℕ) (d : Label) (es es' : List (Label × ℕ)) → p < length labels
    → ((q : Label) → lookup (same_number q) es' ≡ cond (same_number (slice_index_or labels p d) q) (Some p) (lookup (same_number q) es)) → HaveFirstRows es labels (p + 1) → HaveFirstRows es' labels p
first_more = search (rules, same_swapped, drop_more)

-- how many rows may still come
abbrev pub rows_left : List Label → Option ℕ → ℕ
rows_left labels None = 0
rows_left labels (Some row) = length labels - row

module _ (labels : List Label) (label : Label) where
  abbrev found_from : ℕ → Option ℕ
  found_from = first_from (same_number label) labels

  abbrev rest : Option ℕ → List ℕ
  rest = rest_from (same_number label) labels

  -- a row with the label, if there is one
  abbrev pub HasLabel : Option ℕ → Type 0
  HasLabel None = Unit {0}
  HasLabel (Some row) = (row < length labels) × ((d : Label) → same_number label (slice_index_or labels row d) ≡ true)

  pub label_there : (k : ℕ) (found : Option ℕ) → found ≡ found_from k → HasLabel found
  label_there k None _ = tt
  label_there k (Some row) is =
      let there = λ (d : Label). place_found (same_number label) labels k row d (sym is) in
      ((there label).inside, λ d. (there d).passes)

  pub fewer_left : (row : ℕ) (found : Option ℕ) → row < length labels → found ≡ found_from (row + 1) → rows_left labels found < rows_left labels (Some row)
  fewer_left _ None lt is = omega arith
  fewer_left row (Some later) lt is =
      let far = (place_found (same_number label) labels (row + 1) later label (sym is)).behind in
      grind (arith, place_found)

  -- one row is pushed
  pub pushed_row : (row : ℕ) (later : Option ℕ) (rows rows' all : List ℕ) → later ≡ found_from (row + 1) → rows' ≡ rows ++ row ∷ [] → rows ++ rest (Some row) ≡ all → rows' ++ rest later ≡ all
  pushed_row = grind (arith, append_assoc, rows_from)

  -- the rows of a label from its first one on
  pub rows_from_first : (first : Option ℕ) → first ≡ position_from (same_number label) 0 labels → rest first ≡ places_in labels label
  rows_from_first _ is = cc (rows_from (same_number label) labels 0)

  -- the row that is read next
  pub read_next : (next : List (Option ℕ)) (row : ℕ) (read : Option ℕ) → HaveNextRows next labels 0 → HasLabel (Some row) → read ≡ slice_index_or next row read → read ≡ found_from (row + 1)
  read_next next row read links has is =
      let there = links.at row label (omega arith) has.0 in
      let same = has.1 label in
      grind (arith, get_or_default)

  -- a row without a next one is the only one
  pub only_found : (next : List (Option ℕ)) (row : ℕ) (read : Option ℕ) → HaveNextRows next labels 0 → Some row ≡ position_from (same_number label) 0 labels → read ≡ slice_index_or next row read
      → cond (is_some read) None (Some row) ≡ only_row (places_in labels label)
  only_found next row read links first is =
      let later = read_next next row read links (label_there 0 (Some row) first) is in
      grind (arith, rows_from_first (Some row) first, rows_from)

  pub none_found : None ≡ position_from (same_number label) 0 labels → None ≡ only_row (places_in labels label)
  none_found first = cc (rows_from_first None first)

pub are_some_from : (p : Label → Bool) (labels : List Label) (first : Option ℕ) → is_some first ≡ are_some (rest_from p labels first)
are_some_from = grind arith
