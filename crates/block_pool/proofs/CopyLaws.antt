-- Columns that are shown, and copies that are made cell by cell.
use Rattle.{column_core.proofs.cells.Common.{◌≡◌, ℕ, zero, suc, ◌+◌, ◌-◌, ◌<◌, ◌≤◌, Bool, true, false, List, [], ◌∷◌, ◌++◌, length, take, drop, replicate, slice_set, slice_get, slice_index_or, refl, sym, ap, ◌∙◌, arith, Some, add-one, length-replicate, get_or-set_same, Cell, Na, place_from, tabulate, with_cell}, std.proofs.{Common.{ap₂, map}, Math.Seq.{take-append_seam, drop-append_seam}, lemmas.{List.{get_or-replicate, set-set, length-map, length-drop, length-take-le, get_or-map}, Option.{slice_get-get_or}}}, column_core.specs.cells.Block.{strided, filled_with}, column_core.{specs.{Lanes.{lane_place}, Blocks.{CellBlock}}, proofs.{ColumnLaws.{length-tabulate, get-tabulate}, CellRows.{range-same}}}, block_pool.specs.{declared.views.View.{View}, Placed.{step_of, shown_cell, shown_column, shown_grid}}}

-- a place by the step of a view's rows
pub place_step : (start stride : ℕ) (back : Bool) (row : ℕ) → place_from start (step_of stride back) row ≡ lane_place start stride back row
place_step start stride false row = refl
place_step start zero true row = omega arith
place_step start (suc n) true row = refl

-- what rows of a column are
pub column_shown : (v : View) (cells : List Cell) → strided Na cells record { start = v.start; step = step_of v.stride v.back; count = v.count } ≡ tabulate v.count (shown_cell v cells)
column_shown v cells = range-same _ (shown_cell v cells) 0 v.count (λ row le lt. ap (λ place. slice_index_or cells place Na) (place_step v.start v.stride v.back row))

module _ {X : Type 0} where
  -- one more of the first list
  one_later : (xs ys : List X) (i : ℕ) (x : X) → slice_get xs i ≡ Some x → i < length ys → slice_set (take i xs ++ drop i ys) i x ≡ take (suc i) xs ++ drop (suc i) ys
  one_later [] ys i x e h = cc
  one_later (a ∷ xs) [] i x e h = absurd (omega (arith, h))
  one_later (a ∷ xs) (b ∷ ys) zero x e h = cc
  one_later (a ∷ xs) (b ∷ ys) (suc i) x e h = ap (λ l. a ∷ l) (one_later xs ys i x e (omega (arith, h)))

  pub mixed_more : (xs ys : List X) (i : ℕ) (x : X) → slice_get xs i ≡ Some x → i < length ys → slice_set (take i xs ++ drop i ys) i x ≡ take (i + 1) xs ++ drop (i + 1) ys
  mixed_more xs ys i x e h = rw add-one (one_later xs ys i x e h)

  pub mixed_length : (xs ys : List X) (i : ℕ) → length xs ≡ length ys → i ≤ length xs → length (take i xs ++ drop i ys) ≡ length ys
  mixed_length xs ys zero e h = refl
  mixed_length [] ys (suc i) e h = absurd (omega (arith, h))
  mixed_length (a ∷ xs) [] (suc i) e h = absurd (omega (arith, e))
  mixed_length (a ∷ xs) (b ∷ ys) (suc i) e h = let k = mixed_length xs ys i (omega (arith, e)) (omega (arith, h)) in omega (arith, k)

  pub mixed_next : (xs ys : List X) (i : ℕ) (d : X) → i ≤ length xs → slice_index_or (take i xs ++ drop i ys) i d ≡ slice_index_or ys i d
  mixed_next xs ys zero d h = refl
  mixed_next [] ys (suc i) d h = absurd (omega (arith, h))
  mixed_next (a ∷ xs) [] (suc i) d h = none xs i d
    where
      none : (xs : List X) (i : ℕ) (d : X) → slice_index_or (take i xs ++ []) i d ≡ d
      none xs zero d = refl
      none [] (suc i) d = refl
      none (x ∷ xs) (suc i) d = none xs i d
  mixed_next (a ∷ xs) (b ∷ ys) (suc i) d h = mixed_next xs ys i d (omega (arith, h))

  pub mixed_done : (xs ys : List X) (n : ℕ) → length xs ≡ n → length ys ≡ n → take n xs ++ drop n ys ≡ xs
  mixed_done [] [] zero e f = refl
  mixed_done [] [] (suc n) e f = refl
  mixed_done [] (b ∷ ys) n e f = absurd (omega (arith, e, f))
  mixed_done (a ∷ xs) [] n e f = absurd (omega (arith, e, f))
  mixed_done (a ∷ xs) (b ∷ ys) zero e f = absurd (omega (arith, e))
  mixed_done (a ∷ xs) (b ∷ ys) (suc n) e f = ap (λ l. a ∷ l) (mixed_done xs ys n (omega (arith, e)) (omega (arith, f)))

-- a cell more is put into a column
pub cell_filled : (columns : List (List Cell)) (column i : ℕ) (cells old : List Cell) (c : Cell) → column < length columns → slice_get cells i ≡ Some c → i < length old
    → with_cell (slice_set columns column (take i cells ++ drop i old)) column i c ≡ slice_set columns column (take (i + 1) cells ++ drop (i + 1) old)
cell_filled columns column i cells old c within is lt =
    ap (λ l. slice_set (slice_set columns column (take i cells ++ drop i old)) column (slice_set l i c)) (get_or-set_same columns column (take i cells ++ drop i old) [] within)
    ∙ set-set columns column _ _
    ∙ ap (slice_set columns column) (mixed_more cells old i c is lt)

-- a column more is filled
module _ (block : CellBlock) (v : View) where
  abbrev pub target : List (List Cell)
  target = tabulate v.columns (shown_column block v)

  abbrev pub blank : List (List Cell)
  blank = filled_with Na v.columns v.count

  pub target_length : length target ≡ v.columns
  target_length = length-tabulate v.columns (shown_column block v)

  pub blank_length : length blank ≡ v.columns
  blank_length = length-replicate v.columns (replicate v.count Na)

  pub blank_next : (column : ℕ) → column < v.columns → length (slice_index_or (take column target ++ drop column blank) column []) ≡ v.count
  blank_next column lt =
      ap length (mixed_next target blank column [] (omega (arith, target_length, lt)) ∙ get_or-replicate v.columns column (replicate v.count Na) [] lt)
      ∙ length-replicate v.count Na

  pub column_filled : (column : ℕ) → column < v.columns → slice_set (take column target ++ drop column blank) column (shown_column block v column) ≡ take (column + 1) target ++ drop (column + 1) blank
  column_filled column lt = mixed_more target blank column _ (get-tabulate v.columns (shown_column block v) column lt) (omega (arith, blank_length, lt))

  pub all_filled : take v.columns target ++ drop v.columns blank ≡ target
  all_filled = mixed_done target blank v.columns target_length blank_length

  pub filled_columns : (column : ℕ) → column ≤ v.columns → length (take column target ++ drop column blank) ≡ v.columns
  filled_columns column le = mixed_length target blank column (target_length ∙ sym blank_length) (omega (arith, target_length, le)) ∙ blank_length

-- one column alone
pub one_column : (block : CellBlock) (v : View) (cells : List Cell) → v.columns ≡ 1 → cells ≡ shown_column block v 0 → record { kind = block.kind; rows = length cells; columns = cells ∷ [] } ≡ shown_grid block v
one_column block v cells one is =
    ap₂ (λ (n : ℕ) (columns : List (List Cell)). record { kind = block.kind; rows = n; columns = columns }) (ap length is ∙ length-tabulate v.count _)
    (ap (λ (l : List Cell). l ∷ []) is ∙ ap (λ n. tabulate n (shown_column block v)) (sym one))

-- a list behind another one, of which one item is set
set_behind : {X : Type 0} (front xs : List X) (i : ℕ) (x : X) → slice_set (front ++ xs) (length front + i) x ≡ front ++ slice_set xs i x
set_behind [] xs i x = (let e : zero + i ≡ i = omega arith in ap (λ k. slice_set xs k x) e)
set_behind (y ∷ front) xs i x = (let e : suc (length front) + i ≡ suc (length front + i) = omega arith in ap (λ k. slice_set (y ∷ (front ++ xs)) k x) e ∙ ap (λ l. y ∷ l) (set_behind front xs i x))

behind_at : {X : Type 0} (front xs : List X) (i : ℕ) (d : X) → slice_index_or (front ++ xs) (length front + i) d ≡ slice_index_or xs i d
behind_at [] xs i d = (let e : zero + i ≡ i = omega arith in ap (λ k. slice_index_or xs k d) e)
behind_at (y ∷ front) xs i d = (let e : suc (length front) + i ≡ suc (length front + i) = omega arith in ap (λ k. slice_index_or (y ∷ (front ++ xs)) k d) e ∙ behind_at front xs i d)

-- items behind others are changed
pub changed_behind : {X : Type 0} (f : X → X) (list xs : List X) (from : ℕ) → from ≡ length list → take from (list ++ xs) ++ map f (drop from (list ++ xs)) ≡ list ++ map f xs
changed_behind f list xs from e =
    ap (λ n. take n (list ++ xs) ++ map f (drop n (list ++ xs))) e
    ∙ ap₂ (λ a b. a ++ map f b) (take-append_seam list xs) (drop-append_seam list xs)

-- one more of the items from a place on is changed
module _ {X : Type 0} (f : X → X) (old : List X) (from k : ℕ) (le : from ≤ k) (lt : k < length old) (now : List X) (so_far : now ≡ take from old ++ (take (k - from) (map f (drop from old)) ++ drop (k - from) (drop from old))) where
  abbrev rest : List X
  rest = drop from old

  front_long : length (take from old) ≡ from
  front_long = length-take-le from old (omega (arith, le, lt))

  rest_long : k - from < length rest
  rest_long = omega (arith, length-drop from old, le, lt)

  place : length (take from old) + (k - from) ≡ k
  place = omega (arith, front_long, le)

  pub changed_next : (d : X) → slice_index_or now k d ≡ slice_index_or rest (k - from) d
  changed_next d =
      ap (λ l. slice_index_or l k d) so_far
      ∙ ap (λ i. slice_index_or (take from old ++ (take (k - from) (map f rest) ++ drop (k - from) rest)) i d) (sym place)
      ∙ behind_at (take from old) (take (k - from) (map f rest) ++ drop (k - from) rest) (k - from) d
      ∙ mixed_next (map f rest) rest (k - from) d (omega (arith, rest_long, length-map rest f))

  pub changed_more : (x : X) → x ≡ f (slice_index_or now k x) → slice_set now k x ≡ take from old ++ (take (k + 1 - from) (map f rest) ++ drop (k + 1 - from) rest)
  changed_more x is =
      let there : slice_get (map f rest) (k - from) ≡ Some x = slice_get-get_or (map f rest) (k - from) x (omega (arith, rest_long, length-map rest f)) ∙ ap Some (get_or-map f rest (k - from) x x rest_long ∙ ap f (sym (changed_next x)) ∙ sym is) in
      let next : k - from + 1 ≡ k + 1 - from = omega (arith, le) in
      ap (λ l. slice_set l k x) so_far
      ∙ ap (λ i. slice_set (take from old ++ (take (k - from) (map f rest) ++ drop (k - from) rest)) i x) (sym place)
      ∙ set_behind (take from old) (take (k - from) (map f rest) ++ drop (k - from) rest) (k - from) x
      ∙ ap (λ l. take from old ++ l) (mixed_more (map f rest) rest (k - from) x there rest_long)
      ∙ ap (λ n. take from old ++ (take n (map f rest) ++ drop n rest)) next
