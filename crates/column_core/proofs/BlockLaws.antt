-- Columns that are set, filled and turned about.
use Rattle.{meaning_cells.{proofs.Common.{◌≡◌, ◌≢◌, ℕ, zero, suc, ◌+◌, ◌-◌, ◌*◌, ◌^◌, ◌<◌, ◌≤◌, Bool, subst, Int64, List, length, map, replicate, reverse, slice_set, slice_index_or, refl, sym, ap, ◌∙◌, arith, Option, Some, None, is_some, unwrap_or, slice_get, slice_get-get_or, cond, false, [], ◌∷◌, All, All-map, All-set, All-tail, All-replicate, length-replicate, length-set, fill_by_all, range_with_len, Cell, Na, Kind, tabulate, with_cell}, specs.Block.{filled_with}}, std.proofs.Common.{ap₂}, std.proofs.lemmas.List.{get_or-reverse, length-reverse, length-map, map-set, get_or-map}, column_core.{specs.{Lanes.{option_at}, Columns.{CellColumn, column_with}, Blocks.{CellBlock, IsColumnOf, FitBlock, block_with, columns_in, column_in, put_in}}, proofs.{ColumnLaws.{length-tabulate}, MoveLaws.{get_or-tabulate}, CellRows.{range-same}, RowsMade.{option-set_same, option-set_other}}}}

set-range : {C : Type 0} (f g : ℕ → C) (a n i : ℕ) (x : C) → i < n → g (a + i) ≡ x → ((k : ℕ) → a ≤ k → k < a + n → k ≢ a + i → g k ≡ f k) → slice_set (map f (range_with_len a n)) i x ≡ map g (range_with_len a n)
set-range f g a zero i = search
set-range f g a (suc n) zero = grind (arith, range-same)
set-range f g a (suc n) (suc i) = grind (arith, slice_set, set-range f g (a + 1) n)

-- one of the values of a function of the row is set
pub set-tabulate : {C : Type 0} (n : ℕ) (f g : ℕ → C) (i : ℕ) (x : C) → i < n → g i ≡ x → ((k : ℕ) → k < n → k ≢ i → g k ≡ f k) → slice_set (tabulate n f) i x ≡ tabulate n g
set-tabulate = grind (arith, set-range)

range-replicate : {C : Type 0} (f : ℕ → C) (c : C) (a n : ℕ) → ((k : ℕ) → f k ≡ c) → map f (range_with_len a n) ≡ replicate n c
range-replicate f c a zero h = refl
range-replicate f c a (suc n) h = search (range-replicate f c (a + 1) n h)

-- a column with another value
pub put_column : {T : Type 0} (kind : Kind) (cell : Option T → Cell) (values new_values : List T) (present new_present : List Bool) (at : ℕ) (o : Option T) (blank : T) (x : Cell) (old : CellColumn) → new_values ≡ slice_set values at (unwrap_or o blank) → new_present ≡ slice_set present at (is_some o)
    → length present ≡ length values → cell o ≡ x → column_with kind cell (length values) (option_at values present) ≡ old → at < length old.cells
    → column_with kind cell (length new_values) (option_at new_values new_present) ≡ record { kind = old.kind; cells = slice_set old.cells at x }
put_column = grind (arith, length-tabulate, slice_set, unwrap_or, is_some, length-set, set-tabulate, option-set_same, option-set_other)

-- the same value, or none, at each row
pub option-replicate : {T : Type 0} (n : ℕ) (o : Option T) (blank : T) (row : ℕ) → row < n → option_at (replicate n (unwrap_or o blank)) (replicate n (is_some o)) row ≡ o
option-replicate zero o _ _ h = absurd (omega arith)
option-replicate (suc n) None _ zero h = refl
option-replicate (suc n) (Some x) _ zero h = refl
option-replicate (suc n) o _ (suc row) h = option-replicate n o _ _ (omega arith)

-- a column of one cell, again and again
pub repeated_column : {T : Type 0} (kind : Kind) (cell : Option T → Cell) (n m : ℕ) (row : ℕ → Option T) (o : Option T) → n ≡ m → ((k : ℕ) → k < m → row k ≡ o) → column_with kind cell n row ≡ record { kind = kind; cells = replicate m (cell o) }
repeated_column _ cell n m row o e same = cc (range-same (λ k. cell (row k)) (λ k. cell o) 0 m (λ k le lt. ap cell (same k (omega arith))), range-replicate (λ k. cell o) (cell o) 0 m (λ k. refl))

-- a row counted from the last
turned_get : {T : Type 0} (xs : List T) (k : ℕ) → k < length xs → slice_get (reverse xs) k ≡ slice_get xs (length xs - 1 - k)
turned_get [] k lt = absurd (omega (arith, lt))
turned_get (x ∷ xs) k lt =
    slice_get-get_or (reverse (x ∷ xs)) k x (omega (arith, lt, length-reverse (x ∷ xs)))
    ∙ ap Some (get_or-reverse (x ∷ xs) k x lt)
    ∙ sym (slice_get-get_or (x ∷ xs) (length (x ∷ xs) - 1 - k) x (omega (arith, lt)))

turned_option : {T : Type 0} (values : List T) (present : List Bool) (k : ℕ) → length present ≡ length values → k < length values → option_at (reverse values) (reverse present) k ≡ option_at values present (length values - 1 - k)
turned_option {T} values present k alike lt =
    ap₂ (λ (b : Bool) (o : Option T). cond b o None)
    (get_or-reverse present k false (omega (arith, lt, alike)) ∙ ap (λ n. slice_index_or present (n - 1 - k) false) alike)
    (turned_get values k lt)

-- the values of a function of the row, the last first
turned_tabulate : {C : Type 0} (n : ℕ) (f g : ℕ → C) (d : C) → ((k : ℕ) → k < n → g k ≡ f (n - 1 - k)) → tabulate n g ≡ reverse (tabulate n f)
turned_tabulate n f g d same =
    sym (fill_by_all g (reverse (tabulate n f)) n d (length-reverse (tabulate n f) ∙ length-tabulate n f) (λ k lt. grind (arith, get_or-reverse (tabulate n f) k d, length-tabulate n f, get_or-tabulate n f (n - 1 - k) d, same k lt)))

-- a column that is turned about
pub turned_column : {T : Type 0} (kind : Kind) (cell : Option T → Cell) (values new_values : List T) (present new_present : List Bool) (old : CellColumn) → new_values ≡ reverse values → new_present ≡ reverse present
    → length present ≡ length values → column_with kind cell (length values) (option_at values present) ≡ old
    → column_with kind cell (length new_values) (option_at new_values new_present) ≡ record { kind = old.kind; cells = reverse old.cells }
turned_column = grind (arith, length-reverse, turned_tabulate, turned_option)

-- each column has as many cells as there are rows
pub even_columns : (kind : Kind) (rows : ℕ) (columns : List CellColumn) (b : CellBlock) → FitBlock kind rows columns → block_with kind rows columns ≡ b → All (λ column. length column ≡ b.rows) b.columns
even_columns kind rows columns b fit e = subst (λ (x : CellBlock). All (λ column. length column ≡ x.rows) x.columns) e (All-map (λ column. length column ≡ rows) (λ (c : CellColumn). c.cells) columns (λ k d lt. (fit.each k d lt).long))

-- a block whose cell is put
pub put_block : (kind : Kind) (rows : ℕ) (columns : List CellColumn) (column row : ℕ) (x : Cell) → column < length columns → block_with kind rows (put_in columns column row x) ≡ record { kind = kind; rows = rows; columns = with_cell (block_with kind rows columns).columns column row x }
put_block kind rows columns column row x lt =
    ap (λ (cs : List (List Cell)). record { kind = kind; rows = rows; columns = cs })
    (map-set (λ (c : CellColumn). c.cells) columns column _
    ∙ ap (λ (cells : List Cell). slice_set (map (λ (c : CellColumn). c.cells) columns) column (slice_set cells row x)) (sym (get_or-map (λ (c : CellColumn). c.cells) columns column record { kind = Int64; cells = [] } [] lt)))

pub put_fit : (kind : Kind) (rows : ℕ) (columns : List CellColumn) (column row : ℕ) (x : Cell) → column < length columns → FitBlock kind rows columns → FitBlock kind rows (put_in columns column row x)
put_fit kind rows columns column row x lt fit =
    let was = fit.each column record { kind = Int64; cells = [] } lt in
    record {
      each = All-set (IsColumnOf kind rows) columns column _ (record { alike = was.alike; long = length-set (column_in columns column).cells row x ∙ was.long }) fit.each;
      few = subst (λ n. n * rows < 2 ^ 64) (sym (length-set columns column _)) fit.few;
    }

-- the columns of a block and what contracts see of it
module _ (kind : Kind) (rows : ℕ) (columns : List CellColumn) (b : CellBlock) (fit : FitBlock kind rows columns) (e : block_with kind rows columns ≡ b) where
  pub column_count : length columns ≡ length b.columns
  column_count = sym (length-map columns (λ (c : CellColumn). c.cells)) ∙ ap (λ (x : CellBlock). length x.columns) e

  module _ (column : ℕ) (lt : column < length b.columns) where
    was : IsColumnOf kind rows (column_in columns column)
    was = fit.each column record { kind = Int64; cells = [] } (omega (arith, lt, column_count))

    pub column_rows : length (column_in columns column).cells ≡ b.rows
    column_rows = was.long ∙ ap (λ (x : CellBlock). x.rows) e

    pub column_kind : (column_in columns column).kind ≡ b.kind
    column_kind = was.alike ∙ ap (λ (x : CellBlock). x.kind) e

    pub put_seen : (kind' : Kind) (columns' : List CellColumn) (row : ℕ) (x : Cell) → kind' ≡ kind → columns' ≡ put_in columns column row x → block_with kind' rows columns' ≡ record { kind = b.kind; rows = b.rows; columns = with_cell b.columns column row x }
    put_seen kind' columns' row x k is =
        ap₂ (λ (n : Kind) (cs : List CellColumn). block_with n rows cs) k is
        ∙ put_block kind rows columns column row x (omega (arith, lt, column_count))
        ∙ ap (λ (y : CellBlock). record { kind = y.kind; rows = y.rows; columns = with_cell y.columns column row x }) e

    pub put_still : (kind' : Kind) (columns' : List CellColumn) (row : ℕ) (x : Cell) → kind' ≡ kind → columns' ≡ put_in columns column row x → FitBlock kind' rows columns'
    put_still kind' columns' row x k is =
        subst (λ (n : Kind). FitBlock n rows columns') (sym k) (subst (FitBlock kind rows) (sym is) (put_fit kind rows columns column row x (omega (arith, lt, column_count)) fit))

same_columns : (kind : Kind) (rows : ℕ) (columns : List CellColumn) → All (IsColumnOf kind rows) columns → map (λ (cells : List Cell). record { kind = kind; cells = cells }) (map (λ (c : CellColumn). c.cells) columns) ≡ columns
same_columns kind rows [] each = refl
same_columns kind rows (c ∷ columns) each =
    ap₂ (λ (k : Kind) (cs : List CellColumn). record { kind = k; cells = c.cells } ∷ cs) (sym (each 0 c (omega arith)).alike) (same_columns kind rows columns (All-tail (IsColumnOf kind rows) c columns each))

-- the columns of a block with their kind
pub columns_seen : (kind : Kind) (rows : ℕ) (columns : List CellColumn) (b : CellBlock) → FitBlock kind rows columns → block_with kind rows columns ≡ b → columns_in b ≡ columns
columns_seen kind rows columns b fit e = ap columns_in (sym e) ∙ same_columns kind rows columns fit.each

-- columns of missing cells
pub blank_fit : (kind : Kind) (n rows : ℕ) (columns : List CellColumn) → columns ≡ replicate n record { kind = kind; cells = replicate rows Na } → n * rows < 2 ^ 64 → FitBlock kind rows columns
blank_fit kind n rows columns is few = subst (FitBlock kind rows) (sym is) (record {
  each = All-replicate (IsColumnOf kind rows) n _ (record { alike = refl; long = length-replicate rows Na });
  few = subst (λ k. k * rows < 2 ^ 64) (sym (length-replicate n _)) few;
})

pub blank_seen : (kind : Kind) (n rows : ℕ) (columns : List CellColumn) → columns ≡ replicate n record { kind = kind; cells = replicate rows Na } → block_with kind rows columns ≡ record { kind = kind; rows = rows; columns = filled_with Na n rows }
blank_seen kind n rows columns is = ap (block_with kind rows) is ∙ ap (λ (cs : List (List Cell)). record { kind = kind; rows = rows; columns = cs }) (cells_replicate n)
  where
    cells_replicate : (k : ℕ) → map (λ (c : CellColumn). c.cells) (replicate k record { kind = kind; cells = replicate rows Na }) ≡ replicate k (replicate rows Na)
    cells_replicate zero = refl
    cells_replicate (suc k) = ap (λ (cs : List (List Cell)). replicate rows Na ∷ cs) (cells_replicate k)
