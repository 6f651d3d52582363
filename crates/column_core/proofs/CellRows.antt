-- From rows of values to columns of cells.
use Rattle.{
  meaning_cells.proofs.Common.{◌≡◌, ℕ, zero, suc, ◌+◌, ◌<◌, ◌≤◌, arith, Bool, List, [], ◌∷◌, ◌++◌, length, map, refl, sym, ap, ◌∙◌, Option, Some, option_map, Result, Ok, Err, OnOk, map-range_with_len_more, range_with_len, Cell, Kind, CellValue, datum, ColumnFault, zero_division, tabulate, try_each, try_pairs, column_of},
  column_core.specs.{Lanes.{option_at, IsPushed}, Columns.{CellColumn, column_value, column_with}, Rows.{try_rows, made_rows, map_rows}},
}

-- the same cells, one function after the other
cells_same : {A B C D : Type 0} (f : A → B) (g : B → C) (h : C → D) (xs : List A) → map (λ x. h (g x)) (map f xs) ≡ map h (map (λ x. g (f x)) xs)
cells_same f g h [] = refl
cells_same f g h (x ∷ xs) = cc (cells_same f g h xs)

-- the rows that were made, as a column
pub made_column : {U : Type 0} (texts : List (List ℕ)) (kind : Kind) (refuse : ℕ → ColumnFault) (cell : Option U → Cell) (n m : ℕ) (at : ℕ → Option (Option U)) (values : List U) (present : List Bool)
    → try_rows n at ≡ Ok (made_rows n values present) → m ≡ n
    → column_of kind refuse (map_rows (λ z. datum texts (cell z)) (try_rows n at)) ≡ Ok (column_value texts (column_with kind cell m (option_at values present)))
made_column = grind (arith, cells_same)

-- two columns side by side, where it is known what is made of the values of a row
pub pairs-rows : {B C : Type 0} (F : CellValue → CellValue → Option C) (r : B → C) (p q : ℕ → CellValue) (at : ℕ → Option B) → ((k : ℕ) → F (p k) (q k) ≡ option_map r (at k)) → (row : ℕ) (ks : List ℕ)
    → try_pairs F row (map p ks) (map q ks) ≡ map_rows r (try_each at row ks)
pairs-rows F r p q _ _ _ [] = refl
pairs-rows F r p q at law row (k ∷ ks) = grind (arith, pairs-rows F r p q at law (suc row) ks)

-- the same of one column
pub each-rows : {B C : Type 0} (F : CellValue → Option C) (r : B → C) (p : ℕ → CellValue) (at : ℕ → Option B) → ((k : ℕ) → F (p k) ≡ option_map r (at k)) → (row : ℕ) (ks : List ℕ) → try_each F row (map p ks) ≡ map_rows r (try_each at row ks)
each-rows F r p _ _ _ [] = refl
each-rows F r p at law row (k ∷ ks) = grind (arith, each-rows F r p at law (suc row) ks)

pub map-map : {A B C : Type 0} (f : A → B) (g : B → C) (xs : List A) → map g (map f xs) ≡ map (λ x. g (f x)) xs
map-map f g [] = refl
map-map f g (x ∷ xs) = cc (map-map f g xs)

-- an operation that refuses no row
pub total-rows : {B : Type 0} (at : ℕ → Option B) (w : ℕ → B) → ((k : ℕ) → at k ≡ Some (w k)) → (row : ℕ) (ks : List ℕ) → try_each at row ks ≡ Ok (map w ks)
total-rows _ w _ _ [] = refl
total-rows at w law row (k ∷ ks) = cc (law k, total-rows at w law (suc row) ks)

map-same : {A B : Type 0} (f g : A → B) → ((x : A) → f x ≡ g x) → (xs : List A) → map f xs ≡ map g xs
map-same f g _ [] = refl
map-same f g law (x ∷ xs) = λ i. law x i ∷ map-same f g law xs i

pub total_column : {U : Type 0} (texts : List (List ℕ)) (kind : Kind) (refuse : ℕ → ColumnFault) (h : CellValue → CellValue) (cell : Option U → Cell) (n : ℕ) (p : ℕ → Cell) (at : ℕ → Option (Option U)) (w : ℕ → Option U)
    → ((k : ℕ) → at k ≡ Some (w k)) → ((k : ℕ) → datum texts (cell (w k)) ≡ h (datum texts (p k)))
    → column_of kind refuse (map_rows (λ z. datum texts (cell z)) (try_rows n at)) ≡ Ok record { kind = kind; cells = map h (map (datum texts) (tabulate n p)) }
total_column texts kind refuse h cell n p at w some law =
    ap (λ r. column_of kind refuse (map_rows (λ z. datum texts (cell z)) r)) (total-rows at w some 0 (range_with_len 0 n))
    ∙ ap (λ l. Ok record { kind = kind; cells = l })
    (search (map-map, map-same))

pub range-same : {C : Type 0} (f g : ℕ → C) (a n : ℕ) → ((k : ℕ) → a ≤ k → k < a + n → f k ≡ g k) → map f (range_with_len a n) ≡ map g (range_with_len a n)
range-same f g a zero _ = refl
range-same f g a (suc n) law = grind (arith, range-same f g (a + 1) n (λ k le lt. law k (omega arith) (omega arith)))

-- columns with the same rows
pub same_column : {T : Type 0} (kind : Kind) (cell : Option T → Cell) (n m : ℕ) (p q : ℕ → Option T) → n ≡ m → ((k : ℕ) → k < m → p k ≡ q k) → column_with kind cell n p ≡ column_with kind cell m q
same_column = grind (arith, range-same)

-- two columns side by side, of which each row makes a cell
pub pairs_column : (texts : List (List ℕ)) (kind : Kind) (F : CellValue → CellValue → Option CellValue) (n m : ℕ) (p q : ℕ → Cell) (w : ℕ → CellValue) → n ≡ m → ((k : ℕ) → F (datum texts (p k)) (datum texts (q k)) ≡ Some (w k))
    → column_of kind zero_division (try_pairs F 0 (map (datum texts) (tabulate n p)) (map (datum texts) (tabulate m q))) ≡ Ok record { kind = kind; cells = tabulate n w }
pairs_column texts _ F n m p q w same law = cc (map-map q (datum texts) (range_with_len 0 n), map-map p (datum texts) (range_with_len 0 n), pairs-rows F (λ c. c) (λ k. datum texts (p k)) (λ k. datum texts (q k)) (λ k. Some (w k)) law 0 (range_with_len 0 n), total-rows (λ k. Some (w k)) w (λ k. refl) 0 (range_with_len 0 n), map-map w (λ c. c) (range_with_len 0 n))

same_ok : {B : Type 0} (r : Result (List B) ℕ) (x y : List B) → r ≡ Ok x → r ≡ Ok y → x ≡ y
same_ok r x y e f = cc

-- a column of rows of which none is refused
pub total_made : {T : Type 0} (kind : Kind) (cell : Option T → Cell) (n m : ℕ) (w : ℕ → Option T) (at : ℕ → Option (Option T)) (values : List T) (present : List Bool) (col : CellColumn) → ((k : ℕ) → at k ≡ Some (w k))
    → try_rows n at ≡ Ok (made_rows n values present) → m ≡ n → col ≡ column_with kind cell m (option_at values present) → col ≡ column_with kind cell n w
total_made kind cell n m w _ values present _ some e same is =
    is ∙ ap (λ k. column_with kind cell k (option_at values present)) same
    ∙ ap (λ l. record { kind = kind; cells = l })
    (sym (map-map _ _ (range_with_len 0 n))
    ∙ ap (map cell) (search (same_ok, total-rows))
    ∙ map-map w _ (range_with_len 0 n))

-- a column with a row more
pub pushed_column : {T : Type 0} (kind : Kind) (cell : Option T → Cell) (values : List T) (present : List Bool) (o : Option T) (values' : List T) (present' : List Bool) (c : Cell) → IsPushed values present o values' present' → cell o ≡ c
    → column_with kind cell (length values') (option_at values' present') ≡ record { kind = kind; cells = (column_with kind cell (length values) (option_at values present)).cells ++ c ∷ [] }
pushed_column kind cell values present o values' present' c pushed is =
    ap (λ k. column_with kind cell k (option_at values' present')) pushed.length_more
    ∙ ap (λ l. record { kind = kind; cells = l })
    (cc (map-range_with_len_more (λ k. cell (option_at values' present' k)) 0 (length values) (length values) (omega arith), range-same (λ k. cell (option_at values' present' k)) (λ k. cell (option_at values present k)) 0 (length values) (λ k le lt. grind arith), pushed.last))

-- the same after a push that may be refused
pub pushed_answer : {U E T : Type 0} (r : Result U E) (kind : Kind) (cell : Option T → Cell) (values : List T) (present : List Bool) (o : Option T) (values' : List T) (present' : List Bool) (c : Cell) (whole : CellColumn) → OnOk r (IsPushed values present o values' present')
    → cell o ≡ c → column_with kind cell (length values) (option_at values present) ≡ whole → OnOk r (column_with kind cell (length values') (option_at values' present') ≡ record { kind = whole.kind; cells = whole.cells ++ c ∷ [] })
pushed_answer (Ok u) kind cell values present o values' present' c _ pushed is e = grind (arith, pushed_column kind cell values present o values' present' c pushed is)
pushed_answer (Err x) _ _ _ _ o _ _ c _ pushed _ e = pushed
