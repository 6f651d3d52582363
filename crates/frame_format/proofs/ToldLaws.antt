-- The parts of the table that a grid tells.
use Rattle.meaning_format.{proofs.cells.Common.{rules, ◌≡◌, ℕ, ◌-◌, ◌<◌, List, [], length, map, get_or, refl, ap, ◌∙◌, arith, Option, None, length-map, get_or-map, length-map-range_with_len, get_or-map-range_with_len, is_eq, GridValue, label_datum, label_cmp, datum, na, na_cell, Label, Cell, Kind, Text, tabulate}, specs.{tables.Table.{Table, no_column, column_at, column_value, heading_value, tuple_value}, Told.{told, label_at, level_name, cell_at, heading_at}, Print.{same_above}}}

pub shape_told : (texts : List Text) (g : GridValue) → (told texts g).shape ≡ g.shape
unfolding told
shape_told _ g = refl

pub rows_told : (texts : List Text) (g : GridValue) → length (told texts g).labels ≡ g.rows
unfolding told
rows_told = grind (arith, length-map, length-map-range_with_len)

pub columns_told : (texts : List Text) (g : GridValue) → length (told texts g).columns ≡ g.columns
unfolding told
columns_told = grind (arith, length-map, length-map-range_with_len)

pub levels_told : (texts : List Text) (g : GridValue) → length (told texts g).level_names ≡ g.levels
unfolding told
levels_told = grind (arith, length-map, length-map-range_with_len)

-- a value of what was tabulated
at : {X Y : Type 0} (v : X → Y) (f : ℕ → X) (n k : ℕ) (e : Y) → k < n → get_or (map v (tabulate n f)) k e ≡ v (f k)
at v f n k e h =
    get_or-map v (tabulate n f) k (f k) e (let is = length-map-range_with_len f 0 n in omega arith) ∙ ap v (get_or-map-range_with_len f 0 n k k _ h (omega arith))

-- A table that is seen as what a grid tells
module _ (s : Table) (texts : List Text) (g : GridValue) (is : s ≡ told texts g) where
  pub row_within : (row : ℕ) → row < length s.labels → row < g.rows
  row_within = grind (arith, rows_told)

  pub column_within : (column : ℕ) → column < length s.columns → column < g.columns
  column_within = grind (arith, columns_told)

  pub level_within : (level : ℕ) → level < length s.level_names → level < g.levels
  level_within = grind (arith, levels_told)

  row_seen : (row : ℕ) → row < length s.labels → get_or s.labels row [] ≡ tuple_value texts (tabulate g.levels (g.label row))
  unfolding told
  row_seen row h = let told = at (tuple_value texts) (λ r. tabulate g.levels (g.label r)) g.rows row [] (row_within row h) in grind arith

  pub label_seen : (row level : ℕ) (l : Label) → row < length s.labels → level < length s.level_names → l ≡ g.label row level → label_datum texts l ≡ label_at s row level
  label_seen row level l h k e = cc (row_seen row h, at (label_datum texts) (g.label row) g.levels level na (level_within level k))

  column_seen : (column : ℕ) → column < length s.columns → column_at s.columns column ≡ column_value texts record { kind = g.kind column; cells = tabulate g.rows (λ row. g.cell row column) }
  unfolding told
  column_seen column h = let told = at (column_value texts) (λ c. record { kind = g.kind c; cells = tabulate g.rows (λ row. g.cell row c) }) g.columns column no_column (column_within column h) in grind arith

  pub cell_seen : (row column : ℕ) (x : Cell) → row < length s.labels → column < length s.columns → x ≡ g.cell row column → datum texts x ≡ cell_at s row column
  cell_seen row column x h k e = cc (column_seen column k, at (datum texts) (λ r. g.cell r column) g.rows row na_cell (row_within row h))

  pub level_name_seen : (level : ℕ) (n : Option Label) → level < length s.level_names → n ≡ g.level_name level → heading_value texts n ≡ level_name s level
  unfolding told
  level_name_seen level n h e = cc (at (heading_value texts) g.level_name g.levels level None (level_within level h))

  pub heading_seen : (column : ℕ) (n : Option Label) → column < length s.columns → n ≡ g.heading column → heading_value texts n ≡ heading_at s column
  unfolding told
  heading_seen column n h e = cc (at (heading_value texts) g.heading g.columns column None (column_within column h))

  pub columns_name_seen : (n : Option Label) → n ≡ g.columns_name → heading_value texts n ≡ s.columns_name
  unfolding told
  columns_name_seen = grind arith

  pub kind_seen : (column : ℕ) (k : Kind) → column < length s.columns → k ≡ g.kind column → k ≡ (column_at s.columns column).kind
  kind_seen = grind (arith, column_seen)

  pub tuple_seen : (row : ℕ) → row < length s.labels → length (get_or s.labels row []) ≡ length s.level_names
  tuple_seen = grind (arith, row_seen, length-map, length-map-range_with_len, levels_told)

  pub headings_seen : length s.headings ≡ length s.columns
  unfolding told
  headings_seen = grind (arith, length-map, length-map-range_with_len)

  pub same_seen : (row level : ℕ) (a b : Label) → 0 < row → row < length s.labels → level < length s.level_names → a ≡ g.label (row - 1) level → b ≡ g.label row level → is_eq (label_cmp (label_datum texts a) (label_datum texts b)) ≡ same_above s row level
  same_seen = search (rules, label_seen)

  pub one_column : g.columns ≡ 1 → length s.columns ≡ 1
  one_column = grind (arith, columns_told)
