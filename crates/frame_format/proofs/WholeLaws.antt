-- A whole table is what a grid that is read off it tells.
use Rattle.meaning_format.{proofs.cells.Common.{◌≡◌, ℕ, ◌<◌, List, [], length, get_or, refl, sym, arith, None, fill_by_all, All, slice_index_or, GridValue, Label, Cell, Text, tabulate}, specs.{tables.Table.{ColumnOf, NumberedTable, no_column, column_at, table_value}, Told.{numbered, told}}}
use Rattle.cell_core.specs.declared.cell.Label.TheVariants as label
use Rattle.cell_core.specs.declared.cell.Cell.TheVariants as cell

-- a list, place by place
placed : {X : Type 0} (xs : List X) (n : ℕ) (d : X) → length xs ≡ n → tabulate n (λ k. get_or xs k d) ≡ xs
placed xs n d is = sym (fill_by_all _ xs n d is (λ k h. refl))

placed_by : {X : Type 0} (f : ℕ → X) (xs : List X) (n : ℕ) (d : X) → length xs ≡ n → ((k : ℕ) → k < length xs → get_or xs k d ≡ f k) → tabulate n f ≡ xs
placed_by f xs n d is same = sym (fill_by_all f xs n d is (grind arith))

-- the table by row and column
abbrev pub read_off : NumberedTable → GridValue
read_off t =
    record {
      shape = t.shape;
      rows = length t.labels;
      columns = length t.columns;
      levels = length t.level_names;
      columns_name = t.columns_name;
      kind = λ column. (column_at t.columns column).kind;
      heading = λ column. slice_index_or t.headings column None;
      level_name = λ level. slice_index_or t.level_names level None;
      label = λ row level. slice_index_or (slice_index_or t.labels row []) level label.Na;
      cell = λ row column. slice_index_or (column_at t.columns column).cells row cell.Na;
    }

column_placed : (c : ColumnOf Cell) (n : ℕ) → length c.cells ≡ n → record { kind = c.kind; cells = tabulate n (λ row. get_or c.cells row cell.Na) } ≡ c
column_placed c n is = λ i. record { kind = c.kind; cells = placed _ n cell.Na is i }

whole_numbered : (t : NumberedTable) → length t.headings ≡ length t.columns → All (λ (c : ColumnOf Cell). length c.cells ≡ length t.labels) t.columns → All (λ (tuple : List Label). length tuple ≡ length t.level_names) t.labels
    → numbered (read_off t) ≡ t
whole_numbered t headed filled levels =
    let names = placed t.level_names _ None refl in
    let labels = placed_by (λ row. tabulate (length t.level_names) (λ level. get_or (get_or t.labels row []) level label.Na)) t.labels (length t.labels) [] refl (λ row h. sym (search placed)) in
    let headings = placed t.headings _ None headed in
    let columns = placed_by (λ column. record { kind = (column_at t.columns column).kind; cells = tabulate (length t.labels) (λ row. get_or (column_at t.columns column).cells row cell.Na) }) t.columns (length t.columns) no_column refl (λ column h. sym (search column_placed)) in
    grind arith

-- so the text of a grid that is read off a whole table is the text of that table
pub told_whole : (texts : List Text) (t : NumberedTable) → length t.headings ≡ length t.columns → All (λ (c : ColumnOf Cell). length c.cells ≡ length t.labels) t.columns → All (λ (tuple : List Label). length tuple ≡ length t.level_names) t.labels
    → told texts (read_off t) ≡ table_value texts t
unfolding told
told_whole = grind (arith, whole_numbered)
