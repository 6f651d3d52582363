-- Columns that are put and removed, and whole tables.
use Rattle.{
  meaning_tables.{proofs.cells.Common.{cond_both, map-set, map-append, length-map, length-set, take-map, drop-map, All-set, All-push, All-map, All-append, All-take, All-drop, length-remove, rules, ◌≡◌, ◌∙◌, ℕ, suc, ◌<◌, ◌+◌, ◌*◌, List, length, take, drop, map, sym, subst, arith, nat_lt, AreRowsBelow, Option, All, remove, Rows, Shape, Series, Frame, IsSome, Cell, Na, Label, pos, refl, ap, [], ◌∷◌, slice_index_or}, specs.{cells.Block.{strided}, Table.{ColumnOf, NumberedTable, column_at, no_column}, Change.{put_at, strided_column, cut_columns, with_column, without_column}, Valid.{AreHeadings, IsWhole}}},
  std.proofs.lemmas.List.{length-append, FromFn.{fill_by_all}},
  multi_index.specs.Axes.{AxisValue},
  column_core.{specs.Blocks.{CellBlock}, proofs.ColumnLaws.{length-tabulate}},
  frame_store.specs.{Parts.{HeadingList, table_with, cut_table, block_column, AreColumnsOf, TakesHeading}, Derivations.{derived_table, CanDerive}, declared.derivations.Derivation.{Derivation}},
}

-- an item is replaced or appended
pub map-put_at : {X Y : Type 0} (f : X → Y) (xs : List X) (place : ℕ) (x : X) → map f (put_at xs place x) ≡ put_at (map f xs) place (f x)
map-put_at = grind (arith, length-map, map-set, map-append)

pub All-put_at : {X : Type 0} (P : X → Type 0) (xs : List X) (place : ℕ) (x : X) → All P xs → P x → All P (put_at xs place x)
All-put_at P xs place x all here = cond_both (nat_lt place (length xs)) _ _ (All P) (λ _. All-set P xs place x here all) (λ _. All-push P xs x all here)

pub length-put_at : {X Y : Type 0} (xs : List X) (ys : List Y) (place : ℕ) (x : X) (y : Y) → length xs ≡ length ys → length (put_at xs place x) ≡ length (put_at ys place y)
length-put_at = grind (arith, length-set, length-append)

-- an item is removed
pub map-remove : {X Y : Type 0} (f : X → Y) (xs : List X) (i : ℕ) → map f (remove xs i) ≡ remove (map f xs) i
map-remove = search (map-append, take-map, drop-map)

pub All-remove : {X : Type 0} (P : X → Type 0) (xs : List X) (i : ℕ) → All P xs → All P (remove xs i)
All-remove P xs i all = All-append P (take i xs) (drop (suc i) xs) (All-take P i xs all) (All-drop P (suc i) xs all)

-- a Series has a block
pub has_block : (t : NumberedTable) (blocks : List CellBlock) → IsWhole t → t.shape ≡ Series → map block_column blocks ≡ t.columns → 0 < length blocks
has_block t _ whole series = grind (arith, whole.headed, whole.headings.single series, length-map)

-- a table of columns that are cut from another's is whole
pub cut_is_whole : (shape : Shape) (axis : AxisValue) (headings : HeadingList) (columns cut : List (ColumnOf Cell)) (rows : Rows) (places : List ℕ)
    → cut ≡ cut_columns Na columns rows places → length axis.tuples ≡ rows.count → length headings.labels ≡ length places → AreHeadings shape headings.columns_name headings.labels
    → IsWhole (table_with shape axis headings cut)
cut_is_whole _ axis _ columns _ rows places is labels headed fits =
    let cut_at : ℕ → ColumnOf Cell = λ place. strided_column Na rows (column_at columns place) in
    let filled =
    All-map (λ c. length c.cells ≡ length axis.tuples) cut_at places
    (λ k d lt. length-tabulate rows.count _ ∙ sym labels)
    in
    grind (arith, length-map)

-- all rows of columns are the columns
abbrev pub all_rows : ℕ → Rows
all_rows count = record { start = 0; step = pos 1; count = count }

pub all_cells : (cells : List Cell) (count : ℕ) → length cells ≡ count → strided Na cells (all_rows count) ≡ cells
all_cells cells count is = sym (fill_by_all _ cells count Na is (λ k lt. let e : k ≡ 0 + k * 1 = omega arith in ap (λ place. slice_index_or cells place Na) e))

module _ (t : NumberedTable) (count : ℕ) (whole : IsWhole t) (is : count ≡ length t.labels) where
  all_of_column : (place : ℕ) → place < length t.columns → strided_column Na (all_rows count) (column_at t.columns place) ≡ column_at t.columns place
  all_of_column place lt = ap (λ (cells : List Cell). record (column_at t.columns place) { cells = cells }) (all_cells _ count (whole.filled place no_column lt ∙ sym is))

  pub all_cut : (places : List ℕ) → AreColumnsOf t places → cut_columns Na t.columns (all_rows count) places ≡ map (column_at t.columns) places
  all_cut [] below = refl
  all_cut (p ∷ ps) below = λ j. all_of_column p (below 0 p (omega arith)) j ∷ all_cut ps (λ k d lt. below (suc k) d (omega arith)) j

pub all_rows_same : (count : ℕ) (columns : List (ColumnOf Cell)) → All (λ c. length c.cells ≡ count) columns → map (strided_column Na (all_rows count)) columns ≡ columns
all_rows_same count [] rows = refl
all_rows_same count (c ∷ cs) rows = λ j.
    record c { cells = all_cells c.cells count (rows 0 c (omega arith)) j } ∷ all_rows_same count cs (λ k d lt. rows (suc k) d (omega arith)) j

-- and they are places of them
pub all_rows_fit : (count : ℕ) (columns : List (ColumnOf Cell)) → All (λ c. length c.cells ≡ count) columns → All (λ c. AreRowsBelow (all_rows count) (length c.cells)) columns
all_rows_fit count columns rows k d lt = subst (AreRowsBelow (all_rows count)) (sym (rows k d lt)) (record {
  places = λ row within. tt;
  below = λ row within. omega (arith, within);
  moves = λ more none. cc;
})

-- what is cut of all rows is what is derived
pub cut_is_derived : (t : NumberedTable) (d : Derivation) (count : ℕ) → IsWhole t → CanDerive t d → count ≡ length t.labels → derived_table t d ≡ cut_table d.shape d.axis d.headings t (all_rows count) d.columns
cut_is_derived t d count whole fits rows = cc (all_cut t count whole rows d.columns fits.columns)

-- a table with another column is whole
one_put : {X : Type 0} (xs : List X) (place : ℕ) (x : X) → length xs ≡ 1 → place ≡ 0 → length (put_at xs place x) ≡ 1
one_put = grind (arith, length-set)

headings_put : (t : NumberedTable) (place : ℕ) (heading : Option Label) → IsWhole t → TakesHeading t place heading → AreHeadings t.shape t.columns_name (put_at t.headings place heading)
headings_put t place heading whole takes = record {
  single = λ series. one_put t.headings place heading (whole.headings.single series) (takes.single series);
  nameless = whole.headings.nameless;
  labelled = λ frame. All-put_at IsSome t.headings place heading (whole.headings.labelled frame) (takes.labelled frame);
}

pub put_is_whole : (t : NumberedTable) (place : ℕ) (heading : Option Label) (c : ColumnOf Cell) → IsWhole t → length c.cells ≡ length t.labels → TakesHeading t place heading → IsWhole (with_column t place heading c)
put_is_whole t _ _ c whole rows takes = search (length-put_at, All-put_at, headings_put)

-- and a frame without one
headings_left : (t : NumberedTable) (place : ℕ) → IsWhole t → t.shape ≡ Frame → AreHeadings t.shape t.columns_name (remove t.headings place)
headings_left t place whole frame = record {
  single = λ series. cc;
  nameless = whole.headings.nameless;
  labelled = λ is. All-remove IsSome t.headings place (whole.headings.labelled is);
}

pub remove_is_whole : (t : NumberedTable) (place : ℕ) → IsWhole t → place < length t.columns → t.shape ≡ Frame → IsWhole (without_column t place)
remove_is_whole t _ whole lt frame = search (rules, length-remove, All-remove, headings_left)

-- a heading and a block are put or removed
pub put_is_column : (t u : NumberedTable) (blocks blocks' : List CellBlock) (headings' : List (Option Label)) (place : ℕ) (heading : Option Label) (block : CellBlock)
    → t ≡ u → t.columns ≡ map block_column blocks → headings' ≡ put_at t.headings place heading → blocks' ≡ put_at blocks place block
    → record t { headings = headings'; columns = map block_column blocks' } ≡ with_column u place heading (block_column block)
put_is_column = grind (arith, map-put_at)

pub remove_is_column : (t u : NumberedTable) (blocks blocks' : List CellBlock) (headings' : List (Option Label)) (place : ℕ)
    → t ≡ u → t.columns ≡ map block_column blocks → headings' ≡ remove t.headings place → blocks' ≡ remove blocks place
    → record t { headings = headings'; columns = map block_column blocks' } ≡ without_column u place
remove_is_column = grind (arith, map-remove)
