-- The parts of an object that changes, and what columns of another one share.
use Rattle.{meaning_tables.{proofs.cells.Common.{◌≡◌, ◌∙◌, refl, sym, ap, subst, arith, ℕ, ◌*◌, ◌<◌, List, [], ◌∷◌, length, map, sum, All, All-map, All-tail, length-map, sum_by-cons, map-map, slice_index_or, remove, Option, Result, Ok, Err, IfOk, OnOk, on_ok_weaker, Label, Rows, Shape, Series, Frame, Cell, Na, AreRowsBelow}, specs.{Table.{NumberedTable, ColumnOf, column_at, no_column, cell_count}, Change.{put_at, with_values, with_values_from, strided_column, cut_columns}, Valid.{IsWhole}}}, std.{proofs.lemmas.Result.{on_err_weaker}, specs.{Prelude.{OnErr}, FinMap.{FinMap, get}, Ordering.{nat_cmp}}}, std.proofs.Common.{ap₂}, multi_index.specs.Axes.{AxisValue}, column_core.specs.Blocks.{CellBlock}, block_pool.specs.Pools.{PoolValue, ViewValue, cells_of, live_count, total_of}, block_manager.{proofs.OtherLaws.{other_columns, other_stands}, specs.Managed.{ManagerValue, StandsOn, AreSole, Exchanges, Keeps, Stays, StayOnBlocks, block_under, rows_of, columns_on, placed_column, times}}, frame_store.{specs.{Parts.{HeadingList, table_with, block_column, table_of, AreBelow, AreRowsOf, AreColumnsOf, AreRowsIn, HaveRows, IsSingle, TakesHeading}, Stores.{ObjectValue, IsKeptOn, Trades, manager_views, table_over}}, proofs.{SettingLaws.{count_from, kinds_from, lengths_from}, ValueLaws.{AreAlike, rows_kept}, StoreLaws.{counts_once, same_items}, ColumnLaws.{put_is_whole, remove_is_whole}}}}

-- a table with other values is whole
pub values_whole : (t : NumberedTable) (rows places : List ℕ) (values : List Cell) → IsWhole t → IsWhole (with_values t rows places values)
values_whole t rows places values whole =
    let count = count_from rows places 0 t.columns values in
    let alike : AreAlike (with_values_from 0 t.columns rows places values) t.columns = record { kinds = kinds_from rows places 0 t.columns values; lengths = lengths_from rows places 0 t.columns values } in
    record {
      headed = whole.headed ∙ sym count;
      filled = rows_kept t.columns (with_values_from 0 t.columns rows places values) (length t.labels) count whole.filled alike;
      headings = whole.headings;
    }

-- rows of the table are rows of each column
pub rows_in : (t : NumberedTable) (rows places : List ℕ) → IsWhole t → AreRowsOf t rows → AreColumnsOf t places → AreRowsIn t.columns places rows
rows_in t rows places whole are below k d lt =
    subst (λ (n : ℕ). AreBelow n rows) (sym (whole.filled (slice_index_or places k d) no_column (below k d lt))) are

-- a block that is as long as the table has as many rows as each column
pub block_fits : (t : NumberedTable) (b : CellBlock) → IsWhole t → IsSingle b → length (block_column b).cells ≡ length t.labels → HaveRows b.rows t.columns
block_fits t b whole single fits k d lt = whole.filled k d lt ∙ sym fits ∙ sym (ap (λ (x : CellBlock). x.rows) single)

-- as many places as columns, and one in a Series
pub as_many : (pool : PoolValue) (m : ManagerValue) → length (columns_on pool m) ≡ length m.places
as_many pool m = length-map m.places (placed_column pool)

pub places_below : (pool : PoolValue) (m : ManagerValue) (places : List ℕ) → AreBelow (length (columns_on pool m)) places → AreBelow (length m.places) places
places_below pool m places below = subst (λ (n : ℕ). AreBelow n places) (as_many pool m) below

pub one_place : (pool : PoolValue) (o : ObjectValue) → IsKeptOn pool o → o.shape ≡ Series → length o.manager.places ≡ 1
one_place pool o kept series = omega (arith, kept.whole.headed, kept.whole.headings.single series, as_many pool o.manager)

-- the cells of blocks of one column
pub cells_of_single : (b : CellBlock) → IsSingle b → cells_of b ≡ length (block_column b).cells
cells_of_single b single = ap cells_of single ∙ omega arith

pub cells_of_blocks : (blocks : List CellBlock) (n : ℕ) → All IsSingle blocks → HaveRows n (map block_column blocks) → sum (map cells_of blocks) ≡ n * length blocks
cells_of_blocks [] n single rows = omega arith
cells_of_blocks (b ∷ bs) n single rows =
    let one : cells_of b ≡ n = cells_of_single b (single 0 b (omega arith)) ∙ rows 0 (block_column b) (omega arith) in
    let rest = cells_of_blocks bs n (All-tail IsSingle b bs single) (All-tail (λ c. length c.cells ≡ n) (block_column b) (map block_column bs) rows) in
    omega (arith, sum_by-cons (λ (y : ℕ). y) (cells_of b) (map cells_of bs), one, rest)

pub cells_of_table : (shape : Shape) (axis : AxisValue) (headings : HeadingList) (blocks : List CellBlock) → All IsSingle blocks → IsWhole (table_of shape axis headings blocks) → sum (map cells_of blocks) ≡ cell_count (table_of shape axis headings blocks)
cells_of_table shape axis headings blocks single whole =
    cells_of_blocks blocks (length axis.tuples) single whole.filled ∙ ap (λ (n : ℕ). length axis.tuples * n) (sym (length-map blocks block_column))

-- the columns of a whole table have as many cells as the first
pub as_the_first : (columns : List (ColumnOf Cell)) (rows : ℕ) → HaveRows rows columns → HaveRows (rows_of columns) columns
as_the_first columns rows all k d lt = all k d lt ∙ sym (all 0 no_column (omega (arith, lt)))

-- columns at places, and at rows
pub rows_of_picked : (rows : Rows) (columns : List (ColumnOf Cell)) (places : List ℕ) → All (λ c. AreRowsBelow rows (length c.cells)) columns → AreBelow (length columns) places → All (λ c. AreRowsBelow rows (length c.cells)) (map (column_at columns) places)
rows_of_picked rows columns places all below = All-map (λ c. AreRowsBelow rows (length c.cells)) (column_at columns) places (λ k d lt. all (slice_index_or places k d) no_column (below k d lt))

pub rows_of_whole : (rows : Rows) (t : NumberedTable) → IsWhole t → AreRowsBelow rows (length t.labels) → All (λ c. AreRowsBelow rows (length c.cells)) t.columns
rows_of_whole rows t whole below k d lt = subst (AreRowsBelow rows) (sym (whole.filled k d lt)) below

pub cut_of_picked : (columns : List (ColumnOf Cell)) (rows : Rows) (places : List ℕ) → map (strided_column Na rows) (map (column_at columns) places) ≡ cut_columns Na columns rows places
cut_of_picked columns rows places = map-map (strided_column Na rows) (column_at columns) places

-- Views were made, then others on their rows, and the first ended: the others alone are left.
module _ (old mid new end : PoolValue) (m picked : ManagerValue) (rows : Rows) (places : List ℕ) (made_first : Exchanges old mid [] picked.views) (columns : columns_on mid picked ≡ map (column_at (columns_on old m)) places) (ended : Exchanges new end picked.views []) (kept : Keeps new end picked.views) where
  module _ (made : ManagerValue) (stands : StandsOn new made) (made_then : Exchanges mid new [] made.views) where
    apart : (id : ℕ) → 0 < times id made.views → times id picked.views ≡ 0
    apart id some = omega (arith, some, made_first id, made_then id, counts_once new id)

    pub cut_columns_are : columns_on new made ≡ map (strided_column Na rows) (columns_on mid picked) → columns_on end made ≡ cut_columns Na (columns_on old m) rows places
    cut_columns_are is = other_columns new end picked.views kept made stands apart ∙ is ∙ ap (map (strided_column Na rows)) columns ∙ cut_of_picked (columns_on old m) rows places

    pub cut_stands : StandsOn end made
    cut_stands = other_stands new end picked.views kept made stands apart

  pub cut_is : {E : Type 0} (r : Result ManagerValue E) → IfOk r (λ made. columns_on new made ≡ map (strided_column Na rows) (columns_on mid picked)) → IfOk r (λ made. StandsOn new made) → IfOk r (λ made. Exchanges mid new [] made.views)
      → IfOk r (λ made. columns_on end made ≡ cut_columns Na (columns_on old m) rows places)
  cut_is (Ok made) is stands views = cut_columns_are made stands views is
  cut_is (Err e) is stands views = tt

  pub cut_is_right : {E : Type 0} (r : Result ManagerValue E) → IfOk r (λ made. StandsOn new made) → IfOk r (λ made. Exchanges mid new [] made.views) → IfOk r (λ made. StandsOn end made)
  cut_is_right (Ok made) stands views = cut_stands made stands views
  cut_is_right (Err e) stands views = tt

  pub cut_trades : {E : Type 0} (r : Result ManagerValue E) → Keeps old mid [] → Keeps mid new [] → IfOk r (λ made. Exchanges mid new [] made.views) → OnErr r (new ≡ mid) → Trades old end [] (manager_views r)
  cut_trades (Ok made) first second views same = record {
    views = λ id. omega (arith, made_first id, views id, ended id);
    kept = λ id none live. kept_through first second id live (omega (arith, made_first id, views id, live, counts_once mid id, counts_once new id));
  }
    where
      kept_through : Keeps old mid [] → Keeps mid new [] → (id : ℕ) → live_count old id ≡ 1 → live_count new id ≡ 1 → get end.views id ≡ get old.views id
      kept_through first second id live here =
          let one : live_count mid id ≡ 1 = omega (arith, made_first id, live, counts_once mid id) in
          let gone : times id picked.views ≡ 0 = omega (arith, made_first id, live, counts_once mid id) in
          kept id gone here ∙ second id refl one ∙ first id refl live
  cut_trades (Err e) first second views same = record {
    views = λ id. omega (arith, made_first id, ap (λ (p : PoolValue). live_count p id) same, ended id);
    kept = λ id none live.
        let one : live_count mid id ≡ 1 = omega (arith, made_first id, live, counts_once mid id) in
        let gone : times id picked.views ≡ 0 = omega (arith, made_first id, live, counts_once mid id) in
        kept id gone (ap (λ (p : PoolValue). live_count p id) same ∙ one) ∙ second id refl one ∙ first id refl live;
  }

-- each view lies where it lay
pub blocks_stay : (old new : PoolValue) (views : List ℕ) → StayOnBlocks old new → map (block_under new) views ≡ map (block_under old) views
blocks_stay old new views stay = same_items (block_under old) (block_under new) views (λ k d lt. stay.lies (slice_index_or views k d))

-- the same views show the same columns
pub stays_columns : (old new : PoolValue) (m m' : ManagerValue) → m' ≡ m → Stays old new → columns_on new m' ≡ columns_on old m
stays_columns old new m m' is stays =
    ap (columns_on new) is ∙ ap (λ (views : FinMap nat_cmp ViewValue). columns_on (record old { views = views }) m) stays.views

pub stays_table : (old new : PoolValue) (o o' : ObjectValue) → o' ≡ o → Stays old new → table_over new o' ≡ table_over old o
stays_table old new o o' is stays =
    ap (table_over new) is ∙ ap (λ (views : FinMap nat_cmp ViewValue). table_over (record old { views = views }) o) stays.views

-- the first column of a Series is as long as its axis
pub series_rows : (pool : PoolValue) (o : ObjectValue) → IsKeptOn pool o → o.shape ≡ Series → length (column_at (columns_on pool o.manager) 0).cells ≡ length o.axis.tuples
series_rows pool o kept series = kept.whole.filled 0 no_column (omega (arith, one_place pool o kept series, as_many pool o.manager))

whole_either : {T E : Type 0} (r : Result T E) (old changed now : NumberedTable) → OnOk r (now ≡ changed) → OnErr r (now ≡ old) → IsWhole changed → IsWhole old → IsWhole now
whole_either (Ok x) old changed now ok err then before = subst IsWhole (sym ok) then
whole_either (Err e) old changed now ok err then before = subst IsWhole (sym err) before

abbrev pub object_with : Shape → AxisValue → Option Label → List (Option Label) → ManagerValue → ObjectValue
object_with shape axis name labels m = record { shape = shape; axis = axis; headings = record { columns_name = name; labels = labels }; manager = m }

-- an object whose manager has changed
module _ (old new : PoolValue) (shape : Shape) (axis : AxisValue) (name : Option Label) (labels : List (Option Label)) (m m' : ManagerValue) (now : ObjectValue) (is : object_with shape axis name labels m ≡ now) (kept : IsKeptOn old now) where
  abbrev was : ObjectValue
  was = object_with shape axis name labels m

  before : IsKeptOn old was
  before = subst (IsKeptOn old) (sym is) kept

  pub set_kept : {T E : Type 0} (r : Result T E) (rows places : List ℕ) (values : List Cell) → StandsOn new m' → OnOk r (columns_on new m' ≡ with_values_from 0 (columns_on old m) rows places values) → OnErr r ((m' ≡ m) × Stays old new)
      → IsKeptOn new (object_with shape axis name labels m')
  set_kept r rows places values stands ok err = record {
    stands = stands;
    whole = whole_either r (table_over old was) (with_values (table_over old was) rows places values) (table_over new (object_with shape axis name labels m'))
        (on_ok_weaker r (λ e. ap (λ (cs : List (ColumnOf Cell)). table_with shape axis record { columns_name = name; labels = labels } cs) e) ok)
        (on_err_weaker r (λ e. stays_table old new was (object_with shape axis name labels m') (ap (object_with shape axis name labels) e.0) e.1) err)
        (values_whole (table_over old was) rows places values before.whole)
        before.whole;
  }

  pub set_sole : {T E : Type 0} (r : Result T E) (columns : List ℕ) → OnOk r (AreSole old m columns → (m' ≡ m) × StayOnBlocks old new) → OnOk r (AreSole old now.manager columns → (object_with shape axis name labels m' ≡ now) × StayOnBlocks old new)
  set_sole r columns = on_ok_weaker r (λ f alone.
      let both = f (subst (λ (o : ObjectValue). AreSole old o.manager columns) (sym is) alone) in
      (ap (object_with shape axis name labels) both.0 ∙ is, both.1))

  module _ (labels' : List (Option Label)) where
    table_named : (f : List (Option Label) → List (Option Label)) (g : List (ColumnOf Cell) → List (ColumnOf Cell)) → labels' ≡ f labels → columns_on new m' ≡ g (columns_on old m)
        → table_over new (object_with shape axis name labels' m') ≡ record (table_over old was) { headings = f labels; columns = g (columns_on old m) }
    table_named f g named columns = ap₂ (λ (l : List (Option Label)) (cs : List (ColumnOf Cell)). table_with shape axis record { columns_name = name; labels = l } cs) named columns

    pub put_kept : (column : ℕ) (heading : Option Label) (k : ColumnOf Cell) → StandsOn new m' → labels' ≡ put_at labels column heading → columns_on new m' ≡ put_at (columns_on old m) column k → length k.cells ≡ length now.axis.tuples
        → TakesHeading (table_over old now) column heading → IsKeptOn new (object_with shape axis name labels' m')
    put_kept column heading k stands named columns rows fits = record {
      stands = stands;
      whole = subst IsWhole (sym (table_named (λ l. put_at l column heading) (λ cs. put_at cs column k) named columns))
          (put_is_whole (table_over old was) column heading k before.whole (rows ∙ sym (ap (λ (o : ObjectValue). length o.axis.tuples) is))
          (subst (λ (o : ObjectValue). TakesHeading (table_over old o) column heading) (sym is) fits));
    }

    pub removed_kept : (column : ℕ) → StandsOn new m' → labels' ≡ remove labels column → columns_on new m' ≡ remove (columns_on old m) column → column < length (columns_on old now.manager)
        → now.shape ≡ Frame → IsKeptOn new (object_with shape axis name labels' m')
    removed_kept column stands named columns lt frame = record {
      stands = stands;
      whole = subst IsWhole (sym (table_named (λ l. remove l column) (λ cs. remove cs column) named columns))
          (remove_is_whole (table_over old was) column before.whole (subst (λ (o : ObjectValue). column < length (columns_on old o.manager)) (sym is) lt)
          (subst (λ (o : ObjectValue). o.shape ≡ Frame) (sym is) frame));
    }

    pub refused_kept : StandsOn new m' → labels' ≡ labels → m' ≡ m → Stays old new → IsKeptOn new (object_with shape axis name labels' m')
    refused_kept stands named same stays = record {
      stands = stands;
      whole = subst IsWhole (sym (table_named (λ l. l) (λ cs. cs) named (stays_columns old new m m' same stays))) before.whole;
    }

-- views were made, and then others in their place
pub trades_then : (old mid new : PoolValue) (made after : List ℕ) → Exchanges old mid [] made → Keeps old mid [] → Exchanges mid new made after → Keeps mid new made → Trades old new [] after
trades_then old mid new made after first first_kept then then_kept = record {
  views = λ id. omega (arith, first id, then id);
  kept = λ id none live.
      let one : live_count mid id ≡ 1 = omega (arith, first id, live, counts_once mid id) in
      let gone : times id made ≡ 0 = omega (arith, first id, live, counts_once mid id) in
      then_kept id gone one ∙ first_kept id refl live;
}

-- the same blocks hold the same cells
pub same_held : (old new : PoolValue) → new.blocks ≡ old.blocks → total_of new ≡ total_of old
same_held old new same = ap (λ (blocks : FinMap nat_cmp ℕ). total_of (record old { blocks = blocks })) same
