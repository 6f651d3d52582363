-- What views show: all of a block, a part of what another view shows, and a cell that is set.
use Rattle.{std.proofs.Common.{◌≡◌, ◌≢◌, ℕ, zero, suc, ◌+◌, ◌-◌, ◌*◌, ◌<◌, ◌≤◌, ◌^◌, Bool, true, false, List, [], length, refl, ap, ap₂, sym, ◌∙◌, subst, arith, slice_index_or, inl, inr, get_or-set_same, get_or-set_other}, std.proofs.lemmas.{Bool.{false≢true, cases_eq, cases_lt}, List.{length-set, FromFn.{fill_by_all}}}, std.specs.Prelude.{slice_set}, column_core.{specs.{cells.{Block.{strided}, Column.{tabulate}}, Blocks.{CellBlock}, Lanes.{LaneFits, lane_place}}, proofs.{cells.Common.{Na, Cell, Rows, place_from, AreRowsBelow}, ColumnLaws.{length-tabulate}, CellRows.{range-same}, MoveLaws.{get_or-tabulate}, BlockLaws.{set-tabulate}}}, block_pool.{specs.{declared.views.View.{View}, Pools.{cut, grid_with}, Placed.{shown_cell, shown_column, shown_grid, IsEven, IsPlaced}}, proofs.ViewLaws.{places_differ}}}

tabulate-self : {C : Type 0} (xs : List C) (n : ℕ) (f : ℕ → C) (d : C) → length xs ≡ n → ((k : ℕ) → k < n → f k ≡ slice_index_or xs k d) → tabulate n f ≡ xs
tabulate-self xs n f d long same = sym (fill_by_all f xs n d long (λ k lt. sym (same k lt)))

abbrev pub whole_view : ℕ → CellBlock → View
whole_view block g = record { block = block; first = 0; columns = length g.columns; start = 0; stride = 1; back = false; count = g.rows }

-- a column of what a view shows
pub column_of : (block : CellBlock) (v : View) (column : ℕ) → column < v.columns → slice_index_or (shown_grid block v).columns column [] ≡ shown_column block v column
column_of block v column lt = get_or-tabulate v.columns (shown_column block v) column [] lt

pub columns_of : (block : CellBlock) (v : View) → length (shown_grid block v).columns ≡ v.columns
columns_of block v = length-tabulate v.columns (shown_column block v)

-- all of a block is the block
pub shown_whole : (g : CellBlock) (block : ℕ) → IsEven g → shown_grid g (whole_view block g) ≡ g
shown_whole g block even =
    ap (λ (columns : List (List Cell)). record { kind = g.kind; rows = g.rows; columns = columns })
    (tabulate-self g.columns (length g.columns) (shown_column g (whole_view block g)) [] refl (λ k lt.
    tabulate-self (slice_index_or g.columns (0 + k) []) g.rows (shown_cell (whole_view block g) (slice_index_or g.columns (0 + k) [])) Na
    (ap (λ i. length (slice_index_or g.columns i [])) (omega arith) ∙ even.each k [] lt)
    (λ row below. ap (λ place. slice_index_or (slice_index_or g.columns (0 + k) []) place Na) (omega arith))
    ∙ ap (λ i. slice_index_or g.columns i []) (omega arith)))

pub whole_placed : (g : CellBlock) (block : ℕ) → IsEven g → IsPlaced g (whole_view block g)
whole_placed g block even = record {
  columns = omega arith;
  fits = record { within = λ row lt. omega (arith, lt); above = λ e row lt. absurd (false≢true e); alike = refl };
  moves = λ two. omega arith;
  short = omega arith;
}

-- a view has no more rows than its block
pub count_within : (block : CellBlock) (v : View) → IsPlaced block v → v.count ≤ block.rows
count_within block v p = elim (cases_lt 1 v.count) [
  | inl two ↦
      let last : v.count - 1 < v.count = omega (arith, two) in
      far v.start v.stride v.back v.count block.rows two (p.moves two) (p.fits.within (v.count - 1) last) (λ e. p.fits.above e (v.count - 1) last) (p.fits.within 0 (omega (arith, two)))
  | inr few ↦ short v.start v.stride v.back v.count block.rows few (λ some. p.fits.within 0 some)
]
  where
    most : (n s : ℕ) → 0 < s → n ≤ n * s
    most n zero h = absurd (omega (arith, h))
    most n (suc s) h = omega arith

    far : (start stride : ℕ) (back : Bool) (n rows : ℕ) → 1 < n → 0 < stride → lane_place start stride back (n - 1) < rows → (back ≡ true → (n - 1) * stride ≤ start) → lane_place start stride back 0 < rows → n ≤ rows
    far start stride false n rows two moves within above first = omega (arith, within, most (n - 1) stride moves, two)
    far start stride true n rows two moves within above first = omega (arith, above refl, most (n - 1) stride moves, two, first)

    short : (start stride : ℕ) (back : Bool) (n rows : ℕ) → n ≤ 1 → (0 < n → lane_place start stride back 0 < rows) → n ≤ rows
    short start stride back zero rows few first = omega arith
    short start stride back (suc n) rows few first = let h = first (omega arith) in omega (arith, h, few)

-- what a view shows is even
pub shown_even : (block : CellBlock) (v : View) → IsEven block → IsPlaced block v → IsEven (shown_grid block v)
shown_even block v even p = record {
  each = λ k d lt.
      let below : k < v.columns = omega (arith, lt, length-tabulate v.columns (shown_column block v)) in
      ap length (get_or-tabulate v.columns (shown_column block v) k d below) ∙ length-tabulate v.count _;
  short = omega (arith, even.short, count_within block v p);
}

-- a view of columns and rows of a view
pub cut_shown : (block : CellBlock) (v w : View) (from count : ℕ) (rows : Rows) → w.first ≡ v.first + from → w.columns ≡ count → w.count ≡ rows.count → from + count ≤ v.columns → AreRowsBelow rows v.count
    → ((row : ℕ) → row < rows.count → lane_place w.start w.stride w.back row ≡ lane_place v.start v.stride v.back (place_from rows.start rows.step row))
    → shown_grid block w ≡ cut (shown_grid block v) from count rows
cut_shown block v w from count rows first columns many within below places =
    ap₂ (λ (n : ℕ) (columns : List (List Cell)). record { kind = block.kind; rows = n; columns = columns }) many
    (ap (λ n. tabulate n (shown_column block w)) columns
    ∙ range-same (shown_column block w) (λ column. strided Na (slice_index_or (tabulate v.columns (shown_column block v)) (from + column) []) rows) 0 count (λ column le lt.
    let old : List Cell = slice_index_or block.columns (v.first + (from + column)) [] in
    let here : w.first + column ≡ v.first + (from + column) = omega (arith, first) in
    ap (λ i. tabulate w.count (shown_cell w (slice_index_or block.columns i []))) here
    ∙ ap (λ n. tabulate n (shown_cell w old)) many
    ∙ range-same (shown_cell w old) (λ row. slice_index_or (tabulate v.count (shown_cell v old)) (place_from rows.start rows.step row) Na) 0 rows.count (λ row le' lt'.
    ap (λ place. slice_index_or old place Na) (places row (omega (arith, lt')))
    ∙ sym (get_or-tabulate v.count (shown_cell v old) (place_from rows.start rows.step row) Na (below.below row (omega (arith, lt')))))
    ∙ ap (λ cells. strided Na cells rows) (sym (get_or-tabulate v.columns (shown_column block v) (from + column) [] (omega (arith, lt, within))))))

pub cut_placed : (block : CellBlock) (v w : View) (from count limit : ℕ) → IsPlaced block v → limit ≡ block.rows → from + count ≤ v.columns → w.first ≡ v.first + from → w.columns ≡ count
    → LaneFits w.start w.stride w.back w.count limit limit → (1 < w.count → 0 < w.stride) → w.stride < 2 ^ 63 → IsPlaced block w
cut_placed block v w from count limit p is within first columns fits moves short = record {
  columns = omega (arith, p.columns, within, first, columns);
  fits = subst (λ n. LaneFits w.start w.stride w.back w.count n n) is fits;
  moves = moves;
  short = short;
}

-- the block with another cell
abbrev pub block_with_cell : CellBlock → ℕ → ℕ → Cell → CellBlock
block_with_cell = grid_with

module _ (block : CellBlock) (even : IsEven block) (column at : ℕ) (cell : Cell) (within : column < length block.columns) where
  pub set_length : length (block_with_cell block column at cell).columns ≡ length block.columns
  set_length = length-set block.columns column _

  pub set_even : IsEven (block_with_cell block column at cell)
  set_even = record {
    each = λ k d lt. elim (cases_eq k column) [
      | inl e ↦ ap (λ i. length (slice_index_or (block_with_cell block column at cell).columns i d)) e
          ∙ ap length (get_or-set_same block.columns column _ d within)
          ∙ length-set (slice_index_or block.columns column []) at cell ∙ even.each column [] within
      | inr ne ↦ ap length (get_or-set_other block.columns column k _ d ne) ∙ even.each k d (omega (arith, lt, set_length))
    ];
    short = even.short;
  }

  pub set_placed : (w : View) → IsPlaced block w → IsPlaced (block_with_cell block column at cell) w
  set_placed w p = record { columns = omega (arith, p.columns, set_length); fits = p.fits; moves = p.moves; short = p.short }

-- a cell of a view is set
pub set_shown : (block : CellBlock) (v : View) (column row : ℕ) (cell : Cell) → IsEven block → IsPlaced block v → column < v.columns → row < v.count
    → shown_grid (block_with_cell block (v.first + column) (lane_place v.start v.stride v.back row) cell) v ≡ grid_with (shown_grid block v) column row cell
set_shown block v column row cell even p lt below =
    let at = lane_place v.start v.stride v.back row in
    let new = block_with_cell block (v.first + column) at cell in
    let old : List Cell = slice_index_or block.columns (v.first + column) [] in
    let within : v.first + column < length block.columns = omega (arith, p.columns, lt) in
    let changed : slice_index_or new.columns (v.first + column) [] ≡ slice_set old at cell = get_or-set_same block.columns (v.first + column) _ [] within in
    let long : at < length old = subst (λ n. at < n) (sym (even.each (v.first + column) [] within)) (p.fits.within row below) in
    let cells : tabulate v.count (shown_cell v (slice_set old at cell)) ≡ slice_set (tabulate v.count (shown_cell v old)) row cell =
    sym (set-tabulate v.count (shown_cell v old) (shown_cell v (slice_set old at cell)) row cell below
    (get_or-set_same old at cell Na long)
    (λ k less ne. get_or-set_other old at (lane_place v.start v.stride v.back k) cell Na (λ e. ne (places_differ v block.rows p.fits p.moves k row less below e)))) in
    ap (λ (columns : List (List Cell)). record { kind = block.kind; rows = v.count; columns = columns })
    (sym (set-tabulate v.columns (shown_column block v) (shown_column new v) column _ lt
    (ap (λ l. tabulate v.count (shown_cell v l)) changed ∙ cells
    ∙ ap (λ l. slice_set l row cell) (sym (get_or-tabulate v.columns (shown_column block v) column [] lt)))
    (λ k less ne.
    let other : v.first + k ≢ v.first + column = λ e. ne (omega (arith, e)) in
    ap (λ l. tabulate v.count (shown_cell v l)) (get_or-set_other block.columns (v.first + column) (v.first + k) _ [] other))))
