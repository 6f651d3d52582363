-- Views whose columns are joined on one block.
use Rattle.{std.proofs.Common.{◌≡◌, ◌≢◌, ℕ, ◌+◌, ◌*◌, ◌<◌, ◌≤◌, ◌^◌, List, [], ◌∷◌, ◌++◌, map, length, refl, ap, ap₂, sym, ◌∙◌, subst, arith, Option, Some, None, IsSome, inl, inr, length-append, get_or, take}, std.proofs.lemmas.{Bool.{false≢true, cases_eq}, Option.{same_Some}, List.{length-map, map-id, append-nil, map-append, get_or_append_left, get_or-map, take_more, take_all, Concat.{flat_map-append}, Folds.{length-flat_map-take}}, Simd.{map-map}}, std.specs.{Prelude.{sum, All}, List.{flat_map, take-map}, Option.{option_map}, Cmp.{nat_cmp_total}, FinMap.{FinMap, get, insert, remove, values, same_map, nat_cmp-IsAntisymmetric}, Ordering.{nat_cmp}}, cell_core.specs.declared.cell.Kind.{Kind}, column_core.{specs.{Blocks.{CellBlock, IsColumnOf, FitBlock, block_with, columns_in}, Columns.{CellColumn}}, proofs.ColumnLaws.{length-tabulate}, proofs.cells.Common.{Cell, All-append, All-map, All-nil}}, block_pool.{specs.{declared.{views.View.{View}, lots.Lot.{Lot}}, Pools.{ViewValue, PoolValue, full_view, view_or, view_at, view_with, block_at, grid_at, cells_of, total_of, beside, IsFull, IsApart, IsAlike, CanJoin, EndEach, Ends, Joins, with_block}, Placed.{slot, Puts, shown_grid, block_of, size_of, users_of, lot_cells, view_on, seen_over, pool_value, IsEven, IsPlaced, IsPool}}, proofs.{Slots.{inserted, sum_put}, PoolLaws.{on, one_if_some, on_same, on_other, two_users, block_is, get_block}, LotLaws.{seen_kept}, ShowLaws.{whole_view, shown_whole, whole_placed, columns_of, column_of, count_within}, BlockMoves.{new_lot}, LyingLaws.{Lies}, TotalLaws.{total-remove}, ChangeLaws.{get-put, get-put_other, get-gone, get-gone_other, live_kept, grid_kept, block_kept, ends_other, ends_sole}}}}

-- a view that is alone on its block has another block under the same name
module _ (lots lots' : List (Option Lot)) (views views' : List (Option View)) (spare capacity held held' id : ℕ) (v : View) (g : CellBlock)
    (ok : IsPool lots views spare capacity held) (is : slot views id ≡ Some v) (single : users_of (slot lots v.block) ≡ 1) (even : IsEven g)
    (put_lot : Puts lots lots' v.block (Some (new_lot g))) (put_view : Puts views views' id (Some (whole_view v.block g))) where
  apart : (q : ℕ) (w : View) → q ≢ id → slot views q ≡ Some w → w.block ≢ v.block
  apart q w ne there e = omega (arith, two_users lots views spare capacity held ok _ refl id v is q w ne there e, single)

  stays : (q : ℕ) (w : View) → q ≢ id → slot views q ≡ Some w → slot lots' w.block ≡ slot lots w.block
  stays q w ne there = put_lot.others w.block (apart q w ne there)

  pub changed_pool : held' + size_of (slot lots v.block) ≡ held + cells_of g → IsPool lots' views' spare capacity held'
  changed_pool counts = record {
    placed = λ q w there. elim (cases_eq q id) [
      | inl e ↦
          let same : whole_view v.block g ≡ w = same_Some (whole_view v.block g) w (sym put_view.changed ∙ ap (λ i. slot views' i) (sym e) ∙ there) in
          subst (λ (x : View). IsPlaced (block_of (slot lots' x.block)) x) same (subst (λ (o : Option Lot). IsPlaced (block_of o) (whole_view v.block g)) (sym put_lot.changed) (whole_placed g v.block even))
      | inr ne ↦
          let before : slot views q ≡ Some w = sym (put_view.others q ne) ∙ there in
          subst (λ (o : Option Lot). IsPlaced (block_of o) w) (sym (stays q w ne before)) (ok.placed q w before)
    ];
    counted = λ b.
        let moved = sum_put (on b) refl views views' id (Some (whole_view v.block g)) put_view in
        let was : on b (slot views id) ≡ on b (Some v) = ap (on b) is in
        elim (cases_eq b v.block) [
          | inl e ↦
              let users : users_of (slot lots' b) ≡ 1 = ap (λ i. users_of (slot lots' i)) e ∙ ap users_of put_lot.changed in
              let before : users_of (slot lots b) ≡ 1 = ap (λ i. users_of (slot lots i)) e ∙ single in
              omega (arith, moved, was, ok.counted b, users, before, on_same b v (sym e), on_same b (whole_view v.block g) (sym e))
          | inr ne ↦ omega (arith, moved, was, ok.counted b, ap users_of (put_lot.others b ne), on_other b v (λ z. ne (sym z)), on_other b (whole_view v.block g) (λ z. ne (sym z)))
        ];
    used = λ b some. elim (cases_eq b v.block) [
      | inl e ↦ (let users : users_of (slot lots' b) ≡ 1 = ap (λ i. users_of (slot lots' i)) e ∙ ap users_of put_lot.changed in omega (arith, users))
      | inr ne ↦ subst (λ (o : Option Lot). 0 < users_of o) (sym (put_lot.others b ne)) (ok.used b (subst IsSome (put_lot.others b ne) some))
    ];
    even = λ b. elim (cases_eq b v.block) [
      | inl e ↦ subst (λ (o : Option Lot). IsEven (block_of o)) (sym (ap (λ i. slot lots' i) e ∙ put_lot.changed)) even
      | inr ne ↦ subst (λ (o : Option Lot). IsEven (block_of o)) (sym (put_lot.others b ne)) (ok.even b)
    ];
    room = (let moved = sum_put one_if_some refl views views' id (Some (whole_view v.block g)) put_view in omega (arith, moved, ap one_if_some is, ok.room));
    cells = (let more = sum_put size_of refl lots lots' v.block _ put_lot in omega (arith, more, counts, ok.cells));
  }

  pub changed_with : (pool : PoolValue) → pool_value lots views spare ≡ pool → pool_value lots' views' spare ≡ with_block pool id g
  changed_with pool e =
      let at : block_at pool id ≡ v.block = block_is lots views spare pool e id v is in
      let here : seen_over lots' (whole_view v.block g) ≡ full_view (block_at pool id) g =
      ap (λ (o : Option Lot). view_on (block_of o) (whole_view v.block g)) put_lot.changed
      ∙ ap (view_with (full_view v.block g)) (shown_whole g v.block even)
      ∙ ap (λ (b : ℕ). full_view b g) (sym at) in
      let all_views = inserted (seen_over lots) (seen_over lots') views views' id (λ q w ne there. seen_kept lots lots' w (ap block_of (stays q w ne there))) (whole_view v.block g) put_view
      ∙ ap₂ (λ (p : PoolValue) (s : ViewValue). insert p.views id s) e here in
      let all_blocks = inserted lot_cells lot_cells lots lots' v.block (λ q w ne there. refl) (new_lot g) put_lot
      ∙ ap₂ (λ (p : PoolValue) (b : ℕ). insert p.blocks b (cells_of g)) e (sym at) in
      ap₂ (λ (m : FinMap nat_cmp ViewValue) (b : FinMap nat_cmp ℕ). record { views = m; blocks = b; spare = spare }) all_views all_blocks
      ∙ ap (λ (p : PoolValue). record { views = insert pool.views id (full_view (block_at pool id) g); blocks = insert pool.blocks (block_at pool id) (cells_of g); spare = p.spare }) e

-- a view that has all cells of its block
module _ (lots : List (Option Lot)) (views : List (Option View)) (spare : ℕ) (pool : PoolValue) (e : pool_value lots views spare ≡ pool) (id : ℕ) (v : View) (lot : Lot) (is : slot views id ≡ Some v) (there : slot lots v.block ≡ Some lot) where
  block_cells : get pool.blocks (block_at pool id) ≡ Some (cells_of lot.block)
  block_cells =
      ap (λ b. get pool.blocks b) (block_is lots views spare pool e id v is)
      ∙ ap (λ (p : PoolValue). get p.blocks v.block) (sym e)
      ∙ get_block lots views spare v.block
      ∙ ap (option_map lot_cells) there

  pub full_shown : grid_at pool id ≡ shown_grid lot.block v → IsFull pool id → cells_of (shown_grid lot.block v) ≡ cells_of lot.block
  full_shown grid full = ap cells_of (sym grid) ∙ same_Some _ _ (sym full ∙ block_cells)

  pub shown_is_full : cells_of (grid_at pool id) ≡ cells_of lot.block → IsFull pool id
  shown_is_full same = block_cells ∙ ap Some (sym same)

  pub full_is_shown : IsFull pool id → cells_of (grid_at pool id) ≡ cells_of lot.block
  full_is_shown full = same_Some _ _ (sym full ∙ block_cells)

the_view : (o : Option ViewValue) → IsSome o → o ≡ Some (view_or o)
the_view None live = absurd (false≢true live)
the_view (Some v) live = refl

-- a view that has a block of its own ended
module _ (pool new : PoolValue) (id : ℕ) (ends : Ends pool new id) (here : IsApart pool id) where
  pub total_left : total_of new + cells_of (grid_at pool id) ≡ total_of pool
  total_left =
      ap (λ (m : FinMap nat_cmp ℕ). sum (values m) + cells_of (grid_at pool id)) (ends.sole here.sole)
      ∙ total-remove pool.blocks (block_at pool id) (cells_of (grid_at pool id)) here.full

  -- other such views stay
  pub still_apart : (q : ℕ) → q ≢ id → IsApart pool q → IsApart new q
  still_apart q ne there =
      let same = ends_other pool new id ends q ne in
      let other : block_at pool q ≢ block_at pool id = λ e. there.sole id (view_at pool id) (the_view (get pool.views id) here.live) (λ z. ne (sym z)) (sym e) in
      record {
        live = live_kept pool new q same there.live;
        sole = ends_sole pool new id ends q ne (λ o view is n _. there.sole o view is n);
        full = ap (get new.blocks) (block_kept pool new q same)
            ∙ ap (λ (m : FinMap nat_cmp ℕ). get m (block_at pool q)) (ends.sole here.sole)
            ∙ get-gone_other pool.blocks (block_at pool id) (block_at pool q) other
            ∙ there.full
            ∙ ap (λ (g : CellBlock). Some (cells_of g)) (sym (grid_kept pool new q same));
      }

-- the columns of grids
abbrev pub columns_all : List CellBlock → List CellColumn
columns_all grids = flat_map columns_in grids

cells_in : (g : CellBlock) → map (λ (c : CellColumn). c.cells) (columns_in g) ≡ g.columns
cells_in g = map-map _ _ g.columns ∙ map-id g.columns

cells_all : (grids : List CellBlock) → map (λ (c : CellColumn). c.cells) (columns_all grids) ≡ flat_map (λ (g : CellBlock). g.columns) grids
cells_all [] = refl
cells_all (g ∷ grids) = map-append _ (columns_in g) (columns_all grids) ∙ ap₂ (λ (a b : List (List Cell)). a ++ b) (cells_in g) (cells_all grids)

-- columns before those of a grid are the grid beside others
pub joined_grid : (grids : List CellBlock) (last : CellBlock) (items : List CellColumn) → items ≡ columns_all grids → block_with last.kind last.rows (items ++ columns_in last) ≡ beside grids last
joined_grid grids last items e =
    ap (λ (columns : List (List Cell)). record { kind = last.kind; rows = last.rows; columns = columns })
    (map-append _ items (columns_in last) ∙ ap₂ (λ (a b : List (List Cell)). a ++ b) (ap (map (λ (c : CellColumn). c.cells)) e ∙ cells_all grids) (cells_in last))

pub columns_count : (g : CellBlock) → length (columns_in g) ≡ length g.columns
columns_count g = length-map g.columns _

all_count : (grids : List CellBlock) → length (columns_all grids) ≡ length (flat_map (λ (g : CellBlock). g.columns) grids)
all_count [] = refl
all_count (g ∷ grids) = length-append (columns_in g) (columns_all grids) ∙ ap₂ (λ (a b : ℕ). a + b) (columns_count g) (all_count grids) ∙ sym (length-append g.columns (flat_map (λ (x : CellBlock). x.columns) grids))

all_more : (old : PoolValue) (first : List ℕ) (k : ℕ) → k < length first → columns_all (map (grid_at old) (take (k + 1) first)) ≡ columns_all (map (grid_at old) (take k first)) ++ columns_in (grid_at old (get_or first k 0))
all_more old first k lt =
    ap (λ (xs : List ℕ). columns_all (map (grid_at old) xs)) (take_more first k 0 lt)
    ∙ ap columns_all (map-append (grid_at old) (take k first) (get_or first k 0 ∷ []))
    ∙ flat_map-append columns_in (map (grid_at old) (take k first)) (grid_at old (get_or first k 0) ∷ [])
    ∙ ap (λ (cs : List CellColumn). columns_all (map (grid_at old) (take k first)) ++ cs) (append-nil (columns_in (grid_at old (get_or first k 0))))

-- so many columns fit beside the others
within_all : (old : PoolValue) (first : List ℕ) (k : ℕ) → k < length first → length (columns_all (map (grid_at old) (take k first))) + length (grid_at old (get_or first k 0)).columns ≤ length (columns_all (map (grid_at old) first))
within_all old first k lt =
    let h = length-flat_map-take columns_in (map (grid_at old) first) k (grid_at old 0) (omega (arith, lt, length-map first (grid_at old))) in
    let a = ap (λ (gs : List CellBlock). length (columns_all gs)) (take-map (grid_at old) k first) in
    let b : get_or (map (grid_at old) first) k (grid_at old 0) ≡ grid_at old (get_or first k 0) = get_or-map (grid_at old) first k 0 (grid_at old 0) lt in
    omega (arith, h, a, ap (λ (g : CellBlock). length (columns_in g)) b, columns_count (grid_at old (get_or first k 0)))

ends_more : (old mid new : PoolValue) (views : List ℕ) (id : ℕ) → EndEach old views mid → Ends mid new id → EndEach old (views ++ id ∷ []) new
ends_more old mid new [] id same ends = (new, subst (λ (p : PoolValue). Ends p new id) same ends, refl)
ends_more old mid new (x ∷ views) id chain ends = (chain.0, chain.1, ends_more chain.0 mid new views id chain.2 ends)

-- a block of another size
module _ (m : FinMap nat_cmp ℕ) (k n : ℕ) where
  gone-again : remove (insert m k n) k ≡ remove m k
  gone-again = same_map nat_cmp_total nat_cmp-IsAntisymmetric _ _ (λ q. elim (cases_eq q k) [
    | inl e ↦ ap (get (remove (insert m k n) k)) e ∙ get-gone (insert m k n) k ∙ sym (get-gone m k) ∙ ap (get (remove m k)) (sym e)
    | inr ne ↦ get-gone_other (insert m k n) k q ne ∙ get-put_other m k n q ne ∙ sym (get-gone_other m k q ne)
  ])

  total-changed : (was : ℕ) → get m k ≡ Some was → sum (values (insert m k n)) + was ≡ sum (values m) + n
  total-changed was is =
      omega (arith, total-remove (insert m k n) k n (get-put m k n), total-remove m k was is, ap (λ (w : FinMap nat_cmp ℕ). sum (values w)) gone-again)

pub total_with_block : (pool : PoolValue) (id : ℕ) (g : CellBlock) → IsFull pool id → total_of (with_block pool id g) + cells_of (grid_at pool id) ≡ total_of pool + cells_of g
total_with_block pool id g full = total-changed pool.blocks (block_at pool id) (cells_of g) (cells_of (grid_at pool id)) full

-- views whose columns are joined, one after another
module _ (old : PoolValue) (first : List ℕ) (last : ℕ) where
  abbrev pub ids : List ℕ
  ids = first ++ last ∷ []

  abbrev pub whole : CellBlock
  whole = grid_at old last

  -- so far: these views ended, the others are as they were, and the columns of those that ended are in a list
  pub record Joining (self : PoolValue) (k : ℕ) (items : List CellColumn) : Type 0 where
    pub ended : EndEach old (take k first) self
    pub apart : (j : ℕ) → k ≤ j → j < length ids → IsApart self (get_or ids j 0)
    pub grids : (j : ℕ) → k ≤ j → j < length ids → grid_at self (get_or ids j 0) ≡ grid_at old (get_or ids j 0)
    pub columns : items ≡ columns_all (map (grid_at old) (take k first))
    pub total : total_of self + length items * whole.rows ≡ total_of old
    pub fit : All (IsColumnOf whole.kind whole.rows) items

module _ (old : PoolValue) (first : List ℕ) (last : ℕ) (can : CanJoin old first last) where
  abbrev all : List ℕ
  all = ids old first last

  abbrev last_grid_then : CellBlock
  last_grid_then = whole old first last

  first_id : (k : ℕ) → k < length first → get_or all k 0 ≡ get_or first k 0
  first_id k lt = get_or_append_left first (last ∷ []) 0 k lt

  last_id : get_or all (length first) 0 ≡ last
  last_id = at first
    where
      at : (xs : List ℕ) → get_or (xs ++ last ∷ []) (length xs) 0 ≡ last
      at [] = refl
      at (x ∷ xs) = at xs

  ids_long : length all ≡ length first + 1
  ids_long = length-append first (last ∷ [])

  alike_at : (k : ℕ) → k < length first → IsAlike last_grid_then (grid_at old (get_or first k 0))
  alike_at k lt = can.alike k 0 lt

  pub joining_start : (items : List CellColumn) → items ≡ [] → Joining old first last old 0 items
  joining_start items none = subst (Joining old first last old 0) (sym none) (record {
    ended = refl;
    apart = λ j le lt. can.apart j 0 lt;
    grids = λ j le lt. refl;
    columns = refl;
    total = omega arith;
    fit = All-nil _;
  })

  module _ (self : PoolValue) (k : ℕ) (items : List CellColumn) (so_far : Joining old first last self k items) where
    module _ (lt : k < length first) where
      abbrev id : ℕ
      id = get_or first k 0

      here : get_or all k 0 ≡ id
      here = first_id k lt

      pub one_apart : IsApart self id
      one_apart = subst (IsApart self) here (so_far.apart k (omega arith) (omega (arith, lt, ids_long)))

      same_grid : grid_at self id ≡ grid_at old id
      same_grid = subst (λ (q : ℕ). grid_at self q ≡ grid_at old q) here (so_far.grids k (omega arith) (omega (arith, lt, ids_long)))

      pub one_room : (len capacity : ℕ) → len ≡ length items → length (beside (map (grid_at old) first) last_grid_then).columns ≤ capacity → len + length (grid_at self id).columns ≤ capacity
      one_room len capacity counts room =
          omega (
            arith,
            counts,
            room,
            ap length so_far.columns,
            ap (λ (g : CellBlock). length g.columns) same_grid,
            within_all old first k lt,
            all_count (map (grid_at old) first),
            length-append (flat_map (λ (g : CellBlock). g.columns) (map (grid_at old) first)) last_grid_then.columns,
          )

      pub joining_more : (new : PoolValue) (items' : List CellColumn) → Ends self new id → items' ≡ items ++ columns_in (grid_at self id) → All (IsColumnOf (grid_at self id).kind (grid_at self id).rows) (columns_in (grid_at self id)) → Joining old first last new (k + 1) items'
      joining_more new items' ends is fits =
          let other : (j : ℕ) → k + 1 ≤ j → j < length all → get_or all j 0 ≢ id = λ j le below e. can.different k j 0 (omega (arith, le)) below (here ∙ sym e) in
          let kind : (grid_at self id).kind ≡ last_grid_then.kind = ap (λ (g : CellBlock). g.kind) same_grid ∙ (alike_at k lt).kind in
          let rows : (grid_at self id).rows ≡ last_grid_then.rows = ap (λ (g : CellBlock). g.rows) same_grid ∙ (alike_at k lt).rows in
          let long : length items' ≡ length items + length (grid_at self id).columns = ap length is ∙ length-append items (columns_in (grid_at self id)) ∙ ap (λ n. length items + n) (columns_count (grid_at self id)) in
          let left = total_left self new id ends one_apart in
          let size : cells_of (grid_at self id) ≡ length (grid_at self id).columns * last_grid_then.rows = ap (λ n. length (grid_at self id).columns * n) rows in
          record {
            ended = subst (λ (xs : List ℕ). EndEach old xs new) (sym (take_more first k 0 lt)) (ends_more old self new (take k first) id so_far.ended ends);
            apart = λ j le below. still_apart self new id ends one_apart (get_or all j 0) (other j le below) (so_far.apart j (omega (arith, le)) below);
            grids = λ j le below. grid_kept self new (get_or all j 0) (ends_other self new id ends (get_or all j 0) (other j le below)) ∙ so_far.grids j (omega (arith, le)) below;
            columns = is ∙ ap₂ (λ (a b : List CellColumn). a ++ b) so_far.columns (ap columns_in same_grid) ∙ sym (all_more old first k lt);
            total = ap (λ n. total_of new + n * last_grid_then.rows) long ∙ joined_sizes (total_of new) (total_of self) (length items) (length (grid_at self id).columns) last_grid_then.rows (total_of old) (omega (arith, left, size)) so_far.total;
            fit = subst (All (IsColumnOf last_grid_then.kind last_grid_then.rows)) (sym is) (All-append (IsColumnOf last_grid_then.kind last_grid_then.rows) items (columns_in (grid_at self id)) so_far.fit
                (subst (λ (n : ℕ). All (IsColumnOf last_grid_then.kind n) (columns_in (grid_at self id))) rows (subst (λ (x : Kind). All (IsColumnOf x (grid_at self id).rows) (columns_in (grid_at self id))) kind fits)));
          }
        where
          joined_sizes : (new self n m rows old : ℕ) → new + m * rows ≡ self → self + n * rows ≡ old → new + (n + m) * rows ≡ old
          joined_sizes new self n m rows old a b = omega (arith, a, b)

    module _ (done : k ≡ length first) where
      below : length first < length all
      below = omega (arith, ids_long)

      pub last_apart : IsApart self last
      last_apart = subst (IsApart self) last_id (so_far.apart (length first) (omega (arith, done)) below)

      pub last_grid : grid_at self last ≡ last_grid_then
      last_grid = subst (λ (q : ℕ). grid_at self q ≡ grid_at old q) last_id (so_far.grids (length first) (omega (arith, done)) below)

      all_taken : take k first ≡ first
      all_taken = take_all k first (omega (arith, done))

      pub last_fit : total_of old < 2 ^ 64 → FitBlock (grid_at self last).kind (grid_at self last).rows items
      last_fit small = subst (λ (g : CellBlock). FitBlock g.kind g.rows items) (sym last_grid) (record { each = so_far.fit; few = omega (arith, so_far.total, small) })

      pub last_few : (len : ℕ) → len ≡ length items → total_of old < 2 ^ 64 → total_of self + len * (grid_at self last).rows < 2 ^ 64
      last_few len counts small =
          let same : len * (grid_at self last).rows ≡ length items * last_grid_then.rows = ap₂ (λ (a b : ℕ). a * b) counts (ap (λ (g : CellBlock). g.rows) last_grid) in
          omega (arith, same, so_far.total, small)

      pub last_room : (len capacity : ℕ) → len ≡ length items → length (beside (map (grid_at old) first) last_grid_then).columns ≤ capacity → len + length (grid_at self last).columns ≤ capacity
      last_room len capacity counts room =
          omega (
            arith,
            counts,
            room,
            ap length so_far.columns,
            ap (λ (xs : List ℕ). length (columns_all (map (grid_at old) xs))) all_taken,
            ap (λ (g : CellBlock). length g.columns) last_grid,
            all_count (map (grid_at old) first),
            length-append (flat_map (λ (g : CellBlock). g.columns) (map (grid_at old) first)) last_grid_then.columns,
          )

      module _ (new : PoolValue) (is : new ≡ with_block self last (block_with (grid_at self last).kind (grid_at self last).rows (items ++ columns_in (grid_at self last)))) where
        joined_is : block_with (grid_at self last).kind (grid_at self last).rows (items ++ columns_in (grid_at self last)) ≡ beside (map (grid_at old) first) last_grid_then
        joined_is = ap (λ (g : CellBlock). block_with g.kind g.rows (items ++ columns_in g)) last_grid
            ∙ joined_grid (map (grid_at old) first) last_grid_then items (so_far.columns ∙ ap (λ (xs : List ℕ). columns_all (map (grid_at old) xs)) all_taken)

        pub joins : Joins old new first last
        joins = record {
          mid = self;
          ended = subst (λ (xs : List ℕ). EndEach old xs self) all_taken so_far.ended;
          is = is ∙ ap (with_block self last) joined_is;
        }

        pub joins_held : total_of new ≡ total_of old
        joins_held =
            let changed = total_with_block self last (beside (map (grid_at old) first) last_grid_then) last_apart.full in
            let long : length (beside (map (grid_at old) first) last_grid_then).columns ≡ length items + length last_grid_then.columns =
            length-append (flat_map (λ (g : CellBlock). g.columns) (map (grid_at old) first)) last_grid_then.columns
            ∙ ap (λ n. n + length last_grid_then.columns) (sym (ap length so_far.columns ∙ ap (λ (xs : List ℕ). length (columns_all (map (grid_at old) xs))) all_taken ∙ all_count (map (grid_at old) first))) in
            ap total_of (is ∙ ap (with_block self last) joined_is)
            ∙ sizes (total_of (with_block self last (beside (map (grid_at old) first) last_grid_then))) (total_of self) (length items) (length last_grid_then.columns) last_grid_then.rows (total_of old)
            (ap (λ n. total_of (with_block self last (beside (map (grid_at old) first) last_grid_then)) + n) (sym (ap cells_of last_grid)) ∙ changed ∙ ap (λ n. total_of self + n * last_grid_then.rows) long) so_far.total
          where
            sizes : (new self n m rows old : ℕ) → new + m * rows ≡ self + (n + m) * rows → self + n * rows ≡ old → new ≡ old
            sizes new self n m rows old a b = omega (arith, a, b)

-- the columns that a view shows
pub shown_fit : (block : CellBlock) (v : View) (n : ℕ) → n ≡ v.count → All (IsColumnOf (shown_grid block v).kind n) (columns_in (shown_grid block v))
shown_fit block v n e k d lt =
    let below : k < length (shown_grid block v).columns = omega (arith, lt, columns_count (shown_grid block v)) in
    let short : k < v.columns = omega (arith, below, columns_of block v) in
    subst (IsColumnOf block.kind n) (sym (get_or-map (λ (cells : List Cell). record { kind = block.kind; cells = cells }) (shown_grid block v).columns k [] d below))
    (record { alike = refl; long = ap length (column_of block v k short) ∙ length-tabulate v.count _ ∙ sym e })

pub block_even : (kind : Kind) (rows : ℕ) (columns : List CellColumn) → All (IsColumnOf kind rows) columns → rows < 2 ^ 63 → IsEven (block_with kind rows columns)
block_even kind rows columns each short = record {
  each = All-map (λ column. length column ≡ rows) (λ (c : CellColumn). c.cells) columns (λ k d lt. (each k d lt).long);
  short = short;
}

-- columns that are put before those of a view, which has all cells of its block
module _ (pool : PoolValue) (id : ℕ) (v : View) (lot : Lot) (at : Lies pool id v lot) (same : cells_of (grid_at pool id) ≡ cells_of lot.block) (kind : Kind) (k : kind ≡ lot.block.kind) (items items' : List CellColumn) (is : items' ≡ items ++ columns_in (shown_grid lot.block v))
    (fit : FitBlock (grid_at pool id).kind (grid_at pool id).rows items) (held : ℕ) (within : cells_of lot.block ≤ held) (few : held + length items * (grid_at pool id).rows < 2 ^ 64) where
  abbrev grid : CellBlock
  grid = grid_at pool id

  kind_is : kind ≡ grid.kind
  kind_is = k ∙ sym at.kind

  pub before_is : block_with kind v.count items' ≡ block_with grid.kind grid.rows (items ++ columns_in grid)
  before_is =
      ap₂ (λ (n : Kind) (rows : ℕ). block_with n rows items') kind_is (sym at.rows)
      ∙ ap (block_with grid.kind grid.rows) (is ∙ ap (λ (g : CellBlock). items ++ columns_in g) (sym at.grid))

  pub before_long : length items' ≡ length items + length grid.columns
  before_long = ap length is ∙ length-append items (columns_in (shown_grid lot.block v)) ∙ ap (λ n. length items + n) (columns_count (shown_grid lot.block v)) ∙ ap (λ (g : CellBlock). length items + length g.columns) (sym at.grid)

  before_each : All (IsColumnOf kind v.count) items'
  before_each = subst (All (IsColumnOf kind v.count)) (sym is) (All-append (IsColumnOf kind v.count) items (columns_in (shown_grid lot.block v))
      (subst (λ (n : Kind). All (IsColumnOf n v.count) items) (sym kind_is) (subst (λ rows. All (IsColumnOf grid.kind rows) items) at.rows fit.each))
      (subst (λ (n : Kind). All (IsColumnOf n v.count) (columns_in (shown_grid lot.block v))) (sym k) (shown_fit lot.block v v.count refl)))

  sizes : (a b rows : ℕ) → (a + b) * rows ≡ a * rows + b * rows
  sizes a b rows = omega arith

  pub before_size : length items' * v.count ≡ length items * grid.rows + cells_of lot.block
  before_size = ap₂ (λ (a b : ℕ). a * b) before_long (sym at.rows) ∙ sizes (length items) (length grid.columns) grid.rows ∙ ap (λ n. length items * grid.rows + n) same

  pub before_fit : FitBlock kind v.count items'
  before_fit = record { each = before_each; few = omega (arith, before_size, within, few) }

  pub before_even : IsEven (block_with kind v.count items')
  before_even = block_even kind v.count items' before_each (omega (arith, at.even.short, count_within lot.block v at.placed))
